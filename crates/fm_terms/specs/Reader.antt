-- The tokens that are left: the last one, and no other, is the end or a fault.
use Rattle.std.specs.Prelude.{◌≡◌, true, false, if◌then◌else◌, List, [], ◌∷◌, Ok, Err}
use Rattle.fm_lex.specs.declared.kind.Kind.{Kind}
use Rattle.fm_lex.specs.declared.kind.Kind.TheVariants.{End}
use Rattle.fm_lex.specs.Tokens.{Lexeme, Lexed}
use Rattle.fm_lex.specs.Layout.{is_end, is_last}

-- the last entry, and no other, is the end or a fault
abbrev pub EndsOnce : List Lexed → Type 0
EndsOnce [] = ⊥
EndsOnce (t ∷ []) = is_last t ≡ true
EndsOnce (t ∷ u ∷ us) = (is_last t ≡ false) × EndsOnce (u ∷ us)

-- what follows the first entry
abbrev pub tail : List Lexed → List Lexed
tail [] = []
tail (t ∷ ts) = ts

-- the kind of the first entry
abbrev pub first_kind : List Lexed → Kind
first_kind [] = End
first_kind (Ok t ∷ ts) = t.kind
first_kind (Err f ∷ ts) = End

-- a token and what is read behind it, which is nothing behind the end
abbrev pub left_with : Lexeme → List Lexed → List Lexed
left_with t later = Ok t ∷ (if is_end t.kind then [] else later)
