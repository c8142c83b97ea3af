-- How the tokens of a text stand in it: one after another, with blanks and comments between them.
use Rattle.std.specs.Prelude.{◌≡◌, ℕ, ◌+◌, Bool, true, false, not, ◌==◌, if◌then◌else◌, count_by, List, [], ◌∷◌, ◌++◌, Option, Some, None, Ok, Err}
use Rattle.std.specs.List.{suffix_len}
use Rattle.fm_lex.specs.declared.spot.Spot.{Spot}
use Rattle.fm_lex.specs.declared.kind.Kind.{Kind}
use Rattle.fm_lex.specs.declared.kind.Kind.TheVariants.{End}
use Rattle.fm_lex.specs.Bytes.{is_blank}
use Rattle.fm_lex.specs.Tokens.{Lexed, lexed_at, text_of}

-- the spot behind some bytes: 1 and their line feeds, 1 and the bytes since the last one
abbrev pub spot_behind : List ℕ → Spot
spot_behind before = record {
  line = 1 + count_by (λ x. x == 10) before;
  column = 1 + suffix_len (λ x. not (x == 10)) before;
}

-- whether blanks and comments end inside a comment, begun inside one or not; None where another byte is among them
abbrev pub gap_ends : Bool → List ℕ → Option Bool
gap_ends in_comment [] = Some in_comment
gap_ends true (x ∷ xs) = gap_ends (not (x == 10)) xs
gap_ends false (x ∷ xs) = if x == 35 then gap_ends true xs else if is_blank x then gap_ends false xs else None

-- whether a kind is the end
abbrev pub is_end : Kind → Bool
is_end End = true
is_end k = false

-- whether nothing comes behind: the end, or a fault
abbrev pub is_last : Lexed → Bool
is_last (Ok t) = is_end t.kind
is_last (Err f) = true

-- behind a gap, and behind the bytes before it, a token stands that is read there; what follows comes next
pub record Stands (in_comment : Bool) (before rest : List ℕ) (t : Lexed) (Next : List ℕ → List ℕ
    → Type 0) : Type 0 where
  pub gap : List ℕ
  pub after : List ℕ
  pub place : rest ≡ gap ++ (text_of t ++ after)
  pub apart : gap_ends in_comment gap ≡ Some false
  pub read : t ≡ lexed_at (spot_behind (before ++ gap)) (text_of t ++ after)
  pub goes_on : is_last t ≡ false
  pub next : Next (before ++ (gap ++ text_of t)) after

-- behind a gap the end comes, or a fault
pub record Ends (in_comment : Bool) (before rest : List ℕ) (t : Lexed) : Type 0 where
  pub gap : List ℕ
  pub left : List ℕ
  pub place : rest ≡ gap ++ left
  pub in_last : Bool
  pub apart : gap_ends in_comment gap ≡ Some in_last
  pub closed : in_last ≡ true → left ≡ []
  pub read : t ≡ lexed_at (spot_behind (before ++ gap)) left
  pub last : is_last t ≡ true

-- the tokens of what is left of a text, behind some bytes
abbrev pub AreTokens : Bool → List ℕ → List ℕ → List Lexed → Type 0
AreTokens in_comment before rest [] = ⊥
AreTokens in_comment before rest (t ∷ []) = Ends in_comment before rest t
AreTokens in_comment before rest (t ∷ u ∷ us) = Stands in_comment before rest t (λ b r. AreTokens false b r (u ∷ us))
