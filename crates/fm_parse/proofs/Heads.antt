-- The head of a score: whether its division comes.
use Rattle.std.proofs.Common.{◌≡◌, Bool, true, false, ◌&&◌, ◌==◌, List, ◌∷◌, Option, refl, subst}
use Rattle.fm_lex.specs.declared.keyword.Keyword.TheVariants.{Formula}
use Rattle.fm_lex.specs.Tokens.{Lexed}
use Rattle.fm_grammar.specs.declared.number.Number.{Number}
use Rattle.fm_grammar.specs.Score.{Leaf}
use Rattle.fm_grammar.specs.Grammar.{NumForm}
use Rattle.fm_grammar.specs.Signs.{semicolon, divided_version, tok, key, num}
use Rattle.fm_grammar.specs.Standing.{num_tree}
use Rattle.fm_grammar.specs.Reads.{Fault}
use Rattle.fm_grammar.specs.Rules.{behind_version}
use Rattle.fm_grammar.specs.Table.{says_division, is_divided}
use Rattle.fm_terms.specs.Follow.{At}
use Rattle.fm_parse.specs.Whole.{states}

-- behind the version, the test of the text is the one of the tokens that are left
pub divides : (w : Leaf) (n : NumForm) (e : Leaf) (version : Number) (old r s ts : List Lexed) → old ≡ key Formula w ∷ r
    → r ≡ num n ∷ s → version ≡ num_tree n → s ≡ tok semicolon e ∷ ts → is_divided old ≡ states version.value ts
divides w n e version old r s ts first second is third =
    rw (first, second, third, is) (by (n.value == divided_version) (says_division ts))
  where
    by : (b said : Bool) → ((b && true) && said) ≡ (b && said)
    by true said = refl
    by false said = refl

-- the same symbols for the same test
pub as_tested : (F : Option Fault) (ts : List Lexed) (b c : Bool) → b ≡ c → At F 0 (behind_version b) ts
    → At F 0 (behind_version c) ts
as_tested F ts b c same a = subst (λ d. At F 0 (behind_version d) ts) same a
