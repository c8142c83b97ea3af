-- What a form spells is no shorter than what follows it.
use Rattle.std.proofs.Common.{◌≤◌, List, ◌∷◌, length, arith}
use Rattle.fm_lex.specs.declared.keyword.Keyword.TheVariants.{By, To}
use Rattle.fm_lex.specs.Tokens.{Lexed}
use Rattle.fm_grammar.specs.Grammar.{NumForm, LengthForm, share, ticks, PartForm, flat, slope, pause, breath, ExprForm, expr, FactorForm, register, index, negate, group, pick, compare, TermsForm, no_term, term, SumsForm, no_sum, sum, AmountForm, negative, PitchForm, named, keyed}
use Rattle.fm_grammar.specs.Grammar as forms
use Rattle.fm_grammar.specs.Signs.{tok, key, num, comma, close_parenthesis}
use Rattle.fm_grammar.specs.Spelling.{length_text, part_text, expr_text, factor_text, terms_text, sums_text, amount_text, pitch_text}

mutual
  pub expr_more : (e : ExprForm) (next : List Lexed) → length next ≤ length (expr_text e next)
  expr_more (expr f ts ss) next =
      omega (
        arith,
        factor_more f (terms_text ts (sums_text ss next)),
        terms_more ts (sums_text ss next),
        sums_more ss next,
      )

  factor_more : (f : FactorForm) (next : List Lexed) → length next ≤ length (factor_text f next)
  factor_more (forms.FactorForm.number n) next = omega arith
  factor_more (register r l) next = omega arith
  factor_more (index i l) next = omega arith
  factor_more (negate m f) next = omega (arith, factor_more f next)
  factor_more (group o e c) next = omega (arith, expr_more e (tok close_parenthesis c ∷ next))
  factor_more (pick w o e c) next = omega (arith, expr_more e (tok close_parenthesis c ∷ next))
  factor_more (compare f w o a m b c) next =
      omega (
        arith,
        expr_more a (tok comma m ∷ expr_text b (tok close_parenthesis c ∷ next)),
        expr_more b (tok close_parenthesis c ∷ next),
      )

  terms_more : (ts : TermsForm) (next : List Lexed) → length next ≤ length (terms_text ts next)
  terms_more no_term next = omega arith
  terms_more (term s l f ts) next = omega (arith, factor_more f (terms_text ts next), terms_more ts next)

  sums_more : (ss : SumsForm) (next : List Lexed) → length next ≤ length (sums_text ss next)
  sums_more no_sum next = omega arith
  sums_more (sum a l f ts ss) next =
      omega (
        arith,
        factor_more f (terms_text ts (sums_text ss next)),
        terms_more ts (sums_text ss next),
        sums_more ss next,
      )

pub amount_more : (a : AmountForm) (next : List Lexed) → length next ≤ length (amount_text a next)
amount_more (forms.AmountForm.number n) next = omega arith
amount_more (negative m n) next = omega arith
amount_more (forms.AmountForm.computed o e c) next = omega (arith, expr_more e (tok close_parenthesis c ∷ next))

pub pitch_more : (p : PitchForm) (next : List Lexed) → length next ≤ length (pitch_text p next)
pitch_more (named k l) next = omega arith
pitch_more (keyed w a) next = omega (arith, amount_more a next)

pub length_more : (l : LengthForm) (next : List Lexed) → length next ≤ length (length_text l next)
length_more (share a s b) next = omega arith
length_more (ticks w n) next = omega arith

pub part_more : (p : PartForm) (next : List Lexed) → length next ≤ length (part_text p next)
part_more (flat w l b s) next = omega (arith, length_more l (key By b ∷ num s ∷ next))
part_more (slope w l b s t e) next = omega (arith, length_more l (key By b ∷ num s ∷ key To t ∷ num e ∷ next))
part_more (pause w l) next = omega (arith, length_more l next)
part_more (breath w l) next = omega (arith, length_more l next)

pub num_more : (n : NumForm) (next : List Lexed) → length next ≤ length (num n ∷ next)
num_more n next = omega arith
