-- The tokens of a form fit its symbols.
use Rattle.std.proofs.Common.{◌≡◌, ℕ, ◌+◌, ◌≤◌, true, false, List, [], ◌∷◌, ◌++◌, Some, refl, subst, arith}
use Rattle.fm_lex.specs.Tokens.{Lexed}
use Rattle.fm_lex.specs.declared.kind.Kind.{Kind}
use Rattle.fm_lex.specs.declared.kind.Kind.TheVariants.{Number, Register, Index}
use Rattle.fm_lex.specs.declared.kind.Kind.TheVariants as kinds
use Rattle.fm_lex.specs.declared.keyword.Keyword.TheVariants.{Pick}
use Rattle.fm_grammar.specs.Score.{Leaf}
use Rattle.fm_grammar.specs.Grammar.{Scaling, times, over, modulo, Adding, plus, minus, Comparing, least, greatest, below, equal, ExprForm, expr, FactorForm, register, index, negate, group, pick, compare, TermsForm, no_term, term, SumsForm, no_sum, sum}
use Rattle.fm_grammar.specs.Grammar as forms
use Rattle.fm_grammar.specs.Signs.{open_parenthesis, close_parenthesis, comma, minus_sign, tok}
use Rattle.fm_grammar.specs.Spelling.{scaling_kind, adding_kind, comparing_word, expr_text, factor_text, terms_text, sums_text}
use Rattle.fm_grammar.specs.Within.{Limits, expr_size, factor_size, terms_size, sums_size}
use Rattle.fm_grammar.specs.Rules.{Sym, inner, kind_code, rules_of, may_end, inside}
use Rattle.fm_grammar.specs.Table.{taking, opened}
use Rattle.fm_grammar.specs.Rules as table
use Rattle.fm_grammar.proofs.Fits.{Derives, takes, leaves, fits_counts, fits_opens}

-- whatever was read of an expression before
abbrev pub Anyhow : Limits → List Sym → List Lexed → Type 0
Anyhow most ss ts = (u : ℕ) → u ≤ most.tokens → Derives most u ss ts

-- ---- inside an expression

-- the count of a derivation is within the limit
pub counts : (most : Limits) (u : ℕ) (ss : List Sym) (ts : List Lexed) → Derives most u ss ts → u ≤ most.tokens
counts most u ss ts d = fits_counts most d.steps u ss ts d.fits

-- and so are its braces
pub opens : (most : Limits) (u : ℕ) (ss : List Sym) (ts : List Lexed) → Derives most u ss ts → opened ss ≤ most.braces
opens most u ss ts d = fits_opens most d.steps u ss ts d.fits

-- the same count, said otherwise
pub recounted : (most : Limits) (u v : ℕ) (ss : List Sym) (ts : List Lexed) → u ≡ v → Derives most u ss ts → Derives most v ss ts
recounted most u v ss ts same d = subst (λ (n : ℕ). Derives most n ss ts) same d

-- a token of an expression
pub within : (most : Limits) (u : ℕ) (s : Sym) (ss next : List Sym) (k : Kind) (l : Leaf) (w : List Lexed)
    → inside s ≡ true → taking (kind_code k) (rules_of s) ≡ Some next → opened (s ∷ ss) ≡ opened (next ++ ss)
    → Derives most (u + 1) (next ++ ss) w → Derives most u (s ∷ ss) (tok k l ∷ w)
within most u s ss next k l w is rule same d =
    let count : u + 1 ≤ most.tokens = counts most (u + 1) (next ++ ss) w d in
    let open_here : opened (next ++ ss) ≤ most.braces = opens most (u + 1) (next ++ ss) w d in
    takes most u s ss (record { kind = k; text = l.text; spot = l.spot }) w next (rw same open_here) (omega arith) rule (rw is d)

-- a symbol of an expression that is left out
pub passed : (most : Limits) (u : ℕ) (s : Sym) (ss : List Sym) (w : List Lexed)
    → inside s ≡ true → may_end s ≡ true → opened (s ∷ ss) ≡ opened ss → Derives most u ss w → Derives most u (s ∷ ss) w
passed most u s ss w is may same d =
    leaves most u s ss w (rw same (opens most u ss w d)) (counts most u ss w d) may (rw is d)

-- a token outside of expressions
pub outer : (most : Limits) (s : Sym) (ss next : List Sym) (k : Kind) (l : Leaf) (w : List Lexed)
    → inside s ≡ false → taking (kind_code k) (rules_of s) ≡ Some next → opened (s ∷ ss) ≤ most.braces
    → Derives most 0 (next ++ ss) w → Anyhow most (s ∷ ss) (tok k l ∷ w)
outer most s ss next k l w is rule opened_here d = λ u count.
    takes most u s ss (record { kind = k; text = l.text; spot = l.spot }) w next opened_here count rule (rw is d)

-- a symbol outside of expressions that is left out
pub skipped : (most : Limits) (s : Sym) (ss : List Sym) (w : List Lexed)
    → inside s ≡ false → may_end s ≡ true → opened (s ∷ ss) ≡ opened ss → Anyhow most ss w → Anyhow most (s ∷ ss) w
skipped most s ss w is may same any = λ u count.
    let d = any 0 (omega arith) in leaves most u s ss w (rw same (opens most 0 ss w d)) count may (rw is d)

scaling_rule : (s : Scaling) → taking (kind_code (scaling_kind s)) (rules_of table.terms) ≡ Some (table.factor ∷ table.terms ∷ [])
scaling_rule times = refl
scaling_rule over = refl
scaling_rule modulo = refl

adding_rule : (a : Adding) → taking (kind_code (adding_kind a)) (rules_of table.sums) ≡ Some (table.expr [])
adding_rule plus = refl
adding_rule minus = refl

comparing_rule : (c : Comparing) → taking (kind_code (kinds.Keyword (comparing_word c))) (rules_of table.factor) ≡ Some table.two_exprs
comparing_rule least = refl
comparing_rule greatest = refl
comparing_rule below = refl
comparing_rule equal = refl

mutual
  pub fits_expr : (most : Limits) (e : ExprForm) (u : ℕ) (ss : List Sym) (w : List Lexed)
      → Derives most (u + expr_size e) ss w → Derives most u (table.expr ss) (expr_text e w)
  fits_expr most (expr f ts xs) u ss w d =
      fits_factor most f u (table.terms ∷ table.sums ∷ ss) (terms_text ts (sums_text xs w))
      (fits_terms most ts (u + factor_size f) (table.sums ∷ ss) (sums_text xs w)
      (fits_sums most xs (u + factor_size f + terms_size ts) ss w (recounted most _ _ ss w (omega arith) d)))

  fits_factor : (most : Limits) (f : FactorForm) (u : ℕ) (ss : List Sym) (w : List Lexed)
      → Derives most (u + factor_size f) ss w → Derives most u (table.factor ∷ ss) (factor_text f w)
  fits_factor most (forms.FactorForm.number n) u ss w d = within most u table.factor ss [] (Number n.value) n.leaf w refl refl refl d
  fits_factor most (register r l) u ss w d = within most u table.factor ss [] (Register r) l w refl refl refl d
  fits_factor most (index i l) u ss w d = within most u table.factor ss [] (Index i) l w refl refl refl d
  fits_factor most (negate m f) u ss w d =
      within most u table.factor ss (table.factor ∷ []) minus_sign m (factor_text f w) refl refl refl
      (fits_factor most f (u + 1) ss w (recounted most _ _ ss w (omega arith) d))
  fits_factor most (group o e c) u ss w d =
      within most u table.factor ss (table.expr (inner close_parenthesis ∷ [])) open_parenthesis o
      (expr_text e (tok close_parenthesis c ∷ w)) refl refl refl
      (fits_expr most e (u + 1) (inner close_parenthesis ∷ ss) (tok close_parenthesis c ∷ w)
      (within most (u + 1 + expr_size e) (inner close_parenthesis) ss [] close_parenthesis c w refl refl refl
      (recounted most _ _ ss w (omega arith) d)))
  fits_factor most (pick p o e c) u ss w d =
      within most u table.factor ss (inner open_parenthesis ∷ table.expr (inner close_parenthesis ∷ [])) (kinds.Keyword Pick) p
      (tok open_parenthesis o ∷ expr_text e (tok close_parenthesis c ∷ w)) refl refl refl
      (within most (u + 1) (inner open_parenthesis) (table.expr (inner close_parenthesis ∷ ss)) [] open_parenthesis o
      (expr_text e (tok close_parenthesis c ∷ w)) refl refl refl
      (fits_expr most e (u + 1 + 1) (inner close_parenthesis ∷ ss) (tok close_parenthesis c ∷ w)
      (within most (u + 1 + 1 + expr_size e) (inner close_parenthesis) ss [] close_parenthesis c w refl refl refl
      (recounted most _ _ ss w (omega arith) d))))
  fits_factor most (compare f p o a m b c) u ss w d =
      let last = tok close_parenthesis c ∷ w in
      let second = expr_text b last in
      within most u table.factor ss table.two_exprs (kinds.Keyword (comparing_word f)) p
      (tok open_parenthesis o ∷ expr_text a (tok comma m ∷ second)) refl (comparing_rule f) refl
      (within most (u + 1) (inner open_parenthesis)
      (table.expr (inner comma ∷ table.expr (inner close_parenthesis ∷ ss))) [] open_parenthesis o
      (expr_text a (tok comma m ∷ second)) refl refl refl
      (fits_expr most a (u + 1 + 1) (inner comma ∷ table.expr (inner close_parenthesis ∷ ss)) (tok comma m ∷ second)
      (within most (u + 1 + 1 + expr_size a) (inner comma) (table.expr (inner close_parenthesis ∷ ss)) [] comma m second refl refl refl
      (fits_expr most b (u + 1 + 1 + expr_size a + 1) (inner close_parenthesis ∷ ss) last
      (within most (u + 1 + 1 + expr_size a + 1 + expr_size b) (inner close_parenthesis) ss [] close_parenthesis c w refl refl refl
      (recounted most _ _ ss w (omega arith) d))))))

  fits_terms : (most : Limits) (ts : TermsForm) (u : ℕ) (ss : List Sym) (w : List Lexed)
      → Derives most (u + terms_size ts) ss w → Derives most u (table.terms ∷ ss) (terms_text ts w)
  fits_terms most no_term u ss w d = passed most u table.terms ss w refl refl refl (recounted most _ _ ss w (omega arith) d)
  fits_terms most (term s l f ts) u ss w d =
      within most u table.terms ss (table.factor ∷ table.terms ∷ []) (scaling_kind s) l (factor_text f (terms_text ts w)) refl
      (scaling_rule s) refl
      (fits_factor most f (u + 1) (table.terms ∷ ss) (terms_text ts w)
      (fits_terms most ts (u + 1 + factor_size f) ss w (recounted most _ _ ss w (omega arith) d)))

  fits_sums : (most : Limits) (xs : SumsForm) (u : ℕ) (ss : List Sym) (w : List Lexed)
      → Derives most (u + sums_size xs) ss w → Derives most u (table.sums ∷ ss) (sums_text xs w)
  fits_sums most no_sum u ss w d = passed most u table.sums ss w refl refl refl (recounted most _ _ ss w (omega arith) d)
  fits_sums most (sum a l f ts xs) u ss w d =
      within most u table.sums ss (table.expr []) (adding_kind a) l (factor_text f (terms_text ts (sums_text xs w))) refl
      (adding_rule a) refl
      (fits_factor most f (u + 1) (table.terms ∷ table.sums ∷ ss) (terms_text ts (sums_text xs w))
      (fits_terms most ts (u + 1 + factor_size f) (table.sums ∷ ss) (sums_text xs w)
      (fits_sums most xs (u + 1 + factor_size f + terms_size ts) ss w (recounted most _ _ ss w (omega arith) d))))
