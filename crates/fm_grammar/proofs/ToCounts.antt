-- What fits the symbol of a count is the tokens of one.
use Rattle.std.proofs.Common.{◌≡◌, ℕ, zero, suc, ◌≤◌, inl, inr, List, [], ◌∷◌, ◌++◌, Ok, refl, ap, ◌∙◌}
use Rattle.fm_lex.specs.Tokens.{Lexeme, Lexed}
use Rattle.fm_lex.specs.declared.kind.Kind.TheVariants.{Number}
use Rattle.fm_lex.specs.declared.kind.Kind.TheVariants as kinds
use Rattle.fm_lex.specs.declared.keyword.Keyword.TheVariants.{Max}
use Rattle.fm_grammar.specs.Score.{Leaf}
use Rattle.fm_grammar.specs.Grammar.{NumForm, ExprForm}
use Rattle.fm_grammar.specs.Signs.{open_parenthesis, close_parenthesis, tok, key, num}
use Rattle.fm_grammar.specs.Spelling.{expr_text}
use Rattle.fm_grammar.specs.Within.{Limits, expr_size}
use Rattle.fm_grammar.specs.Rules.{Sym, one, any_number, kind_code, rules_of}
use Rattle.fm_grammar.specs.Rules as table
use Rattle.fm_grammar.proofs.Fits.{Fits, more_steps}
use Rattle.fm_grammar.proofs.Alive.{In}
use Rattle.fm_grammar.proofs.Telling.{tells_keyword, tells_symbol, number_kind, leaf_of}
use Rattle.fm_grammar.proofs.ToForms.{ruled, at_rule, with_token, Split, to_sign, num_form, to_num}
use Rattle.fm_grammar.proofs.ToExprs.{to_expr}

-- a form of one token more in front
pub more_of : (most : Limits) (n : ℕ) (ss : List Sym) (w : List Lexed) → Fits most n 0 ss w → Fits most (suc n) 0 ss w
more_of most n ss w fits = more_steps most n 0 ss w fits

-- ---- a keyword and a number; a count

-- a count: a number, or an expression with its greatest value
pub data CountForm : Type 0 where
  plain : NumForm → CountForm
  clamped : (opens : Leaf) → ExprForm → (closes max : Leaf) → NumForm → CountForm

-- its tokens
abbrev pub count_text : CountForm → List Lexed → List Lexed
count_text (plain n) next = num n ∷ next
count_text (clamped o e c m n) next = tok open_parenthesis o ∷ expr_text e (tok close_parenthesis c ∷ key Max m ∷ num n ∷ next)

-- and its limit
abbrev pub CountWithin : ℕ → CountForm → Type 0
CountWithin most (plain n) = Unit {0}
CountWithin most (clamped o e c m n) = expr_size e ≤ most

counted_case : (most : Limits) (n : ℕ) (ss : List Sym) (ts later : List Lexed) (t : Lexeme) (next : List Sym) → ts ≡ Ok t ∷ later
    → Fits most n 0 (next ++ ss) later → In (kind_code t.kind) next (rules_of table.counted)
    → Split most (suc n) ss ts count_text (CountWithin most.tokens)
counted_case most n ss ts later t next place fits (inl (code, same)) =
    let kind = number_kind t.kind code in record {
      form = plain (num_form kind.0 t);
      rest = later;
      place = with_token ts later later t (Number kind.0) place kind.1 refl;
      within = tt;
      fits = more_of most n ss later (at_rule most n 0 [] next ss later same fits);
    }
counted_case most n ss ts later t next place fits (inr (inl (code, same))) =
    let e = to_expr most n (one close_parenthesis ∷ one (kinds.Keyword Max) ∷ one any_number ∷ ss) later
    (at_rule most n 0 (table.with_most []) next ss later same fits) in
    let c = to_sign most close_parenthesis (tells_symbol 41) n e.count (one (kinds.Keyword Max) ∷ one any_number ∷ ss) e.rest e.fits in
    let m = to_sign most (kinds.Keyword Max) (tells_keyword Max) n 0 (one any_number ∷ ss) c.rest c.fits in
    let v = to_num most n 0 ss m.rest m.fits in record {
      form = clamped (leaf_of t) e.form c.form m.form v.form;
      rest = v.rest;
      place = with_token ts later _ t open_parenthesis place (tells_symbol 40 t.kind code)
          (e.place ∙ ap (λ (x : List Lexed). expr_text e.form x) (c.place ∙ ap (λ (x : List Lexed). tok close_parenthesis c.form ∷ x)
          (m.place ∙ ap (λ (x : List Lexed). key Max m.form ∷ x) v.place)));
      within = e.within;
      fits = more_of most n ss v.rest v.fits;
    }
counted_case most n ss ts later t next place fits (inr (inr none)) = absurd none

-- what fits the symbol of a count is the tokens of one
pub to_count : (most : Limits) (n u : ℕ) (ss : List Sym) (ts : List Lexed) → Fits most n u (table.counted ∷ ss) ts
    → Split most n ss ts count_text (CountWithin most.tokens)
to_count most zero u ss ts fits = absurd fits
to_count most (suc n) u ss ts fits =
    let r = ruled most n u table.counted ss ts refl fits in counted_case most n ss ts r.rest r.token r.next r.place r.fits r.rule
