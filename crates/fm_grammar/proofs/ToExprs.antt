-- What fits an expression's symbols is the tokens of an expression.
use Rattle.std.proofs.Common.{◌≡◌, ℕ, zero, suc, ◌+◌, ◌≤◌, inl, inr, List, [], ◌∷◌, ◌++◌, Ok, refl, ap, ◌∙◌, subst, arith}
use Rattle.fm_lex.specs.Tokens.{Lexeme, Lexed}
use Rattle.fm_lex.specs.declared.kind.Kind.{Kind}
use Rattle.fm_lex.specs.declared.kind.Kind.TheVariants.{Number, Register, Index}
use Rattle.fm_lex.specs.declared.kind.Kind.TheVariants as kinds
use Rattle.fm_lex.specs.declared.keyword.Keyword.TheVariants.{Max, Pick, Min, Less, Same}
use Rattle.fm_grammar.specs.Score.{Leaf}
use Rattle.fm_grammar.specs.Grammar.{Scaling, times, over, modulo, Adding, plus, minus, Comparing, least, greatest, below, equal, ExprForm, expr, FactorForm, register, index, negate, group, pick, compare, no_term, term, no_sum, sum, rest}
use Rattle.fm_grammar.specs.Grammar as forms
use Rattle.fm_grammar.specs.Signs.{open_parenthesis, close_parenthesis, comma, minus_sign, tok}
use Rattle.fm_grammar.specs.Spelling.{scaling_kind, adding_kind, comparing_word, expr_text, factor_text, terms_text, sums_text}
use Rattle.fm_grammar.specs.Within.{Limits, expr_size, factor_size, terms_size, sums_size}
use Rattle.fm_grammar.specs.Rules.{Sym, inner, kind_code, rules_of}
use Rattle.fm_grammar.specs.Rules as table
use Rattle.fm_grammar.proofs.Fits.{Fits, more_steps, fits_counts}
use Rattle.fm_grammar.proofs.Alive.{In}
use Rattle.fm_grammar.proofs.Telling.{Tells, tells_keyword, tells_symbol, number_kind, register_kind, index_kind, leaf_of}
use Rattle.fm_grammar.proofs.ToForms.{Ruled, ruled_take, ruled, at_rule, with_token, sign_text, num_form}

-- the tokens are those of a form inside an expression, and a rest that fits what stands below
pub record Inside (most : Limits) (n u : ℕ) (ss : List Sym) (ts : List Lexed) {A : Type 0} (text : A → List Lexed → List Lexed)
    (size : A → ℕ) : Type 0 where
  pub form : A
  pub rest : List Lexed
  pub place : ts ≡ text form rest
  pub fits : Fits most n (u + size form) ss rest

-- the same count, said otherwise
recount : (most : Limits) (n u v : ℕ) (ss : List Sym) (ts : List Lexed) → u ≡ v → Fits most n u ss ts → Fits most n v ss ts
recount most n u v ss ts same fits = subst (λ (x : ℕ). Fits most n x ss ts) same fits

-- one token
abbrev single : Leaf → ℕ
single l = 1

to_inner : (most : Limits) (k : Kind) → Tells k → (n u : ℕ) (ss : List Sym) (ts : List Lexed)
    → Fits most n u (inner k ∷ ss) ts → Inside most n u ss ts (sign_text k) single
to_inner most k tells zero u ss ts fits = absurd fits
to_inner most k tells (suc n) u ss ts fits = on (ruled most n u (inner k) ss ts refl fits)
  where
    on : Ruled most n (u + 1) (inner k) ss ts → Inside most (suc n) u ss ts (sign_text k) single
    on r = by r.rule
      where
        by : In (kind_code r.token.kind) r.next (rules_of (inner k)) → Inside most (suc n) u ss ts (sign_text k) single
        by (inl (code, same)) = record {
          form = leaf_of r.token;
          rest = r.rest;
          place = with_token ts r.rest r.rest r.token k r.place (tells r.token.kind code) refl;
          fits = more_steps most n (u + 1) ss r.rest (at_rule most n (u + 1) [] r.next ss r.rest same r.fits);
        }
        by (inr none) = absurd none

-- what is known of derivations of so many steps
record Exprs (most : Limits) (n : ℕ) : Type 0 where
  factors : (u : ℕ) (ss : List Sym) (ts : List Lexed) → Fits most n u (table.factor ∷ ss) ts
      → Inside most n u ss ts factor_text factor_size
  scaled : (u : ℕ) (ss : List Sym) (ts : List Lexed) → Fits most n u (table.terms ∷ ss) ts → Inside most n u ss ts terms_text terms_size
  added : (u : ℕ) (ss : List Sym) (ts : List Lexed) → Fits most n u (table.sums ∷ ss) ts → Inside most n u ss ts sums_text sums_size

expr_inside : (most : Limits) (n : ℕ) → Exprs most n → (u : ℕ) (ss : List Sym) (ts : List Lexed) → Fits most n u (table.expr ss) ts
    → Inside most n u ss ts expr_text expr_size
expr_inside most n known u ss ts fits =
    let f = known.factors u (table.terms ∷ table.sums ∷ ss) ts fits in
    let t = known.scaled (u + factor_size f.form) (table.sums ∷ ss) f.rest f.fits in
    let s = known.added (u + factor_size f.form + terms_size t.form) ss t.rest t.fits in
    record {
      form = expr f.form t.form s.form;
      rest = s.rest;
      place = f.place ∙ ap (λ (x : List Lexed). factor_text f.form x) (t.place ∙ ap (λ (x : List Lexed). terms_text t.form x) s.place);
      fits = recount most n _ _ ss s.rest (omega arith) s.fits;
    }

-- a word with two expressions
compare_inside : (most : Limits) (n : ℕ) → Exprs most n → (c : Comparing) (u : ℕ) (ss : List Sym) (ts later : List Lexed) (t : Lexeme)
    → ts ≡ Ok t ∷ later → t.kind ≡ kinds.Keyword (comparing_word c) → Fits most n (u + 1) (table.two_exprs ++ ss) later
    → Inside most (suc n) u ss ts factor_text factor_size
compare_inside most n known c u ss ts later t place kind fits =
    let last = inner close_parenthesis ∷ ss in
    let o = to_inner most open_parenthesis (tells_symbol 40) n (u + 1) (table.expr (inner comma ∷ table.expr last)) later fits in
    let a = expr_inside most n known (u + 1 + 1) (inner comma ∷ table.expr last) o.rest o.fits in
    let m = to_inner most comma (tells_symbol 44) n (u + 1 + 1 + expr_size a.form) (table.expr last) a.rest a.fits in
    let b = expr_inside most n known (u + 1 + 1 + expr_size a.form + 1) last m.rest m.fits in
    let e = to_inner most close_parenthesis (tells_symbol 41) n (u + 1 + 1 + expr_size a.form + 1 + expr_size b.form) ss b.rest b.fits in
    record {
      form = compare c (leaf_of t) o.form a.form m.form b.form e.form;
      rest = e.rest;
      place = with_token ts later _ t (kinds.Keyword (comparing_word c)) place kind
          (o.place ∙ ap (λ (x : List Lexed). tok open_parenthesis o.form ∷ x) (a.place ∙ ap (λ (x : List Lexed). expr_text a.form x)
          (m.place ∙ ap (λ (x : List Lexed). tok comma m.form ∷ x) (b.place ∙ ap (λ (x : List Lexed). expr_text b.form x) e.place))));
      fits = more_steps most n _ ss e.rest (recount most n _ _ ss e.rest (omega arith) e.fits);
    }

factor_case : (most : Limits) (n : ℕ) → Exprs most n → (u : ℕ) (ss : List Sym) (ts later : List Lexed) (t : Lexeme) (next : List Sym)
    → ts ≡ Ok t ∷ later → Fits most n (u + 1) (next ++ ss) later → In (kind_code t.kind) next (rules_of table.factor)
    → Inside most (suc n) u ss ts factor_text factor_size
factor_case most n known u ss ts later t next place fits (inl (code, same)) =
    let kind = number_kind t.kind code in record {
      form = forms.FactorForm.number (num_form kind.0 t);
      rest = later;
      place = with_token ts later later t (Number kind.0) place kind.1 refl;
      fits = more_steps most n (u + 1) ss later (at_rule most n (u + 1) [] next ss later same fits);
    }
factor_case most n known u ss ts later t next place fits (inr (inl (code, same))) =
    let kind = register_kind t.kind code in record {
      form = register kind.0 (leaf_of t);
      rest = later;
      place = with_token ts later later t (Register kind.0) place kind.1 refl;
      fits = more_steps most n (u + 1) ss later (at_rule most n (u + 1) [] next ss later same fits);
    }
factor_case most n known u ss ts later t next place fits (inr (inr (inl (code, same)))) =
    let kind = index_kind t.kind code in record {
      form = index kind.0 (leaf_of t);
      rest = later;
      place = with_token ts later later t (Index kind.0) place kind.1 refl;
      fits = more_steps most n (u + 1) ss later (at_rule most n (u + 1) [] next ss later same fits);
    }
factor_case most n known u ss ts later t next place fits (inr (inr (inr (inl (code, same))))) =
    let f = known.factors (u + 1) ss later (at_rule most n (u + 1) (table.factor ∷ []) next ss later same fits) in record {
      form = negate (leaf_of t) f.form;
      rest = f.rest;
      place = with_token ts later (factor_text f.form f.rest) t minus_sign place (tells_symbol 45 t.kind code) f.place;
      fits = more_steps most n _ ss f.rest (recount most n _ _ ss f.rest (omega arith) f.fits);
    }
factor_case most n known u ss ts later t next place fits (inr (inr (inr (inr (inl (code, same)))))) =
    let e = expr_inside most n known (u + 1) (inner close_parenthesis ∷ ss) later
    (at_rule most n (u + 1) (table.expr (inner close_parenthesis ∷ [])) next ss later same fits) in
    let c = to_inner most close_parenthesis (tells_symbol 41) n (u + 1 + expr_size e.form) ss e.rest e.fits in record {
      form = group (leaf_of t) e.form c.form;
      rest = c.rest;
      place = with_token ts later _ t open_parenthesis place (tells_symbol 40 t.kind code)
          (e.place ∙ ap (λ (x : List Lexed). expr_text e.form x) c.place);
      fits = more_steps most n _ ss c.rest (recount most n _ _ ss c.rest (omega arith) c.fits);
    }
factor_case most n known u ss ts later t next place fits (inr (inr (inr (inr (inr (inl (code, same))))))) =
    let o = to_inner most open_parenthesis (tells_symbol 40) n (u + 1) (table.expr (inner close_parenthesis ∷ ss)) later
    (at_rule most n (u + 1) (inner open_parenthesis ∷ table.expr (inner close_parenthesis ∷ [])) next ss later same fits) in
    let e = expr_inside most n known (u + 1 + 1) (inner close_parenthesis ∷ ss) o.rest o.fits in
    let c = to_inner most close_parenthesis (tells_symbol 41) n (u + 1 + 1 + expr_size e.form) ss e.rest e.fits in record {
      form = pick (leaf_of t) o.form e.form c.form;
      rest = c.rest;
      place = with_token ts later _ t (kinds.Keyword Pick) place (tells_keyword Pick t.kind code)
          (o.place ∙ ap (λ (x : List Lexed). tok open_parenthesis o.form ∷ x)
          (e.place ∙ ap (λ (x : List Lexed). expr_text e.form x) c.place));
      fits = more_steps most n _ ss c.rest (recount most n _ _ ss c.rest (omega arith) c.fits);
    }
factor_case most n known u ss ts later t next place fits (inr (inr (inr (inr (inr (inr (inl (code, same)))))))) =
    compare_inside most n known least u ss ts later t place (tells_keyword Min t.kind code)
    (at_rule most n (u + 1) table.two_exprs next ss later same fits)
factor_case most n known u ss ts later t next place fits (inr (inr (inr (inr (inr (inr (inr (inl (code, same))))))))) =
    compare_inside most n known greatest u ss ts later t place (tells_keyword Max t.kind code)
    (at_rule most n (u + 1) table.two_exprs next ss later same fits)
factor_case most n known u ss ts later t next place fits (inr (inr (inr (inr (inr (inr (inr (inr (inl (code, same)))))))))) =
    compare_inside most n known below u ss ts later t place (tells_keyword Less t.kind code)
    (at_rule most n (u + 1) table.two_exprs next ss later same fits)
factor_case most n known u ss ts later t next place fits (inr (inr (inr (inr (inr (inr (inr (inr (inr (inl (code, same))))))))))) =
    compare_inside most n known equal u ss ts later t place (tells_keyword Same t.kind code)
    (at_rule most n (u + 1) table.two_exprs next ss later same fits)
factor_case most n known u ss ts later t next place fits (inr (inr (inr (inr (inr (inr (inr (inr (inr (inr none)))))))))) = absurd none

-- an operator between factors, and what follows it
scaled_by : (most : Limits) (n : ℕ) → Exprs most n → (s : Scaling) (u : ℕ) (ss : List Sym) (ts later : List Lexed) (t : Lexeme)
    → ts ≡ Ok t ∷ later → t.kind ≡ scaling_kind s → Fits most n (u + 1) (table.factor ∷ table.terms ∷ ss) later
    → Inside most (suc n) u ss ts terms_text terms_size
scaled_by most n known s u ss ts later t place kind fits =
    let f = known.factors (u + 1) (table.terms ∷ ss) later fits in
    let more_terms = known.scaled (u + 1 + factor_size f.form) ss f.rest f.fits in record {
      form = term s (leaf_of t) f.form more_terms.form;
      rest = more_terms.rest;
      place = with_token ts later _ t (scaling_kind s) place kind
          (f.place ∙ ap (λ (x : List Lexed). factor_text f.form x) more_terms.place);
      fits = more_steps most n _ ss more_terms.rest (recount most n _ _ ss more_terms.rest (omega arith) more_terms.fits);
    }

scaled_case : (most : Limits) (n : ℕ) → Exprs most n → (u : ℕ) (ss : List Sym) (ts later : List Lexed) (t : Lexeme) (next : List Sym)
    → ts ≡ Ok t ∷ later → Fits most n (u + 1) (next ++ ss) later → In (kind_code t.kind) next (rules_of table.terms)
    → Inside most (suc n) u ss ts terms_text terms_size
scaled_case most n known u ss ts later t next place fits (inl (code, same)) =
    scaled_by most n known times u ss ts later t place (tells_symbol 42 t.kind code)
    (at_rule most n (u + 1) (table.factor ∷ table.terms ∷ []) next ss later same fits)
scaled_case most n known u ss ts later t next place fits (inr (inl (code, same))) =
    scaled_by most n known over u ss ts later t place (tells_symbol 47 t.kind code)
    (at_rule most n (u + 1) (table.factor ∷ table.terms ∷ []) next ss later same fits)
scaled_case most n known u ss ts later t next place fits (inr (inr (inl (code, same)))) =
    scaled_by most n known modulo u ss ts later t place (tells_symbol 37 t.kind code)
    (at_rule most n (u + 1) (table.factor ∷ table.terms ∷ []) next ss later same fits)
scaled_case most n known u ss ts later t next place fits (inr (inr (inr none))) = absurd none

-- an operator between terms, and what follows it
added_by : (most : Limits) (n : ℕ) → Exprs most n → (a : Adding) (u : ℕ) (ss : List Sym) (ts later : List Lexed) (t : Lexeme)
    → ts ≡ Ok t ∷ later → t.kind ≡ adding_kind a → Fits most n (u + 1) (table.expr ss) later
    → Inside most (suc n) u ss ts sums_text sums_size
added_by most n known a u ss ts later t place kind fits =
    let f = known.factors (u + 1) (table.terms ∷ table.sums ∷ ss) later fits in
    let more_terms = known.scaled (u + 1 + factor_size f.form) (table.sums ∷ ss) f.rest f.fits in
    let more_sums = known.added (u + 1 + factor_size f.form + terms_size more_terms.form) ss more_terms.rest more_terms.fits in record {
      form = sum a (leaf_of t) f.form more_terms.form more_sums.form;
      rest = more_sums.rest;
      place = with_token ts later _ t (adding_kind a) place kind
          (f.place ∙ ap (λ (x : List Lexed). factor_text f.form x)
          (more_terms.place ∙ ap (λ (x : List Lexed). terms_text more_terms.form x) more_sums.place));
      fits = more_steps most n _ ss more_sums.rest (recount most n _ _ ss more_sums.rest (omega arith) more_sums.fits);
    }

added_case : (most : Limits) (n : ℕ) → Exprs most n → (u : ℕ) (ss : List Sym) (ts later : List Lexed) (t : Lexeme) (next : List Sym)
    → ts ≡ Ok t ∷ later → Fits most n (u + 1) (next ++ ss) later → In (kind_code t.kind) next (rules_of table.sums)
    → Inside most (suc n) u ss ts sums_text sums_size
added_case most n known u ss ts later t next place fits (inl (code, same)) =
    added_by most n known plus u ss ts later t place (tells_symbol 43 t.kind code)
    (at_rule most n (u + 1) (table.expr []) next ss later same fits)
added_case most n known u ss ts later t next place fits (inr (inl (code, same))) =
    added_by most n known minus u ss ts later t place (tells_symbol 45 t.kind code)
    (at_rule most n (u + 1) (table.expr []) next ss later same fits)
added_case most n known u ss ts later t next place fits (inr (inr none)) = absurd none

factors_step : (most : Limits) (n : ℕ) → Exprs most n → (u : ℕ) (ss : List Sym) (ts : List Lexed)
    → Fits most (suc n) u (table.factor ∷ ss) ts
    → Inside most (suc n) u ss ts factor_text factor_size
factors_step most n known u ss ts fits =
    let r = ruled most n u table.factor ss ts refl fits in
    factor_case most n known u ss ts r.rest r.token r.next r.place r.fits r.rule

scaled_step : (most : Limits) (n : ℕ) → Exprs most n → (u : ℕ) (ss : List Sym) (ts : List Lexed)
    → Fits most (suc n) u (table.terms ∷ ss) ts
    → Inside most (suc n) u ss ts terms_text terms_size
scaled_step most n known u ss ts (inl t) =
    let r = ruled_take most n u table.terms ss ts t in scaled_case most n known u ss ts r.rest r.token r.next r.place r.fits r.rule
scaled_step most n known u ss ts (inr l) = record {
  form = no_term;
  rest = ts;
  place = refl;
  fits = more_steps most n _ ss ts (recount most n _ _ ss ts (omega arith) l.fits);
}

added_step : (most : Limits) (n : ℕ) → Exprs most n → (u : ℕ) (ss : List Sym) (ts : List Lexed) → Fits most (suc n) u (table.sums ∷ ss) ts
    → Inside most (suc n) u ss ts sums_text sums_size
added_step most n known u ss ts (inl t) =
    let r = ruled_take most n u table.sums ss ts t in added_case most n known u ss ts r.rest r.token r.next r.place r.fits r.rule
added_step most n known u ss ts (inr l) = record {
  form = no_sum;
  rest = ts;
  place = refl;
  fits = more_steps most n _ ss ts (recount most n _ _ ss ts (omega arith) l.fits);
}

exprs : (most : Limits) (n : ℕ) → Exprs most n
exprs most zero = record {
  factors = λ u ss ts none. absurd none;
  scaled = λ u ss ts none. absurd none;
  added = λ u ss ts none. absurd none;
}
exprs most (suc n) = let known = exprs most n in record {
  factors = factors_step most n known;
  scaled = scaled_step most n known;
  added = added_step most n known;
}

-- an expression from its start, within the limit
pub record Outermost (most : Limits) (n : ℕ) (ss : List Sym) (ts : List Lexed) : Type 0 where
  pub form : ExprForm
  pub rest : List Lexed
  pub place : ts ≡ expr_text form rest
  pub within : expr_size form ≤ most.tokens
  pub count : ℕ
  pub fits : Fits most n count ss rest

-- what fits the symbols of an expression is the tokens of one
pub to_expr : (most : Limits) (n : ℕ) (ss : List Sym) (ts : List Lexed) → Fits most n 0 (table.expr ss) ts → Outermost most n ss ts
to_expr most n ss ts fits =
    let e = expr_inside most n (exprs most n) 0 ss ts fits in record {
      form = e.form;
      rest = e.rest;
      place = e.place;
      within = omega (arith, fits_counts most n (0 + expr_size e.form) ss e.rest e.fits);
      count = 0 + expr_size e.form;
      fits = e.fits;
    }
