-- What fits a symbol is the tokens of one of its forms: terminals and expressions.
use Rattle.std.proofs.Common.{◌≡◌, ℕ, zero, suc, true, false, inl, inr, List, [], ◌∷◌, ◌++◌, Ok, refl, sym, ap, ◌∙◌, subst}
use Rattle.fm_lex.specs.Tokens.{Lexeme, Lexed}
use Rattle.fm_lex.specs.declared.kind.Kind.{Kind}
use Rattle.fm_lex.specs.declared.kind.Kind.TheVariants.{Number}
use Rattle.fm_grammar.specs.Score.{Leaf}
use Rattle.fm_grammar.specs.Grammar.{NumForm}
use Rattle.fm_grammar.specs.Signs.{tok}
use Rattle.fm_grammar.specs.Spelling.{num_text}
use Rattle.fm_grammar.specs.Within.{Limits}
use Rattle.fm_grammar.specs.Rules.{Sym, one, any_number, kind_code, rules_of, may_end}
use Rattle.fm_grammar.specs.Table.{after_token}
use Rattle.fm_grammar.proofs.Fits.{Take, Fits, more_steps}
use Rattle.fm_grammar.proofs.Alive.{In, taking_in}
use Rattle.fm_grammar.proofs.Telling.{Tells, number_kind, leaf_of, tok-leaf_of}

-- ---- one token

-- the first symbol took a token by a rule, and these tokens fit what comes then
pub record Ruled (most : Limits) (n v : ℕ) (s : Sym) (ss : List Sym) (ts : List Lexed) : Type 0 where
  pub token : Lexeme
  pub rest : List Lexed
  pub place : ts ≡ Ok token ∷ rest
  pub next : List Sym
  pub rule : In (kind_code token.kind) next (rules_of s)
  pub fits : Fits most n v (next ++ ss) rest

-- a token that was taken, by its rule
pub ruled_take : (most : Limits) (n u : ℕ) (s : Sym) (ss : List Sym) (ts : List Lexed) → Take most u s ss ts (Fits most n)
    → Ruled most n (after_token s u) s ss ts
ruled_take most n u s ss ts t = record {
  token = t.token;
  rest = t.rest;
  place = t.place;
  next = t.next;
  rule = taking_in (kind_code t.token.kind) t.next (rules_of s) t.rule;
  fits = t.fits;
}

-- a symbol that must come took a token
pub ruled : (most : Limits) (n u : ℕ) (s : Sym) (ss : List Sym) (ts : List Lexed) → may_end s ≡ false
    → Fits most (suc n) u (s ∷ ss) ts → Ruled most n (after_token s u) s ss ts
ruled most n u s ss ts must (inl t) = ruled_take most n u s ss ts t
ruled most n u s ss ts must (inr l) = absurd (false_true (sym must ∙ l.may))
  where
    false_true : false ≡ true → ⊥
    false_true same = cc

-- the rest of a rule is known
pub at_rule : (most : Limits) (n v : ℕ) (rhs next ss : List Sym) (ts : List Lexed) → rhs ≡ next
    → Fits most n v (next ++ ss) ts → Fits most n v (rhs ++ ss) ts
at_rule most n v rhs next ss ts same fits = subst (λ (x : List Sym). Fits most n v (x ++ ss) ts) (sym same) fits

-- the text of a token whose kind is known, before what follows
pub with_token : (ts later after : List Lexed) (t : Lexeme) (k : Kind) → ts ≡ Ok t ∷ later → t.kind ≡ k → later ≡ after
    → ts ≡ tok k (leaf_of t) ∷ after
with_token ts later after t k place kind same =
    place ∙ ap (λ (x : Lexed). x ∷ later) (tok-leaf_of t k kind) ∙ ap (λ (x : List Lexed). tok k (leaf_of t) ∷ x) same

-- ---- a form behind which the rest fits

-- the tokens are those of a form outside of expressions, and a rest that fits what stands below
pub record Split (most : Limits) (n : ℕ) (ss : List Sym) (ts : List Lexed) {A : Type 0} (text : A → List Lexed → List Lexed)
    (Within : A → Type 0) : Type 0 where
  pub form : A
  pub rest : List Lexed
  pub place : ts ≡ text form rest
  pub within : Within form
  pub fits : Fits most n 0 ss rest

-- no limit belongs to a form
abbrev pub Free : {A : Type 0} → A → Type 0
Free x = Unit {0}

-- a token of one kind, before what follows
abbrev pub sign_text : Kind → Leaf → List Lexed → List Lexed
sign_text k l next = tok k l ∷ next

-- a token of a kind that its number tells
pub to_sign : (most : Limits) (k : Kind) → Tells k → (n u : ℕ) (ss : List Sym) (ts : List Lexed)
    → Fits most n u (one k ∷ ss) ts → Split most n ss ts (sign_text k) Free
to_sign most k tells zero u ss ts fits = absurd fits
to_sign most k tells (suc n) u ss ts fits = on (ruled most n u (one k) ss ts refl fits)
  where
    on : Ruled most n 0 (one k) ss ts → Split most (suc n) ss ts (sign_text k) Free
    on r = by r.rule
      where
        by : In (kind_code r.token.kind) r.next (rules_of (one k)) → Split most (suc n) ss ts (sign_text k) Free
        by (inl (code, same)) = record {
          form = leaf_of r.token;
          rest = r.rest;
          place = with_token ts r.rest r.rest r.token k r.place (tells r.token.kind code) refl;
          within = tt;
          fits = more_steps most n 0 ss r.rest (at_rule most n 0 [] r.next ss r.rest same r.fits);
        }
        by (inr none) = absurd none

-- the number of a token
abbrev pub num_form : ℕ → Lexeme → NumForm
num_form v t = record { value = v; leaf = leaf_of t }

-- a number
pub to_num : (most : Limits) (n u : ℕ) (ss : List Sym) (ts : List Lexed)
    → Fits most n u (one any_number ∷ ss) ts → Split most n ss ts num_text Free
to_num most zero u ss ts fits = absurd fits
to_num most (suc n) u ss ts fits = on (ruled most n u (one any_number) ss ts refl fits)
  where
    on : Ruled most n 0 (one any_number) ss ts → Split most (suc n) ss ts num_text Free
    on r = by r.rule
      where
        by : In (kind_code r.token.kind) r.next (rules_of (one any_number)) → Split most (suc n) ss ts num_text Free
        by (inl (code, same)) =
            let number = number_kind r.token.kind code in record {
              form = num_form number.0 r.token;
              rest = r.rest;
              place = with_token ts r.rest r.rest r.token (Number number.0) r.place number.1 refl;
              within = tt;
              fits = more_steps most n 0 ss r.rest (at_rule most n 0 [] r.next ss r.rest same r.fits);
            }
        by (inr none) = absurd none
