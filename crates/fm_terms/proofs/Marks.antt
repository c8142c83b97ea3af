-- A token of a kind, read or refused.
use Rattle.std.proofs.Common.{◌≡◌, ℕ, cond, List, [], ◌∷◌, Ok, sym, ap, ◌∙◌}
use Rattle.std.specs.Prelude.{◌≢◌}
use Rattle.fm_lex.specs.declared.kind.Kind.{Kind}
use Rattle.fm_lex.specs.declared.kind.Kind.TheVariants.{Name, Number, Pitch, Register, Index, Symbol, End}
use Rattle.fm_lex.specs.declared.kind.Kind.TheVariants as kinds
use Rattle.fm_lex.specs.Tokens.{Lexeme, Lexed}
use Rattle.fm_lex.specs.Layout.{is_end}
use Rattle.fm_grammar.specs.Score.{Leaf}
use Rattle.fm_grammar.specs.Signs.{tok}
use Rattle.fm_grammar.specs.Rules.{kind_code, any_number, any_register, any_pitch}
use Rattle.fm_grammar.proofs.Telling.{Tells, tells_name, tells_symbol, tells_keyword, leaf_of, number_kind, register_kind, pitch_kind}
use Rattle.fm_terms.specs.Reader.{tail, first_kind, left_with}
use Rattle.fm_terms.specs.Follow.{IsMark, Marked}

-- the table tells such a kind
pub mark_tells : (k : Kind) → IsMark k → Tells k
mark_tells Name m = tells_name
mark_tells (Symbol b) m = tells_symbol b
mark_tells (kinds.Keyword w) m = tells_keyword w
mark_tells (Number n) m = absurd m
mark_tells (Pitch n) m = absurd m
mark_tells (Register n) m = absurd m
mark_tells (Index n) m = absurd m
mark_tells End m = absurd m

pub marked : (k : Kind) (t : Lexeme) (l new : List Lexed) → l ≡ Ok t ∷ tail l → t.kind ≡ k → new ≡ tail l
    → Marked k t.spot l new
marked k t l new is kind moved = record {
  bytes = t.text;
  text = is ∙ ap (λ j. tok j (leaf_of t) ∷ tail l) kind ∙ ap (λ y. tok k (leaf_of t) ∷ y) (sym moved);
}

pub no_number : (k : Kind) → ((n : ℕ) → k ≢ Number n) → kind_code any_number ≡ kind_code k → ⊥
no_number k differ same = let found = number_kind k same in differ found.0 found.1

-- a token of a known kind, before what follows it
pub named : (k : Kind) (t : Lexeme) (l new : List Lexed) → l ≡ Ok t ∷ tail l → t.kind ≡ k → new ≡ tail l
    → l ≡ tok k (leaf_of t) ∷ new
named k t l new is kind moved = is ∙ ap (λ j. tok j (leaf_of t) ∷ tail l) kind ∙ ap (λ y. tok k (leaf_of t) ∷ y)
    (sym moved)

pub no_register : (k : Kind) → ((n : ℕ) → k ≢ Register n) → kind_code any_register ≡ kind_code k → ⊥
no_register k differ same = let found = register_kind k same in differ found.0 found.1

pub no_pitch : (k : Kind) → ((n : ℕ) → k ≢ Pitch n) → kind_code any_pitch ≡ kind_code k → ⊥
no_pitch k differ same = let found = pitch_kind k same in differ found.0 found.1

-- behind the end nothing follows
pub over_from : (t : Lexeme) (later l : List Lexed) → l ≡ left_with t later → first_kind l ≡ End
    → (e : Leaf) × (l ≡ tok End e ∷ [])
over_from t later l is last =
    let kind : t.kind ≡ End = sym (ap first_kind is) ∙ last in
    (leaf_of t, is ∙ ap (λ b. Ok t ∷ cond b [] later) (ap is_end kind) ∙ ap (λ k. tok k (leaf_of t) ∷ []) kind)
