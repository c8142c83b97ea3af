-- A token that the table takes goes before what fits the stack behind it, and each token of what fits is taken.
use Rattle.std.proofs.Common.{◌≡◌, ℕ, zero, suc, ◌+◌, ◌≤◌, Bool, true, false, inl, inr, List, [], ◌∷◌, ◌++◌, Option, Some, None, Ok, refl, sym, subst, arith}
use Rattle.std.specs.Prelude.{if◌then◌else◌}
use Rattle.fm_lex.specs.Tokens.{Lexeme, Lexed}
use Rattle.fm_lex.specs.declared.kind.Kind.{Kind}
use Rattle.fm_grammar.specs.Within.{Limits}
use Rattle.fm_grammar.specs.Rules.{Sym, kind_code, rules_of, may_end, inside}
use Rattle.fm_grammar.specs.Table.{taking, Stack, after_token, left_out, fed_on, feed, opened, need}
use Rattle.fm_grammar.proofs.Fits.{Fits, Derives, takes, leaves}
use Rattle.fm_grammar.proofs.Alive.{IsAlive, want_least, need_none}
use Rattle.fm_grammar.proofs.Followers.{Fine, may_begin, fits_begins, no_rule}

-- ---- a token that is taken goes before what fits the new stack

none_some : {A : Type 0} {P : Type 0} (x : A) → None ≡ Some x → P
none_some x same = cc

fed_step : (most : Limits) (u : ℕ) (s : Sym) (ss : List Sym) (t : Lexeme) (w : List Lexed) (st : Stack)
    (found : Option (List Sym)) (b : Bool)
    → taking (kind_code t.kind) (rules_of s) ≡ found → may_end s ≡ b → opened (s ∷ ss) ≤ most.braces → u ≤ most.tokens
    → fed_on s u found ss (feed (left_out s u) ss t.kind) ≡ Some st
    → (may_end s ≡ true → feed (left_out s u) ss t.kind ≡ Some st → Derives most (left_out s u) ss (Ok t ∷ w))
    → Derives most st.used st.syms w → Derives most u (s ∷ ss) (Ok t ∷ w)
fed_step most u s ss t w st (Some next) b took may opens counts fed on derives =
    let same : record { used = after_token s u; syms = next ++ ss } ≡ st = cc in
    takes most u s ss t w next opens counts took (subst (λ (x : Stack). Derives most x.used x.syms w) (sym same) derives)
fed_step most u s ss t w st None true took may opens counts fed on derives =
    leaves most u s ss (Ok t ∷ w) opens counts may (on may (rw may at fed))
fed_step most u s ss t w st None false took may opens counts fed on derives = none_some st (rw may at fed)

-- what stands behind a symbol that is left out is within the limits
left_alive : (most : Limits) (u : ℕ) (s : Sym) (ss : List Sym) (b : Bool) → inside s ≡ b → may_end s ≡ true
    → IsAlive most u (s ∷ ss) → IsAlive most (if b then u else 0) ss
left_alive most u s ss true is may alive =
    let none : need s ≡ 0 = need_none s may in
    let same : u + need s ≡ u = omega arith in
    let wants = rw (is, same) at alive.wants in
    record { peaks = omega (arith, alive.peaks); wants = wants }
left_alive most u s ss false is may alive =
    let wants = rw is at alive.wants in record { peaks = omega (arith, alive.peaks); wants = omega (arith, wants) }

-- a token that the stack takes
pub fed : (most : Limits) (ss : List Sym) (u : ℕ) (t : Lexeme) (w : List Lexed) (st : Stack) → IsAlive most u ss
    → feed u ss t.kind ≡ Some st → Derives most st.used st.syms w → Derives most u ss (Ok t ∷ w)
fed most [] u t w st alive taken derives = none_some st taken
fed most (s ∷ ss) u t w st alive taken derives =
    fed_step most u s ss t w st (taking (kind_code t.kind) (rules_of s)) (may_end s) refl refl
    (omega (arith, alive.peaks)) (omega (arith, alive.wants, want_least (s ∷ ss) u)) taken
    (λ may on. fed most ss (left_out s u) t w st (left_alive most u s ss (inside s) refl may alive) on derives) derives

-- ---- each token of what fits is taken

-- the stack behind a token
pub record After (most : Limits) (u : ℕ) (ss : List Sym) (k : Kind) (w : List Lexed) : Type 0 where
  pub stack : Stack
  pub is_fed : feed u ss k ≡ Some stack
  pub derives : Derives most stack.used stack.syms w

same_token : (t r : Lexeme) (w v : List Lexed) → Ok t ∷ w ≡ Ok r ∷ v → t ≡ r
same_token t r w v same = cc

same_rest : (t r : Lexeme) (w v : List Lexed) → Ok t ∷ w ≡ Ok r ∷ v → w ≡ v
same_rest t r w v same = cc

-- each token of what fits is taken, and the rest fits the stack behind it
pub taken : (most : Limits) (n u : ℕ) (ss : List Sym) (t : Lexeme) (w : List Lexed) → Fine ss
    → Fits most n u ss (Ok t ∷ w) → After most u ss t.kind w
taken most zero u ss t w fine fits = absurd fits
taken most (suc n) u [] t w fine fits = cc
taken most (suc n) u (s ∷ ss) t w fine (inl f) =
    let token : t ≡ f.token = same_token t f.token w f.rest f.place in
    let rest : w ≡ f.rest = same_rest t f.token w f.rest f.place in
    let rule : taking (kind_code t.kind) (rules_of s) ≡ Some f.next = rw token f.rule in
    record {
      stack = record { used = after_token s u; syms = f.next ++ ss };
      is_fed = rw rule refl;
      derives = rw rest (record { steps = n; fits = f.fits });
    }
taken most (suc n) u (s ∷ ss) t w fine (inr f) =
    let on = taken most n (left_out s u) ss t w fine.1 f.fits in
    let begins : may_begin ss (kind_code t.kind) ≡ true = fits_begins most n (left_out s u) ss t w f.fits in
    let rule : taking (kind_code t.kind) (rules_of s) ≡ None =
    no_rule s (kind_code t.kind) f.may (fine.0 (kind_code t.kind) f.may begins) in
    let may = f.may in
    record { stack = on.stack; is_fed = rw (rule, may) on.is_fed; derives = on.derives }
