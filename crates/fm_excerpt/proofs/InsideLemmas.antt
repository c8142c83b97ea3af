-- One message of a window, and one tick.
use Rattle.std.proofs.Common.{◌≡◌, ℕ, ◌-◌, ◌<◌, ◌≤◌, Bool, true, false, ◌&&◌, cond, nat_lt, nat_le, min, max, List, [], ◌∷◌, ◌++◌, Option, None, Some, refl, sym, ap, arith}
use Rattle.std.proofs.lemmas.Bool.Decides.{nat_tests}
use Rattle.fm_msg.specs.declared.msg.Msg.{Msg}
use Rattle.fm_excerpt.specs.Excerpt.{is_inside, keeps, window, stop_of}

-- a message that the window keeps
pub window_kept : (begin : ℕ) (until : Option ℕ) (origin : ℕ) (kept : List Msg) (t : ℕ) (m : Msg) (xs : List (ℕ × Msg)) →
    (is_inside begin until t && keeps kept m) ≡ true →
    window begin until origin kept ((t, m) ∷ xs) ≡ (t - origin, m) ∷ window begin until origin (kept ++ m ∷ []) xs
unfolding window
window_kept begin until origin kept t m xs is =
    ap (λ b. cond b ((t - origin, m) ∷ window begin until origin (kept ++ m ∷ []) xs) (window begin until origin kept xs)) is

-- one that it does not keep
pub window_left : (begin : ℕ) (until : Option ℕ) (origin : ℕ) (kept : List Msg) (t : ℕ) (m : Msg) (xs : List (ℕ × Msg)) →
    (is_inside begin until t && keeps kept m) ≡ false →
    window begin until origin kept ((t, m) ∷ xs) ≡ window begin until origin kept xs
unfolding window
window_left begin until origin kept t m xs is =
    ap (λ b. cond b ((t - origin, m) ∷ window begin until origin (kept ++ m ∷ []) xs) (window begin until origin kept xs)) is

-- no message
pub window_none : (begin : ℕ) (until : Option ℕ) (origin : ℕ) (kept : List Msg) → window begin until origin kept [] ≡ []
unfolding window
window_none begin until origin kept = refl

-- a tick in the window is not before its beginning
pub inside_begin : (begin : ℕ) (until : Option ℕ) (t : ℕ) → is_inside begin until t ≡ true → begin ≤ t
inside_begin begin None t is = grind (arith, nat_tests)
inside_begin begin (Some until) t is = by_test (nat_le begin t) refl is
  where
    by_test : (b : Bool) → nat_le begin t ≡ b → (b && nat_lt t (max begin until)) ≡ true → begin ≤ t
    by_test true at e = grind (arith, nat_tests)
    by_test false at e = absurd cc

-- and not behind its stop
pub inside_stop : (begin : ℕ) (until : Option ℕ) (t end : ℕ) → is_inside begin until t ≡ true → t ≤ end → t ≤ stop_of begin until end
inside_stop begin None t end is le = le
inside_stop begin (Some until) t end is le = by_tests (nat_le begin t) (nat_lt t (max begin until)) refl is
  where
    by_tests : (a b : Bool) → nat_lt t (max begin until) ≡ b → (a && b) ≡ true → t ≤ min (max begin until) end
    by_tests true true at e =
        let less : t < max begin until = grind (arith, nat_tests) in omega arith
    by_tests true false at e = absurd cc
    by_tests false b at e = absurd cc

pub both_first : (a b : Bool) → (a && b) ≡ true → a ≡ true
both_first true b is = refl
both_first false b is = absurd cc

-- the tick from which a kept message is counted is not behind it
pub kept_begin : (begin : ℕ) (until : Option ℕ) (t : ℕ) (b : Bool) → true ≡ (is_inside begin until t && b) → begin ≤ t
kept_begin begin until t b is = inside_begin begin until t (both_first (is_inside begin until t) b (sym is))
