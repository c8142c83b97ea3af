-- How many events of an outbox are due, and which.
use Rattle.std.proofs.Common.{◌≡◌, ◌⊎◌, ℕ, zero, suc, ◌+◌, ◌<◌, ◌≤◌, List, [], ◌∷◌, length, get_or, Bool, true, false, refl, sym, ap, inl, inr, arith, ltb-true}
use Rattle.std.proofs.lemmas.Bool.{eqb-true, eq-eqb, le-ltb, lt-ltb}
use Rattle.std.specs.Prelude.{not, ◌&&◌, nat_eq, nat_lt}
use mathlib.Core.Logic.{dite}
use native.Mathlib.Decide.{ℕ_discrete}
use Rattle.fm_line.specs.Line.{event_at}
use Rattle.fm_core.proofs.Booleans.{not_false, not_true, true_from, either_false, or_left, or_right, or_cases, both, and_true, and_false, not_below}
use Rattle.fm_core.specs.Invariant.{NotBelow}
use Rattle.fm_core.specs.Numbers.{bit}
use Rattle.fm_core.specs.Taking.{covers, count_due}
use Rattle.fm_core.specs.declared.due.Due.{Due}
use Rattle.fm_core.specs.declared.due.Due.TheVariants.{Nothing, Pair, Everything}
use Rattle.fm_msg.specs.Event.{TimedMessage}

none_counted : (d : Due) (es : List TimedMessage) → ((i : ℕ) → i < length es → covers d (get_or es i (event_at 0)) ≡ false)
    → count_due d es ≡ 0
none_counted d [] each = refl
none_counted d (e ∷ es) each = let a = none_counted d es (λ i lt. each (suc i) (omega arith)) in
    let b : bit (covers d e) ≡ 0 = ap bit (each 0 (omega arith)) in omega arith

-- where what is due ends once and for all, the first so many are due and no other
pub counted_first : (d : Due) (es : List TimedMessage)
    → ((i j : ℕ) → i ≤ j → j < length es → covers d (get_or es j (event_at 0)) ≡ true → covers d (get_or es i (event_at 0)) ≡ true)
    → (i : ℕ) → i < length es → ((i < count_due d es → covers d (get_or es i (event_at 0)) ≡ true)
    × (count_due d es ≤ i → covers d (get_or es i (event_at 0)) ≡ false))
counted_first d [] down i lt = absurd (omega arith)
counted_first d (e ∷ es) down i lt = go (covers d e) refl i lt
    (λ k near. counted_first d es (λ a b le less. down (suc a) (suc b) (omega arith) (omega arith)) k near)
  where
    not_it : covers d e ≡ false → (b : Bool) (k : ℕ) → k < length (e ∷ es) → covers d (get_or (e ∷ es) k (event_at 0)) ≡ b
        → covers d (get_or (e ∷ es) k (event_at 0)) ≡ false
    not_it f true k near x = let y = down 0 k (omega arith) near x in absurd (cc)
    not_it f false k near x = x

    go : (b : Bool) → covers d e ≡ b → (i : ℕ) → i < length (e ∷ es)
        → ((k : ℕ) → k < length es → ((k < count_due d es → covers d (get_or es k (event_at 0)) ≡ true)
        × (count_due d es ≤ k → covers d (get_or es k (event_at 0)) ≡ false)))
        → ((i < bit (covers d e) + count_due d es → covers d (get_or (e ∷ es) i (event_at 0)) ≡ true)
        × (bit (covers d e) + count_due d es ≤ i → covers d (get_or (e ∷ es) i (event_at 0)) ≡ false))
    go true f zero near rest = (λ _. f, λ le. let one : bit (covers d e) ≡ 1 = ap bit f in absurd (omega arith))
    go true f (suc i) near rest = let one : bit (covers d e) ≡ 1 = ap bit f in let r = rest i (omega arith) in
        (λ less. r.0 (omega arith), λ le. r.1 (omega arith))
    go false f i near rest = let none = none_counted d (e ∷ es)
        (λ k there. not_it f (covers d (get_or (e ∷ es) k (event_at 0))) k there refl) in
        (λ less. absurd (omega arith), λ le. not_it f (covers d (get_or (e ∷ es) i (event_at 0))) i near refl)

-- what is not due lies at or above the pair
pub not_covered : (m i : ℕ) (e : TimedMessage) → covers (Pair m i) e ≡ false → NotBelow m i e.time e.process
not_covered m i e f = let two = either_false (nat_lt e.time m) (nat_eq e.time m && not (nat_lt i e.process)) f in
    let le = not_below e.time m two.0 in
    dite (ℕ_discrete e.time m)
    (λ same. let x = not_false _ (and_false (nat_eq e.time m) (not (nat_lt i e.process)) two.1 (eq-eqb _ _ same)) in
    let lt = ltb-true i e.process x in inr (sym same, omega arith))
    (λ d. inl (omega arith))

-- what is due makes earlier events of its process due
pub covered_down : (d : Due) (a b : TimedMessage) → a.time ≤ b.time → a.process ≡ b.process → covers d b ≡ true → covers d a ≡ true
covered_down Nothing a b le same e = e
covered_down Everything a b le same e = refl
covered_down (Pair m i) a b le same e = go (or_cases (nat_lt b.time m) (nat_eq b.time m && not (nat_lt i b.process)) e)
  where
    go : (nat_lt b.time m ≡ true) ⊎ ((nat_eq b.time m && not (nat_lt i b.process)) ≡ true) → covers (Pair m i) a ≡ true
    go (inl x) = let lt = ltb-true b.time m x in or_left _ _ (lt-ltb a.time m (omega arith))
    go (inr x) = let two = both (nat_eq b.time m) (not (nat_lt i b.process)) x in let at = eqb-true b.time m two.0 in
        let le2 = not_below i b.process (not_true _ two.1) in
        dite (ℕ_discrete a.time m) (λ s. or_right _ _ (and_true _ _ (eq-eqb _ _ s) (true_from _ (le-ltb i a.process (omega arith)))))
        (λ n. or_left _ _ (lt-ltb a.time m (omega arith)))
