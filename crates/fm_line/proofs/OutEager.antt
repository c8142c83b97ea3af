-- A note-off that is due where a process stands comes out before all that follows, and the clock bounds what comes out.
use Rattle.std.proofs.Common.{◌≡◌, ℕ, zero, suc, ◌<◌, ◌≤◌, List, [], ◌∷◌, ◌++◌, length, Bool, true, false, refl, sym, ap, ap₂, ◌∙◌, subst, arith}
use Rattle.std.specs.Prelude.{if◌then◌else◌, nat_le, min}
use Rattle.std.specs.List.{AllByRecursion}
use Rattle.std.proofs.lemmas.Bool.{le-leb, leb-true, leb-false}
use Rattle.fm_line.specs.Sounds.{Sound, is_note_off, Picked, picked, pick, clock_with, out_before, left_waiting, most_waiting, ons_ahead, come_out_after}
use Rattle.fm_line.proofs.OutPicking.{pick-least, all_later}
use Rattle.fm_line.proofs.OutStepping.{out-due, left-due, out-none, left-none}
use Rattle.fm_line.proofs.OutRising.{RunsFrom, BeginsFrom, AllFrom, come_out-runs}

-- where all are from a tick on, so is the one that is picked
pub pick_from : (t : ℕ) (x : Sound) (xs : List Sound) → AllFrom t (x ∷ xs) → t ≤ (pick x xs).first.time
pick_from t x [] a = a.0
pick_from t x (y ∷ ys) a = by_test (nat_le x.time (pick y ys).first.time) (pick_from t y ys a.1)
  where
    by_test : (b : Bool) → t ≤ (pick y ys).first.time
        → t ≤ (if b then picked x (y ∷ ys) else picked (pick y ys).first (x ∷ (pick y ys).others)).first.time
    by_test true h = a.0
    by_test false h = h

-- what is from a tick on, with one more
pub from_push : (t : ℕ) (ws : List Sound) (x : Sound) → AllFrom t ws → t ≤ x.time → AllFrom t (ws ++ x ∷ [])
from_push t [] x a l = (l, tt)
from_push t (w ∷ ws) x a l = (a.0, from_push t ws x a.1 l)

from_lower : (t u : ℕ) → t ≤ u → (ws : List Sound) → AllFrom u ws → AllFrom t ws
from_lower t u l [] a = tt
from_lower t u l (w ∷ ws) a = (let h = a.0 in omega arith, from_lower t u l ws a.1)

-- one more that is not earlier changes nothing of what is picked
pub pick-push : (w : Sound) (ws : List Sound) (x : Sound) → (pick w ws).first.time ≤ x.time
    → pick w (ws ++ x ∷ []) ≡ picked (pick w ws).first ((pick w ws).others ++ x ∷ [])
pick-push w [] x l = rw (le-leb w.time x.time l) refl
pick-push w (v ∷ vs) x l = by_test (nat_le w.time (pick v vs).first.time) refl l (pick-push v vs x)
  where
    by_test : (b : Bool) → nat_le w.time (pick v vs).first.time ≡ b
        → (if b then picked w (v ∷ vs) else picked (pick v vs).first (w ∷ (pick v vs).others)).first.time ≤ x.time
        → ((pick v vs).first.time ≤ x.time
        → pick v (vs ++ x ∷ []) ≡ picked (pick v vs).first ((pick v vs).others ++ x ∷ []))
        → pick w (v ∷ (vs ++ x ∷ []))
        ≡ picked (if b then picked w (v ∷ vs) else picked (pick v vs).first (w ∷ (pick v vs).others)).first
        ((if b then picked w (v ∷ vs) else picked (pick v vs).first (w ∷ (pick v vs).others)).others ++ x ∷ [])
    by_test true e h ih =
        let all = from_push w.time (v ∷ vs) x
        (from_lower w.time (pick v vs).first.time (leb-true _ _ e) (v ∷ vs) (pick-least v vs)) h in
        rw (le-leb w.time (pick v (vs ++ x ∷ [])).first.time (pick_from w.time v (vs ++ x ∷ []) all)) refl
    by_test false e h ih = rw (ih h) (rw e refl)

-- a note-off that is due at a tick, where all that follows begins at it or later, comes out next
pub eager : (t e : ℕ) (w : Sound) (ws xs : List Sound) → (pick w ws).first.time ≤ t → BeginsFrom t e xs
    → come_out_after (w ∷ ws) xs e ≡ (pick w ws).first ∷ come_out_after (pick w ws).others xs e
eager t e w ws [] l b = out-due e most_waiting w ws (omega arith)
eager t e w ws (x ∷ xs) l b = by_test (is_note_off x.msg) b.1
    (λ c. eager t e w (ws ++ x ∷ []) xs (rw (pick-push w ws x (let h = b.0 in omega arith)) l) c)
  where
    same : pick w (ws ++ x ∷ []) ≡ picked (pick w ws).first ((pick w ws).others ++ x ∷ [])
    same = pick-push w ws x (let h = b.0 in omega arith)

    by_test : (o : Bool) → BeginsFrom (if o then t else x.time) e xs
        → (BeginsFrom t e xs → come_out_after (w ∷ (ws ++ x ∷ [])) xs e
        ≡ (pick w (ws ++ x ∷ [])).first ∷ come_out_after (pick w (ws ++ x ∷ [])).others xs e)
        → (if o then come_out_after (w ∷ (ws ++ x ∷ [])) xs e
        else out_before x.time (ons_ahead (x ∷ xs)) (w ∷ ws)
        ++ x ∷ come_out_after (left_waiting x.time (ons_ahead (x ∷ xs)) (w ∷ ws)) xs e)
        ≡ (pick w ws).first ∷ (if o then come_out_after ((pick w ws).others ++ x ∷ []) xs e
        else out_before x.time (ons_ahead (x ∷ xs)) (pick w ws).others
        ++ x ∷ come_out_after (left_waiting x.time (ons_ahead (x ∷ xs)) (pick w ws).others) xs e)
    by_test true c ih = ih c ∙ ap (λ (r : Picked). r.first ∷ come_out_after r.others xs e) same
    by_test false c ih =
        let k = ons_ahead (x ∷ xs) in
        let due : (pick w ws).first.time ≤ x.time = let h = b.0 in omega arith in
        rw (out-due x.time k w ws due, left-due x.time k w ws due) refl

-- ---- the clock

pub clock_below : (t : ℕ) (ws : List Sound) → clock_with t ws ≤ t
clock_below t [] = omega arith
clock_below t (w ∷ ws) = omega arith

pub clock_first : (t : ℕ) (ws : List Sound) → AllFrom (clock_with t ws) ws
clock_first t [] = tt
clock_first t (w ∷ ws) = from_lower (min t (pick w ws).first.time) (pick w ws).first.time (omega arith) (w ∷ ws) (pick-least w ws)

pub begins_lower : (t u e : ℕ) → t ≤ u → (xs : List Sound) → BeginsFrom u e xs → BeginsFrom t e xs
begins_lower t u e l [] b = omega arith
begins_lower t u e l (x ∷ xs) b =
    (let h = b.0 in omega arith, by_test (is_note_off x.msg) b.1 (λ c. begins_lower t u e l xs c))
  where
    by_test : (o : Bool) → BeginsFrom (if o then u else x.time) e xs → (BeginsFrom u e xs → BeginsFrom t e xs)
        → BeginsFrom (if o then t else x.time) e xs
    by_test true c f = f c
    by_test false c f = c

-- nothing comes out before the clock, and nothing after the end of the process
pub clock-bounds : (t e : ℕ) (ws xs : List Sound) → BeginsFrom t e xs
    → RunsFrom (clock_with t ws) e (come_out_after ws xs e)
clock-bounds t e ws xs b =
    come_out-runs (clock_with t ws) e ws xs (clock_first t ws)
    (begins_lower (clock_with t ws) t e (clock_below t ws) xs b)

-- the clock does not fall where the earliest comes out, where a process moves on, and where a note-off joins
others_from : (x : Sound) (xs : List Sound) → AllFrom (pick x xs).first.time (pick x xs).others
others_from x [] = tt
others_from x (y ∷ ys) = by_test (nat_le x.time (pick y ys).first.time) refl (others_from y ys)
  where
    by_test : (b : Bool) → nat_le x.time (pick y ys).first.time ≡ b → AllFrom (pick y ys).first.time (pick y ys).others
        → AllFrom (if b then picked x (y ∷ ys) else picked (pick y ys).first (x ∷ (pick y ys).others)).first.time
        (if b then picked x (y ∷ ys) else picked (pick y ys).first (x ∷ (pick y ys).others)).others
    by_test true e a = from_lower x.time (pick y ys).first.time (leb-true _ _ e) (y ∷ ys) (pick-least y ys)
    by_test false e a = (let h = leb-false _ _ e in omega arith, a)

pub clock-taken : (t : ℕ) (w : Sound) (ws : List Sound) → clock_with t (w ∷ ws) ≤ clock_with t (pick w ws).others
clock-taken t w ws = by_others (pick w ws).others refl
  where
    by_others : (rest : List Sound) → (pick w ws).others ≡ rest → clock_with t (w ∷ ws) ≤ clock_with t rest
    by_others [] q = omega arith
    by_others (y ∷ ys) q =
        let a = subst (AllFrom (pick w ws).first.time) q (others_from w ws) in
        let h = pick_from (pick w ws).first.time y ys a in
        omega arith

pub clock-moved : (t u : ℕ) (ws : List Sound) → t ≤ u → clock_with t ws ≤ clock_with u ws
clock-moved t u [] l = l
clock-moved t u (w ∷ ws) l = omega arith

pub clock-pushed : (t : ℕ) (ws : List Sound) (x : Sound) → t ≤ x.time → clock_with t ws ≤ clock_with t (ws ++ x ∷ [])
clock-pushed t [] x l = omega arith
clock-pushed t (w ∷ ws) x l =
    let a = from_push (min t (pick w ws).first.time) (w ∷ ws) x
    (from_lower (min t (pick w ws).first.time) (pick w ws).first.time (omega arith) (w ∷ ws) (pick-least w ws)) (omega arith) in
    let h = pick_from (min t (pick w ws).first.time) w (ws ++ x ∷ []) a in
    omega arith

-- where all are later than a tick, the clock is there
pub clock-late : (t : ℕ) (ws : List Sound) → AllByRecursion (λ (w : Sound). t < w.time) ws → clock_with t ws ≡ t
clock-late t [] a = refl
clock-late t (w ∷ ws) a =
    let h = pick_from (suc t) w ws (later w ws a) in
    omega arith
  where
    later : (x : Sound) (xs : List Sound) → AllByRecursion (λ (w : Sound). t < w.time) (x ∷ xs) → AllFrom (suc t) (x ∷ xs)
    later x [] b = (let h = b.0 in omega arith, tt)
    later x (y ∷ ys) b = (let h = b.0 in omega arith, later y ys b.1)

-- picking leaves one less
pub pick-length : (x : Sound) (xs : List Sound) → length (pick x xs).others ≡ length xs
pick-length x [] = refl
pick-length x (y ∷ ys) = by_test (nat_le x.time (pick y ys).first.time) (pick-length y ys)
  where
    by_test : (b : Bool) → length (pick y ys).others ≡ length ys
        → length (if b then picked x (y ∷ ys) else picked (pick y ys).first (x ∷ (pick y ys).others)).others ≡ suc (length ys)
    by_test true h = refl
    by_test false h = ap suc h

-- what is due where a process stands comes out first, then what comes out of the others and of what follows
pub split_eager : (n t e : ℕ) (ws xs : List Sound) → length ws ≤ n → length ws ≤ most_waiting → BeginsFrom t e xs
    → come_out_after ws xs e ≡ out_before t 0 ws ++ come_out_after (left_waiting t 0 ws) xs e
split_eager n t e [] xs l m b = refl
split_eager zero t e (w ∷ ws) xs l m b = absurd (omega arith)
split_eager (suc n) t e (w ∷ ws) xs l m b =
    by_test (nat_le (pick w ws).first.time t) refl
    (λ h. split_eager n t e (pick w ws).others xs
    (let g = pick-length w ws in omega arith) (let g = pick-length w ws in omega arith) b)
  where
    by_test : (c : Bool) → nat_le (pick w ws).first.time t ≡ c
        → (Unit {0} → come_out_after (pick w ws).others xs e
        ≡ out_before t 0 (pick w ws).others ++ come_out_after (left_waiting t 0 (pick w ws).others) xs e)
        → come_out_after (w ∷ ws) xs e ≡ out_before t 0 (w ∷ ws) ++ come_out_after (left_waiting t 0 (w ∷ ws)) xs e
    by_test true f ih =
        let due = leb-true _ _ f in
        eager t e w ws xs due b
        ∙ ap (λ (l : List Sound). (pick w ws).first ∷ l) (ih tt)
        ∙ sym (ap₂ (λ (us vs : List Sound). us ++ come_out_after vs xs e) (out-due t 0 w ws due) (left-due t 0 w ws due))
    by_test false f ih =
        let late = all_later t w ws (let h = leb-false _ _ f in omega arith) in
        sym (ap₂ (λ (us vs : List Sound). us ++ come_out_after vs xs e)
        (out-none t 0 (w ∷ ws) late (omega arith)) (left-none t 0 (w ∷ ws) late (omega arith)))
