-- What comes out never falls in time, whatever the ends of notes are.
use Rattle.std.proofs.Common.{◌≡◌, ℕ, zero, suc, ◌+◌, ◌≤◌, List, [], ◌∷◌, ◌++◌, Bool, true, false, filter, map, take, drop, refl, arith}
use Rattle.std.specs.Prelude.{if◌then◌else◌, nat_le, nat_lt}
use Rattle.std.proofs.lemmas.Bool.{leb-true, leb-false, le-leb, ltb-true, eq-eqb}
use Rattle.fm_line.specs.Validity.{run_valid}
pub use Rattle.fm_line.specs.Runs.{RunsFrom, BeginsFrom, AllFrom}
use Rattle.fm_line.specs.Sounds.{Sound, is_note_off, put_in, in_order, due_by, later_than, too_many, moved_to, out_before, left_waiting, most_waiting, ons_ahead, come_out_after, come_out, numbered}

-- ---- the order of what waits

-- sounds whose times never fall, from a tick on
abbrev pub RisesFrom : ℕ → List Sound → Type 0
RisesFrom low [] = Unit {0}
RisesFrom low (x ∷ xs) = (low ≤ x.time) × RisesFrom x.time xs

lower : (low t : ℕ) → low ≤ t → (xs : List Sound) → RisesFrom t xs → RisesFrom low xs
lower low t l [] r = tt
lower low t l (x ∷ xs) r = (let h = r.0 in omega arith, r.1)

put_in-rises : (low : ℕ) (x : Sound) (ys : List Sound) → low ≤ x.time → RisesFrom low ys → RisesFrom low (put_in x ys)
put_in-rises low x [] l r = (l, tt)
put_in-rises low x (y ∷ ys) l r = by_test (nat_le x.time y.time) refl (λ h. put_in-rises y.time x ys h r.1)
  where
    by_test : (b : Bool) → nat_le x.time y.time ≡ b → (y.time ≤ x.time → RisesFrom y.time (put_in x ys))
        → RisesFrom low (if b then x ∷ y ∷ ys else y ∷ put_in x ys)
    by_test true e h = (l, (leb-true _ _ e, r.1))
    by_test false e h = (r.0, h (let g = leb-false _ _ e in omega arith))

pub in_order-rises : (low : ℕ) (xs : List Sound) → AllFrom low xs → RisesFrom low (in_order xs)
in_order-rises low [] a = tt
in_order-rises low (x ∷ xs) a = put_in-rises low x (in_order xs) a.0 (in_order-rises low xs a.1)

-- of rising sounds those up to a tick run to it
up_to : (low t : ℕ) (xs : List Sound) → low ≤ t → RisesFrom low xs → RunsFrom low t (filter (λ (x : Sound). nat_le x.time t) xs)
up_to low t [] l r = l
up_to low t (x ∷ xs) l r =
    by_test (nat_le x.time t) refl (λ h. up_to x.time t xs h r.1) (up_to low t xs l (lower low x.time r.0 xs r.1))
  where
    by_test : (b : Bool) → nat_le x.time t ≡ b
        → (x.time ≤ t → RunsFrom x.time t (filter (λ (y : Sound). nat_le y.time t) xs))
        → RunsFrom low t (filter (λ (y : Sound). nat_le y.time t) xs)
        → RunsFrom low t (if b then x ∷ filter (λ (y : Sound). nat_le y.time t) xs else filter (λ (y : Sound). nat_le y.time t) xs)
    by_test true e h g = (r.0, h (leb-true _ _ e))
    by_test false e h g = g

-- ---- what comes out before a sound

pub runs-append : (low m e : ℕ) (xs ys : List Sound) → RunsFrom low m xs → RunsFrom m e ys → RunsFrom low e (xs ++ ys)
runs-append low m e [] [] r s = omega arith
runs-append low m e [] (y ∷ ys) r s = (let h = s.0 in omega arith, s.1)
runs-append low m e (x ∷ xs) ys r s = (r.0, runs-append x.time m e xs ys r.1 s)

at_one_tick : (t : ℕ) (xs : List Sound) → RunsFrom t t (map (moved_to t) xs)
at_one_tick t [] = omega arith
at_one_tick t (x ∷ xs) = (omega arith, at_one_tick t xs)

pub out-runs : (low t k : ℕ) (ws : List Sound) → low ≤ t → AllFrom low ws → RunsFrom low t (out_before t k ws)
out-runs low t k ws l a =
    runs-append low t t (due_by t ws) (map (moved_to t) (take (too_many k (later_than t ws)) (later_than t ws)))
    (up_to low t (in_order ws) l (in_order-rises low ws a)) (at_one_tick t (take (too_many k (later_than t ws)) (later_than t ws)))

-- what then waits is later

later-from : (t : ℕ) (xs : List Sound) → AllFrom t (later_than t xs)
later-from t [] = tt
later-from t (x ∷ xs) = by_test (nat_lt t x.time) refl (later-from t xs)
  where
    by_test : (b : Bool) → nat_lt t x.time ≡ b → AllFrom t (later_than t xs)
        → AllFrom t (if b then x ∷ later_than t xs else later_than t xs)
    by_test true e a = (let h = ltb-true _ _ e in omega arith, a)
    by_test false e a = a

all-drop : (t n : ℕ) (xs : List Sound) → AllFrom t xs → AllFrom t (drop n xs)
all-drop t zero xs a = a
all-drop t (suc n) [] a = tt
all-drop t (suc n) (x ∷ xs) a = all-drop t n xs a.1

pub left-from : (t k : ℕ) (ws : List Sound) → AllFrom t (left_waiting t k ws)
left-from t k ws = all-drop t (too_many k (later_than t ws)) (later_than t ws) (later-from t ws)

all-push : (t : ℕ) (ws : List Sound) (x : Sound) → AllFrom t ws → t ≤ x.time → AllFrom t (ws ++ x ∷ [])
all-push t [] x a l = (l, tt)
all-push t (w ∷ ws) x a l = (a.0, all-push t ws x a.1 l)

-- ---- all that comes out

-- what comes out of sounds that begin in turn never falls, and ends no later than the process
pub come_out-runs : (low e : ℕ) (ws xs : List Sound) → AllFrom low ws → BeginsFrom low e xs
    → RunsFrom low e (come_out_after ws xs e)
come_out-runs low e ws [] a b = out-runs low e most_waiting ws b a
come_out-runs low e ws (x ∷ xs) a b =
    by_test (is_note_off x.msg)
    (λ c. come_out-runs low e (ws ++ x ∷ []) xs (all-push low ws x a b.0) c)
    (λ c. come_out-runs x.time e (left_waiting x.time (ons_ahead (x ∷ xs)) ws) xs (left-from x.time (ons_ahead (x ∷ xs)) ws) c)
    b.1
  where
    by_test : (o : Bool)
        → (BeginsFrom low e xs → RunsFrom low e (come_out_after (ws ++ x ∷ []) xs e))
        → (BeginsFrom x.time e xs → RunsFrom x.time e (come_out_after (left_waiting x.time (ons_ahead (x ∷ xs)) ws) xs e))
        → BeginsFrom (if o then low else x.time) e xs
        → RunsFrom low e (if o then come_out_after (ws ++ x ∷ []) xs e
        else out_before x.time (ons_ahead (x ∷ xs)) ws
        ++ x ∷ come_out_after (left_waiting x.time (ons_ahead (x ∷ xs)) ws) xs e)
    by_test true f g c = f c
    by_test false f g c =
        runs-append low x.time e (out_before x.time (ons_ahead (x ∷ xs)) ws) _
        (out-runs low x.time (ons_ahead (x ∷ xs)) ws b.0 a) (omega arith, g c)

-- ---- lines

-- such sounds, numbered in turn, are the events of a valid line
pub numbered-valid : (low e j i : ℕ) (xs : List Sound) → RunsFrom low e xs → run_valid low e j i (numbered j i xs) ≡ true
numbered-valid low e j i [] r = le-leb low e r
numbered-valid low e j i (x ∷ xs) r =
    rw (le-leb low x.time r.0, eq-eqb j j refl, eq-eqb i i refl) (numbered-valid x.time e j (i + 1) xs r.1)

-- whatever the ends of notes are, what comes out of sounds that begin in turn is a valid run of events
pub come_out-valid : (low e j : ℕ) (xs : List Sound) → BeginsFrom low e xs
    → run_valid low e j 0 (numbered j 0 (come_out xs e)) ≡ true
come_out-valid low e j xs b = numbered-valid low e j 0 (come_out xs e) (come_out-runs low e [] xs tt b)
