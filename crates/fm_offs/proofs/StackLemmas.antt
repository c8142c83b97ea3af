-- The earliest one of a stack, found by its index, is the one that is picked.
use Rattle.std.proofs.Common.{◌≡◌, ℕ, zero, suc, ◌+◌, ◌<◌, ◌≤◌, List, [], ◌∷◌, length, Bool, true, false, map, take, drop, All, refl, sym, ap, ◌∙◌, subst, arith}
use Rattle.std.specs.Prelude.{if◌then◌else◌, nat_le, min, slice_index_or, remove}
use Rattle.std.proofs.lemmas.Bool.{le-leb, leb-true, false_from_ne_true}
use Rattle.std.proofs.lemmas.List.Edits.{length-remove}
use Rattle.std.proofs.lemmas.List.Elements.{All-append, All-drop, All-take}
use Rattle.fm_offs.specs.declared.note_off.NoteOff.{NoteOff}
use Rattle.fm_line.specs.Sounds.{Sound, Picked, picked, pick, clock_with, moved_to, most_waiting, out_before, left_waiting}
use Rattle.fm_offs.specs.Stack.{off_sound, off_sounds, no_off, tick_at, IsEarliest, LetsOut, ComesNext, HasRoom}
use Rattle.std.specs.List.{AllByRecursion}
use Rattle.fm_line.proofs.OutEager.{clock-late, clock-taken}
use Rattle.fm_line.proofs.OutStepping.{out-due, left-due, out-cut, left-cut, out-none, left-none}

-- where all are as late as a tick, so is the one that is picked
pick_late : (t : ℕ) (x : NoteOff) (xs : List NoteOff)
    → ((k : ℕ) → k < length (x ∷ xs) → t ≤ tick_at (x ∷ xs) k)
    → t ≤ (pick (off_sound x) (map off_sound xs)).first.time
pick_late t x [] late = late 0 (omega arith)
pick_late t x (y ∷ ys) late =
    by_test (nat_le x.tick (pick (off_sound y) (map off_sound ys)).first.time) (late 0 (omega arith))
    (pick_late t y ys (λ k l. late (suc k) (omega arith)))
  where
    by_test : (b : Bool) → t ≤ x.tick → t ≤ (pick (off_sound y) (map off_sound ys)).first.time
        → t ≤ (if b then picked (off_sound x) (off_sound y ∷ map off_sound ys)
        else picked (pick (off_sound y) (map off_sound ys)).first
        (off_sound x ∷ (pick (off_sound y) (map off_sound ys)).others)).first.time
    by_test true f g = f
    by_test false f g = g

-- the earliest one is picked, and the others are left
pub earliest-picked : (i : ℕ) (x : NoteOff) (xs : List NoteOff) → IsEarliest (x ∷ xs) i
    → pick (off_sound x) (map off_sound xs)
    ≡ picked (off_sound (slice_index_or (x ∷ xs) i no_off)) (map off_sound (remove (x ∷ xs) i))
earliest-picked zero x [] e = refl
earliest-picked (suc i) x [] e = let h = e.there in absurd (omega arith)
earliest-picked zero x (y ∷ ys) e =
    rw (le-leb _ _ (pick_late x.tick y ys (λ k l. e.least (suc k) (omega arith)))) refl
earliest-picked (suc i) x (y ∷ ys) e =
    let inner : IsEarliest (y ∷ ys) i = record {
      there = let h = e.there in omega arith;
      first = λ k l. e.first (suc k) (omega arith);
      least = λ k l. e.least (suc k) (omega arith);
    } in
    let ih = earliest-picked i y ys inner in
    let low : tick_at (y ∷ ys) i < x.tick = e.first 0 (omega arith) in
    rw ih (rw (false_from_ne_true (nat_le x.tick (tick_at (y ∷ ys) i)) (λ t. let h = leb-true _ _ t in omega arith)) refl)

-- what stands for an index that is not there plays no part where it is there
pub any_default : (xs : List NoteOff) (i : ℕ) (d e : NoteOff) → i < length xs → slice_index_or xs i d ≡ slice_index_or xs i e
any_default [] i d e l = absurd (omega arith)
any_default (x ∷ xs) zero d e l = refl
any_default (x ∷ xs) (suc i) d e l = any_default xs i d e (omega arith)

-- ---- the next one

module _ (t k i : ℕ) where
  -- the earliest one, where it is due
  pub next-due : (xs : List NoteOff) (off : NoteOff) → IsEarliest xs i → tick_at xs i ≤ t → off ≡ slice_index_or xs i off
      → (out_before t k (map off_sound xs) ≡ off_sound off ∷ out_before t k (map off_sound (remove xs i)))
      × (left_waiting t k (map off_sound xs) ≡ left_waiting t k (map off_sound (remove xs i)))
  next-due [] off e l o = let h = e.there in absurd (omega arith)
  next-due (x ∷ xs) off e l o =
      let p = earliest-picked i x xs e in
      let due : (pick (off_sound x) (map off_sound xs)).first.time ≤ t = rw p l in
      let is : slice_index_or (x ∷ xs) i no_off ≡ off = any_default (x ∷ xs) i no_off off e.there ∙ sym o in (
        out-due t k (off_sound x) (map off_sound xs) due
            ∙ ap (λ (r : Picked). r.first ∷ out_before t k r.others) p
            ∙ ap (λ (f : NoteOff). off_sound f ∷ out_before t k (map off_sound (remove (x ∷ xs) i))) is,
        left-due t k (off_sound x) (map off_sound xs) due ∙ ap (λ (r : Picked). left_waiting t k r.others) p,
      )

  all_late : (xs : List NoteOff) → ((n : ℕ) → n < length xs → t < tick_at xs n)
      → AllByRecursion (λ (y : Sound). t < y.time) (map off_sound xs)
  all_late [] f = tt
  all_late (x ∷ xs) f = (f 0 (omega arith), all_late xs (λ n l. f (suc n) (omega arith)))

  earliest_late : (xs : List NoteOff) → IsEarliest xs i → t < tick_at xs i
      → AllByRecursion (λ (y : Sound). t < y.time) (map off_sound xs)
  earliest_late xs e l = all_late xs (λ n m. let h = e.least n m in omega arith)

  map_length : (xs : List NoteOff) → length (map off_sound xs) ≡ length xs
  map_length [] = refl
  map_length (x ∷ xs) = ap suc (map_length xs)

  -- the one that waits longest, where none is due and there is no room
  pub next-cut : (xs : List NoteOff) (off : NoteOff) → IsEarliest xs i → t < tick_at xs i
      → most_waiting < length xs + k → off ≡ slice_index_or xs 0 off
      → (out_before t k (map off_sound xs) ≡ moved_to t (off_sound off) ∷ out_before t k (map off_sound (remove xs 0)))
      × (left_waiting t k (map off_sound xs) ≡ left_waiting t k (map off_sound (remove xs 0)))
  next-cut [] off e l m o = let h = e.there in absurd (omega arith)
  next-cut (x ∷ xs) off e l m o =
      let late = earliest_late (x ∷ xs) e l in
      let many : most_waiting < length (off_sound x ∷ map off_sound xs) + k = let h = map_length xs in omega arith in (
        out-cut t k (off_sound x) (map off_sound xs) late many
            ∙ ap (λ (f : NoteOff). moved_to t (off_sound f) ∷ out_before t k (map off_sound xs)) (sym o),
        left-cut t k (off_sound x) (map off_sound xs) late many,
      )

  -- none, where none is due and there is room
  pub next-none : (xs : List NoteOff) → IsEarliest xs i → t < tick_at xs i → length xs + k ≤ most_waiting
      → (out_before t k (map off_sound xs) ≡ []) × (left_waiting t k (map off_sound xs) ≡ map off_sound xs)
  next-none xs e l m =
      let late = earliest_late xs e l in
      let few : length (map off_sound xs) + k ≤ most_waiting = let h = map_length xs in omega arith in
      (out-none t k (map off_sound xs) late few, left-none t k (map off_sound xs) late few)

-- the clock, by the index of the earliest
pub clock_is : (t i : ℕ) (xs : List NoteOff) → IsEarliest xs i → clock_with t (map off_sound xs) ≡ min t (tick_at xs i)
clock_is t i [] e = let h = e.there in absurd (omega arith)
clock_is t i (x ∷ xs) e = ap (λ (r : Picked). min t r.first.time) (earliest-picked i x xs e)

-- ---- the clock where one is given

module _ (t i : ℕ) where
  -- an earliest one that is due is given at the clock, and the clock does not fall
  pub due-clock : (xs : List NoteOff) (off : NoteOff) → IsEarliest xs i → tick_at xs i ≤ t → off ≡ slice_index_or xs i off
      → (off.tick ≡ clock_with t (map off_sound xs))
      × (clock_with t (map off_sound xs) ≤ clock_with t (map off_sound (remove xs i)))
  due-clock [] off e l o = let h = e.there in absurd (omega arith)
  due-clock (x ∷ xs) off e l o =
      let p = earliest-picked i x xs e in
      let is : slice_index_or (x ∷ xs) i no_off ≡ off = any_default (x ∷ xs) i no_off off e.there ∙ sym o in
      let same = ap (λ (f : NoteOff). f.tick) is in
      let c = clock_is t i (x ∷ xs) e in (
        omega arith,
        subst (λ (ys : List Sound). clock_with t (map off_sound (x ∷ xs)) ≤ clock_with t ys)
            (ap (λ (r : Picked). r.others) p) (clock-taken t (off_sound x) (map off_sound xs)),
      )

  -- one that is cut is given at the clock, which stays
  pub cut-clock : (xs : List NoteOff) → IsEarliest xs i → t < tick_at xs i
      → (t ≡ clock_with t (map off_sound xs)) × (t ≡ clock_with t (map off_sound (remove xs 0)))
  cut-clock [] e l = let h = e.there in absurd (omega arith)
  cut-clock (x ∷ xs) e l =
      let late = earliest_late t 0 i (x ∷ xs) e l in
      (sym (clock-late t (map off_sound (x ∷ xs)) late), sym (clock-late t (map off_sound xs) late.1))

-- ---- one at a time

removed : (xs : List NoteOff) (i : ℕ) → i < length xs → length (off_sounds (remove xs i)) + 1 ≡ length (off_sounds xs)
removed xs i l = let h = map_length 0 0 0 (remove xs i) in let g = map_length 0 0 0 xs in let f = length-remove xs i l in omega arith

module _ (t k i : ℕ) (xs : List NoteOff) (off : NoteOff) (e : IsEarliest xs i) where
  -- an earliest one that is due comes out
  pub lets-due : tick_at xs i ≤ t → off ≡ slice_index_or xs i off
      → LetsOut t k (off_sounds xs) (off_sounds (remove xs i)) (off_sound off)
  lets-due due is =
      let next = next-due t k i xs off e due is in
      let clock = due-clock t i xs off e due is in
      record { out = next.0; left = next.1; at = clock.0; rising = clock.1; fewer = removed xs i e.there }

  -- where none is due and there is no room, the one that waits longest comes out
  pub lets-cut : t < tick_at xs i → most_waiting < length xs + k → off ≡ slice_index_or xs 0 off
      → LetsOut t k (off_sounds xs) (off_sounds (remove xs 0)) (moved_to t (off_sound off))
  lets-cut late many is =
      let next = next-cut t k i xs off e late many is in
      let clock = cut-clock t i xs e late in record {
        out = next.0;
        left = next.1;
        at = clock.0;
        rising = omega (arith, clock.0, clock.1);
        fewer = removed xs 0 (let h = e.there in omega arith);
      }

  -- where none is due and there is room, none comes out
  pub lets-none : t < tick_at xs i → length xs + k ≤ most_waiting → HasRoom t k (off_sounds xs)
  lets-none late few =
      let next = next-none t k i xs e late few in record {
        out = next.0;
        left = next.1;
        clock = sym (cut-clock t i xs e late).0;
        room = let h = map_length 0 0 0 xs in omega arith;
      }

module _ (t k i : ℕ) (xs : List NoteOff) (e : IsEarliest xs i) where
  pub comes-due : tick_at xs i ≤ t → ComesNext t k (off_sounds xs)
  comes-due due = record {
    first = off_sound (slice_index_or xs i no_off);
    others = off_sounds (remove xs i);
    lets = lets-due t k i xs (slice_index_or xs i no_off) e due (any_default xs i no_off (slice_index_or xs i no_off) e.there);
  }

  pub comes-cut : t < tick_at xs i → most_waiting < length xs + k → ComesNext t k (off_sounds xs)
  comes-cut late many = record {
    first = moved_to t (off_sound (slice_index_or xs 0 no_off));
    others = off_sounds (remove xs 0);
    lets = lets-cut t k i xs (slice_index_or xs 0 no_off) e late many
        (any_default xs 0 no_off (slice_index_or xs 0 no_off) (let h = e.there in omega arith));
  }

-- ---- what holds of all

-- what holds of all note-offs holds of all but one
pub remove-all : (P : NoteOff → Type 0) (xs : List NoteOff) (i : ℕ) → All P xs → All P (remove xs i)
remove-all P xs i all = All-append P (take i xs) (drop (suc i) xs) (All-take P i xs all) (All-drop P (suc i) xs all)

-- and of the one
pub taken-all : (P : NoteOff → Type 0) (xs : List NoteOff) (i : ℕ) (off : NoteOff) → All P xs → i < length xs
    → off ≡ slice_index_or xs i off → P off
taken-all P xs i off all below is = subst P (sym is) (all i off below)
