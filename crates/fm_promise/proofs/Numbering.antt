-- The events of a process are numbered from 0, are in range, and all of them are as many as there are messages.
use Rattle.std.proofs.Common.{◌≡◌, ℕ, zero, suc, ◌+◌, ◌<◌, ◌≤◌, ◌⊎◌, inl, inr, Bool, true, false, List, [], ◌∷◌, length, refl, ap, sym, subst, arith}
use Rattle.std.specs.Prelude.{IsTrue, nat_eq, slice_index_or, if◌then◌else◌}
use Rattle.std.specs.List.{AllByRecursion}
use Rattle.std.proofs.lemmas.Bool.{cases_lt, eqb-true, eq-eqb}
use Rattle.fm_msg.specs.declared.msg.Msg.{Msg}
use Rattle.fm_msg.specs.Event.{TimedMessage}
use Rattle.fm_msg.specs.Message.{is_in_range}
use Rattle.fm_line.specs.Line.{event_at, sum_below}
use Rattle.fm_line.specs.Marks.{Mark, process_end, process_events, process_sounds}
use Rattle.fm_line.specs.Sounds.{Sound, come_out, numbered}
use Rattle.fm_line.proofs.OutKeeping.{all-come_out, length-events}
use Rattle.fm_promise.proofs.Good.{IsHeard, sounds_of, sounds}
use Rattle.fm_promise.proofs.OneProcess.{Seen, other, sound, stop, seen}

-- ---- numbers

-- an event of a process with a number there
pub record IsEventOf (p i : ℕ) (e : TimedMessage) : Type 0 where
  pub process : e.process ≡ p
  pub index : e.index ≡ i

-- the events are those of a process, numbered from a number on
abbrev pub EventsFrom : (p i : ℕ) → List TimedMessage → Type 0
EventsFrom p i es = (k d : ℕ) → k < length es → IsEventOf p (i + k) (slice_index_or es k (event_at d))

-- sounds that are numbered are such events
pub numbered_from : (p i : ℕ) (xs : List Sound) → EventsFrom p i (numbered p i xs)
numbered_from p i [] k d within = absurd (omega (arith, within))
numbered_from p i (x ∷ xs) zero d within = record { process = refl; index = omega arith }
numbered_from p i (x ∷ xs) (suc k) d within =
    let later = numbered_from p (i + 1) xs k d (omega (arith, within)) in
    record { process = later.process; index = omega (arith, later.index) }

-- ---- messages

-- the messages of sounds are in range
abbrev InRange : List Sound → Type 0
InRange xs = AllByRecursion (λ (x : Sound). IsTrue (is_in_range x.msg)) xs

-- those of a process are
sounds_heard : (p : ℕ) (ms : List Mark) → AllByRecursion (λ x. IsHeard x.msg) ms → InRange (process_sounds p ms)
sounds_heard p [] heard = tt
sounds_heard p (m ∷ ms) heard = by_kind (seen p m ms) (sounds_heard p ms heard.1)
  where
    by_kind : Seen p m ms → InRange (process_sounds p ms) → InRange (process_sounds p (m ∷ ms))
    by_kind (other _ is _) rest = subst InRange (sym is) rest
    by_kind (sound _ x some is _) rest = subst InRange (sym is) (subst IsHeard some heard.0, rest)
    by_kind (stop _ _ is _) rest = subst InRange (sym is) rest

numbered_heard : (p i : ℕ) (xs : List Sound) → InRange xs → (k d : ℕ) → k < length (numbered p i xs)
    → IsTrue (is_in_range (slice_index_or (numbered p i xs) k (event_at d)).msg)
numbered_heard p i [] heard k d within = absurd (omega (arith, within))
numbered_heard p i (x ∷ xs) heard zero d within = heard.0
numbered_heard p i (x ∷ xs) heard (suc k) d within = numbered_heard p (i + 1) xs heard.1 k d (omega (arith, within))

-- the events of a process are in range
pub events_heard : (p : ℕ) (ms : List Mark) → AllByRecursion (λ x. IsHeard x.msg) ms
    → (k d : ℕ) → k < length (process_events p ms) → IsTrue (is_in_range (slice_index_or (process_events p ms) k (event_at d)).msg)
events_heard p ms heard =
    numbered_heard p 0 (come_out (process_sounds p ms) (process_end p ms))
    (all-come_out (λ (x : Msg). IsTrue (is_in_range x)) (process_end p ms) [] (process_sounds p ms) tt (sounds_heard p ms heard))

-- ---- how many

-- sums of the same numbers
pub sum_same : (n : ℕ) (f g : ℕ → ℕ) → ((p : ℕ) → p < n → f p ≤ g p) → sum_below n f ≤ sum_below n g
sum_same zero f g same = omega arith
sum_same (suc n) f g same = omega (arith, sum_same n f g (λ p is. same p (omega (arith, is))), same n (omega arith))

-- what a number at one index adds, by the index
adds_at : (q c : ℕ) (p : ℕ) (b : Bool) → nat_eq q p ≡ b → (if nat_eq q p then c else 0) ≤ c
adds_at q c p true is = rw is (omega arith)
adds_at q c p false is = rw is (omega arith)

-- nothing elsewhere
adds_elsewhere : (q c : ℕ) (p : ℕ) (b : Bool) → nat_eq q p ≡ b → (q ≡ p → ⊥) → (if nat_eq q p then c else 0) ≤ 0
adds_elsewhere q c p true is apart = absurd (apart (eqb-true q p is))
adds_elsewhere q c p false is apart = rw is (omega arith)

-- below its index
sum_elsewhere : (n q c : ℕ) (f : ℕ → ℕ) → n ≤ q → sum_below n (λ p. (if nat_eq q p then c else 0) + f p) ≤ sum_below n f
sum_elsewhere n q c f past =
    sum_same n (λ p. (if nat_eq q p then c else 0) + f p) f
    (λ p is. omega (arith, adds_elsewhere q c p (nat_eq q p) refl (λ same. omega (arith, same, is, past))))

-- a number at one index, and others
sum_one : (n q c : ℕ) (f : ℕ → ℕ) → sum_below n (λ p. (if nat_eq q p then c else 0) + f p) ≤ c + sum_below n f
sum_one zero q c f = omega arith
sum_one (suc n) q c f = by_place (cases_lt q n) (sum_one n q c f)
  where
    by_place : (q < n) ⊎ (n ≤ q) → sum_below n (λ p. (if nat_eq q p then c else 0) + f p) ≤ c + sum_below n f
        → sum_below (suc n) (λ p. (if nat_eq q p then c else 0) + f p) ≤ c + sum_below (suc n) f
    by_place (inl smaller) rest = omega (arith, rest, adds_elsewhere q c n (nat_eq q n) refl (λ same. omega (arith, same, smaller)))
    by_place (inr past) rest = omega (arith, adds_at q c n (nat_eq q n) refl, sum_elsewhere n q c f past)

-- a mark adds at most its message to the sounds of its process
one_more_sound : (p : ℕ) (m : Mark) (ms : List Mark)
    → length (process_sounds p (m ∷ ms)) ≤ (if nat_eq m.process p then sounds_of m.msg else 0) + length (process_sounds p ms)
one_more_sound p m ms = by_kind (seen p m ms)
  where
    by_kind : Seen p m ms
        → length (process_sounds p (m ∷ ms)) ≤ (if nat_eq m.process p then sounds_of m.msg else 0) + length (process_sounds p ms)
    by_kind (other _ is _) = omega (arith, ap length is)
    by_kind (stop _ _ is _) = omega (arith, ap length is)
    by_kind (sound own x some is _) =
        let counted : (if nat_eq m.process p then sounds_of m.msg else 0) ≡ 1 = rw (eq-eqb m.process p own, some) refl in
        omega (arith, ap length is, counted)

-- nothing, so often
sum_nothing : (n : ℕ) → sum_below n (λ p. 0) ≡ 0
sum_nothing zero = refl
sum_nothing (suc n) = omega (arith, sum_nothing n)

-- all sounds of the first n processes are no more than all messages
sounds_counted : (n : ℕ) (ms : List Mark) → sum_below n (λ p. length (process_sounds p ms)) ≤ sounds ms
sounds_counted n [] = omega (arith, sum_nothing n)
sounds_counted n (m ∷ ms) =
    omega (
      arith,
      sounds_counted n ms,
      sum_same n (λ p. length (process_sounds p (m ∷ ms)))
          (λ p. (if nat_eq m.process p then sounds_of m.msg else 0) + length (process_sounds p ms)) (λ p _. one_more_sound p m ms),
      sum_one n m.process (sounds_of m.msg) (λ p. length (process_sounds p ms)),
    )

-- nor are all their events
pub events_counted : (n : ℕ) (ms : List Mark) → sum_below n (λ p. length (process_events p ms)) ≤ sounds ms
events_counted n ms =
    omega (
      arith,
      sounds_counted n ms,
      sum_same n (λ p. length (process_events p ms)) (λ p. length (process_sounds p ms))
          (λ p _. omega (arith, length-events p (process_end p ms) (process_sounds p ms))),
    )
