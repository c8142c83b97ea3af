-- The line of one process, read off the marks of all: its events in their order, and its end behind them.
use Rattle.std.proofs.Common.{◌≡◌, ℕ, zero, suc, ◌+◌, ◌<◌, ◌≤◌, ◌⊎◌, inl, inr, Bool, true, false, List, [], ◌∷◌, refl, sym, ◌∙◌, subst, arith, true≢false}
use Rattle.std.specs.Prelude.{Option, Some, None, nat_eq, slice_index_or, if◌then◌else◌}
use Rattle.std.specs.List.{AllByRecursion}
use Rattle.std.proofs.lemmas.Bool.{eqb-true, eq-eqb}
use Rattle.fm_msg.specs.declared.msg.Msg.{Msg}
use Rattle.fm_line.specs.Line.{event_at}
use Rattle.fm_line.specs.Marks.{Mark, mark_time, process_sounds, process_end}
use Rattle.fm_line.specs.Sounds.{Sound, is_note_off, come_out, numbered}
use Rattle.fm_line.proofs.OutRising.{RunsFrom, BeginsFrom, come_out-runs}
use Rattle.fm_promise.proofs.Lists.{each_weaken, list_at}
use Rattle.fm_promise.proofs.Pens.{Pen, pen_after, Numbered, IsPen, rises_after, InRange, numbered_range}
use Rattle.fm_promise.proofs.Ordered.{time_from}
use Rattle.fm_promise.proofs.Births.{Has, Before, Paired}

-- ---- a mark in front of others

-- the sound of a mark with a message
abbrev pub sound_of_mark : Mark → Msg → Sound
sound_of_mark m x = record { time = mark_time m; msg = x }

-- what a mark adds to the line of a process: nothing, an event, or the end
pub data Seen (p : ℕ) (m : Mark) (ms : List Mark) : Type 0 where
  other : (m.process ≡ p → ⊥) → process_sounds p (m ∷ ms) ≡ process_sounds p ms → process_end p (m ∷ ms) ≡ process_end p ms → Seen p m ms
  sound : m.process ≡ p → (x : Msg) → m.msg ≡ Some x → process_sounds p (m ∷ ms) ≡ sound_of_mark m x ∷ process_sounds p ms
      → process_end p (m ∷ ms) ≡ process_end p ms → Seen p m ms
  stop : m.process ≡ p → m.msg ≡ None → process_sounds p (m ∷ ms) ≡ process_sounds p ms → process_end p (m ∷ ms) ≡ m.onset → Seen p m ms

-- by its process and its message
seen_by : (p : ℕ) (m : Mark) (ms : List Mark) (own : Bool) (o : Option Msg) → nat_eq m.process p ≡ own → m.msg ≡ o → Seen p m ms
seen_by p m ms false o own is = other (λ same. true≢false (sym (eq-eqb m.process p same) ∙ own)) (rw own refl) (rw own refl)
seen_by p m ms true (Some x) own is = sound (eqb-true m.process p own) x is (rw (own, is) refl) (rw (own, is) refl)
seen_by p m ms true None own is = stop (eqb-true m.process p own) is (rw (own, is) refl) (rw (own, is) refl)

-- each mark adds one of these
pub seen : (p : ℕ) (m : Mark) (ms : List Mark) → Seen p m ms
seen p m ms = seen_by p m ms (nat_eq m.process p) m.msg refl refl

-- a message is no end
pub some_or_none : {P : Type 0} → (m : Mark) (x : Msg) → m.msg ≡ Some x → m.msg ≡ None → P
some_or_none {P} m x some none = absurd (subst IsSome (sym some ∙ none) tt)
  where
    IsSome : Option Msg → Type 0
    IsSome None = ⊥
    IsSome (Some y) = Unit {0}

-- the end of a process stands at its onset
pub end_time : (m : Mark) → m.msg ≡ None → mark_time m ≡ m.onset
end_time m none = rw none refl

-- ---- bounds from below

-- each mark of a process sounds no earlier than t
abbrev pub From : (p t : ℕ) → List Mark → Type 0
From p t ms = AllByRecursion (λ y. y.process ≡ p → t ≤ mark_time y) ms

-- the list has the end of a process
abbrev pub Ended : ℕ → List Mark → Type 0
Ended p [] = ⊥
Ended p (m ∷ ms) = ((m.process ≡ p) × (m.msg ≡ None)) ⊎ Ended p ms

-- the end is no earlier than t
pub end_from : (p t : ℕ) (ms : List Mark) → From p t ms → Ended p ms → t ≤ process_end p ms
end_from p t [] from ended = absurd ended
end_from p t (m ∷ ms) from ended = by_kind (seen p m ms) ended (end_from p t ms from.1)
  where
    by_kind : Seen p m ms → ((m.process ≡ p) × (m.msg ≡ None)) ⊎ Ended p ms → (Ended p ms → t ≤ process_end p ms)
        → t ≤ process_end p (m ∷ ms)
    by_kind (stop own none _ is) _ rest = omega (arith, is, from.0 own, end_time m none)
    by_kind (other not_own _ is) (inl here) rest = absurd (not_own here.0)
    by_kind (other not_own _ is) (inr later) rest = omega (arith, is, rest later)
    by_kind (sound own x some _ is) (inl here) rest = some_or_none m x some here.1
    by_kind (sound own x some _ is) (inr later) rest = omega (arith, is, rest later)

-- ---- order

-- marks of the process of a mark follow it
followers : (births : List (List ℕ)) (p : ℕ) (m : Mark) (ms : List Mark) → m.process ≡ p → AllByRecursion (Before births m) ms
    → From p m.onset ms
followers births p m ms own before =
    each_weaken (Before births m) (λ y. y.process ≡ p → m.onset ≤ mark_time y)
    (λ y b is. let o = b.same (own ∙ sym is) in omega (arith, o.begins, time_from y)) ms before

-- each mark of a process begins no later than d
abbrev pub To : (p d : ℕ) → List Mark → Type 0
To p d ms = AllByRecursion (λ y. y.process ≡ p → y.onset ≤ d) ms

-- what sounds when, by its kind
kind_time : (m : Mark) (x : Msg) → m.msg ≡ Some x → is_note_off x ≡ false → mark_time m ≡ m.onset
kind_time m x some plain = rw (some, plain) refl

-- the sounds of a process begin in turn, from where its marks sound to its end
pub sounds_begin : (births : List (List ℕ)) (p low d : ℕ) (ms : List Mark) → Paired births ms → From p low ms → To p d ms → low ≤ d
    → BeginsFrom low d (process_sounds p ms)
sounds_begin births p low d [] paired from to order = order
sounds_begin births p low d (m ∷ ms) paired from to order =
    by_kind (seen p m ms) (sounds_begin births p low d ms paired.1 from.1 to.1 order)
    (λ own. sounds_begin births p m.onset d ms paired.1 (followers births p m ms own paired.0) to.1 (to.0 own))
  where
    by_note : (x : Msg) (off : Bool) → m.msg ≡ Some x → is_note_off x ≡ off → BeginsFrom low d (process_sounds p ms)
        → BeginsFrom m.onset d (process_sounds p ms) → BeginsFrom (if off then low else mark_time m) d (process_sounds p ms)
    by_note x true some is rest later = rest
    by_note x false some is rest later = subst (λ t. BeginsFrom t d (process_sounds p ms)) (sym (kind_time m x some is)) later

    by_kind : Seen p m ms → BeginsFrom low d (process_sounds p ms) → (m.process ≡ p → BeginsFrom m.onset d (process_sounds p ms))
        → BeginsFrom low d (process_sounds p (m ∷ ms))
    by_kind (other _ is _) rest later = subst (BeginsFrom low d) (sym is) rest
    by_kind (stop _ _ is _) rest later = subst (BeginsFrom low d) (sym is) rest
    by_kind (sound own x some is _) rest later =
        subst (BeginsFrom low d) (sym is) (from.0 own, by_note x (is_note_off x) some refl rest (later own))

-- events that run from a tick to another are not before the first, nor is what stands behind them
pub runs_from : (low e j i : ℕ) (xs : List Sound) → RunsFrom low e xs → (k : ℕ)
    → low ≤ (slice_index_or (numbered j i xs) k (event_at e)).time
runs_from low e j i [] r k = r
runs_from low e j i (x ∷ xs) r zero = r.0
runs_from low e j i (x ∷ xs) r (suc k) = let h = runs_from x.time e j (i + 1) xs r.1 k in omega (arith, h, r.0)

-- and they rise
pub runs_rise : (low e j i : ℕ) (xs : List Sound) → RunsFrom low e xs → (k l : ℕ) → k ≤ l
    → (slice_index_or (numbered j i xs) k (event_at e)).time ≤ (slice_index_or (numbered j i xs) l (event_at e)).time
runs_rise low e j i [] r k l order = omega arith
runs_rise low e j i (x ∷ xs) r zero zero order = omega arith
runs_rise low e j i (x ∷ xs) r zero (suc l) order = runs_from x.time e j (i + 1) xs r.1 l
runs_rise low e j i (x ∷ xs) r (suc k) zero order = absurd (omega (arith, order))
runs_rise low e j i (x ∷ xs) r (suc k) (suc l) order = runs_rise x.time e j (i + 1) xs r.1 k l (omega (arith, order))

-- the events of a process run from where its marks sound to its end
pub process_runs : (births : List (List ℕ)) (p low : ℕ) (ms : List Mark) → Paired births ms → From p low ms
    → To p (process_end p ms) ms → low ≤ process_end p ms
    → RunsFrom low (process_end p ms) (come_out (process_sounds p ms) (process_end p ms))
process_runs births p low ms paired from to order =
    come_out-runs low (process_end p ms) [] (process_sounds p ms) tt
    (sounds_begin births p low (process_end p ms) ms paired from to order)

-- behind an end the next process is one that got its number
pub after_end : (m : Mark) (p : Pen) → m.msg ≡ None → (pen_after m p).process ≡ p.given
after_end m p none = rw none refl

-- marks of a process end with its end
pub to_end : (births : List (List ℕ)) (p : ℕ) (pen : Pen) (ms : List Mark) → IsPen pen → Numbered pen ms → Paired births ms → Ended p ms
    → To p (process_end p ms) ms
to_end births p pen [] is_pen numbered paired ended = tt
to_end births p pen (m ∷ ms) is_pen numbered paired ended =
    by_kind (seen p m ms) ended (to_end births p (pen_after m pen) ms (rises_after m pen is_pen).is_pen numbered.2 paired.1)
  where
    same_end : (process_end p (m ∷ ms) ≡ process_end p ms) → To p (process_end p ms) ms → To p (process_end p (m ∷ ms)) ms
    same_end is to = subst (λ d. To p d ms) (sym is) to

    past : m.process ≡ p → m.msg ≡ None → (d : ℕ) → To p d ms
    past own none d =
        each_weaken (InRange (pen_after m pen).process _) (λ y. y.process ≡ p → y.onset ≤ d)
        (λ y i same. absurd (omega (arith, i.from, after_end m pen none, is_pen, numbered.0, own, same))) ms
        (numbered_range (pen_after m pen) ms (rises_after m pen is_pen).is_pen numbered.2)

    by_kind : Seen p m ms → ((m.process ≡ p) × (m.msg ≡ None)) ⊎ Ended p ms → (Ended p ms → To p (process_end p ms) ms)
        → To p (process_end p (m ∷ ms)) (m ∷ ms)
    by_kind (stop own none _ is) _ rest = (λ _. omega (arith, is), past own none (process_end p (m ∷ ms)))
    by_kind (other not_own _ is) (inl here) rest = absurd (not_own here.0)
    by_kind (other not_own _ is) (inr later) rest = (λ own. absurd (not_own own), same_end is (rest later))
    by_kind (sound own x some _ is) (inl here) rest = some_or_none m x some here.1
    by_kind (sound own x some _ is) (inr later) rest =
        (λ _. omega (arith, is, end_from p m.onset ms (followers births p m ms own paired.0) later), same_end is (rest later))

-- ---- starts

-- a process that no mark is of has no end
pub absent_end : (q : ℕ) (ms : List Mark) → AllByRecursion (λ y. q < y.process) ms → process_end q ms ≡ 0
absent_end q [] all = refl
absent_end q (m ∷ ms) all = by_kind (seen q m ms) (absent_end q ms all.1)
  where
    by_kind : Seen q m ms → process_end q ms ≡ 0 → process_end q (m ∷ ms) ≡ 0
    by_kind (other _ _ is) rest = is ∙ rest
    by_kind (sound own x _ _ is) rest = is ∙ rest
    by_kind (stop own _ _ is) rest = absurd (omega (arith, own, all.0))

-- and no sounds
pub absent_sounds : (q : ℕ) (ms : List Mark) → AllByRecursion (λ y. q < y.process) ms → process_sounds q ms ≡ []
absent_sounds q [] all = refl
absent_sounds q (m ∷ ms) all = by_kind (seen q m ms) (absent_sounds q ms all.1)
  where
    by_kind : Seen q m ms → process_sounds q ms ≡ [] → process_sounds q (m ∷ ms) ≡ []
    by_kind (other _ is _) rest = is ∙ rest
    by_kind (sound own x _ _ _) rest = absurd (omega (arith, own, all.0))
    by_kind (stop own _ is _) rest = is ∙ rest

-- the end of a predecessor is no later than any mark of the process
pub waits_for : (births : List (List ℕ)) (q p : ℕ) (pen : Pen) (ms : List Mark) → IsPen pen → Numbered pen ms → Paired births ms
    → Has q (list_at births p) → q < p → From p (process_end q ms) ms
waits_for births q p pen [] is_pen numbered paired has smaller = tt
waits_for births q p pen (m ∷ ms) is_pen numbered paired has smaller =
    by_kind (seen q m ms) (waits_for births q p (pen_after m pen) ms (rises_after m pen is_pen).is_pen numbered.2 paired.1 has smaller)
  where
    later_numbers : m.process ≡ p → process_end q ms ≡ 0
    later_numbers own =
        absent_end q ms (each_weaken (InRange (pen_after m pen).process _) (λ y. q < y.process)
        (λ y i. omega (arith, i.from, (rises_after m pen is_pen).process, numbered.0, own, smaller)) ms
        (numbered_range (pen_after m pen) ms (rises_after m pen is_pen).is_pen numbered.2))

    unchanged : process_end q (m ∷ ms) ≡ process_end q ms → From p (process_end q ms) ms → From p (process_end q (m ∷ ms)) (m ∷ ms)
    unchanged is rest = (λ own. omega (arith, is, later_numbers own), subst (λ t. From p t ms) (sym is) rest)

    by_kind : Seen q m ms → From p (process_end q ms) ms → From p (process_end q (m ∷ ms)) (m ∷ ms)
    by_kind (other _ _ is) rest = unchanged is rest
    by_kind (sound own x _ _ is) rest = unchanged is rest
    by_kind (stop own none _ is) rest = (
      λ same. absurd (omega (arith, own, same, smaller)),
      each_weaken (Before births m) (λ y. y.process ≡ p → process_end q (m ∷ ms) ≤ mark_time y)
          (λ y b same. omega (
            arith,
            is,
            time_from y,
            b.waited none (subst (λ r. Has r (list_at births y.process)) (sym own)
                (subst (λ r. Has q (list_at births r)) (sym same) has)),
          ))
          ms paired.0,
    )
