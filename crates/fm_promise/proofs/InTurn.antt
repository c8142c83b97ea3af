-- Where notes end in their turn, a process has its events in the order of its marks.
use Rattle.std.proofs.Common.{◌≡◌, ℕ, zero, suc, ◌+◌, ◌<◌, ◌≤◌, ◌⊎◌, inl, inr, List, [], ◌∷◌, length, refl, sym, ap, ap₂, ◌∙◌, subst, arith}
use Rattle.std.specs.Prelude.{Option, Some, None}
use Rattle.std.specs.List.{AllByRecursion}
use Rattle.std.proofs.lemmas.Bool.{eq-eqb, ne_eqb, cases_lt}
use Rattle.fm_msg.specs.declared.msg.Msg.{Msg}
use Rattle.fm_msg.specs.Event.{TimedMessage}
use Rattle.fm_line.specs.Marks.{Mark, mark_time, events_in_turn, process_sounds, process_events, process_end, lines_from}
use Rattle.fm_line.specs.Runs.{RunsFrom, AreInTurn}
use Rattle.fm_line.specs.Sounds.{Sound}
use Rattle.fm_line.proofs.OutInTurn.{in_turn_events}
use Rattle.fm_meaning.specs.Bounds.{Totals}
use Rattle.fm_promise.specs.InTurn.{lines_in_turn}
use Rattle.fm_promise.proofs.Lists.{each_weaken}
use Rattle.fm_promise.proofs.Pens.{Pen, pen_after, Numbered, IsPen, rises_after, InRange, numbered_range}
use Rattle.fm_promise.proofs.Following.{Later, InOrder, following_times}
use Rattle.fm_promise.proofs.OneProcess.{From, Ended, Seen, other, sound, stop, seen, some_or_none, end_time, after_end, absent_sounds}
use Rattle.fm_promise.proofs.Whole.{first_pen, IsWhole, ended_in, from_zero}

-- ---- times

-- marks of the process of a mark sound no earlier
sounding_after : (p : ℕ) (m : Mark) (ms : List Mark) → m.process ≡ p → AllByRecursion (Later m) ms → From p (mark_time m) ms
sounding_after p m ms own later =
    each_weaken (Later m) (λ y. y.process ≡ p → mark_time m ≤ mark_time y) (λ y b is. following_times m y (b (own ∙ sym is))) ms later

-- behind its end a process has no more marks
none_behind : (p : ℕ) (pen : Pen) (m : Mark) (ms : List Mark) → IsPen pen → Numbered pen (m ∷ ms) → m.process ≡ p → m.msg ≡ None
    → AllByRecursion (λ y. p < y.process) ms
none_behind p pen m ms is_pen numbered own none =
    each_weaken (InRange (pen_after m pen).process _) (λ y. p < y.process)
    (λ y i. omega (arith, i.from, after_end m pen none, is_pen, numbered.0, own)) ms
    (numbered_range (pen_after m pen) ms (rises_after m pen is_pen).is_pen numbered.2)

-- a run to another end of other sounds, where both are the same
runs_as : (low d e : ℕ) (xs ys : List Sound) → d ≡ e → xs ≡ ys → RunsFrom low e ys → RunsFrom low d xs
runs_as low d e xs ys ends is runs = subst (λ t. RunsFrom low t xs) (sym ends) (subst (RunsFrom low e) (sym is) runs)

-- the sounds of a process run in the order of its marks to its end
sounds_run : (p low : ℕ) (pen : Pen) (ms : List Mark) → IsPen pen → Numbered pen ms → InOrder ms
    → From p low ms → Ended p ms → RunsFrom low (process_end p ms) (process_sounds p ms)
sounds_run p low pen [] is_pen numbered order from ended = absurd ended
sounds_run p low pen (m ∷ ms) is_pen numbered order from ended =
    by_kind (seen p m ms) ended
    (λ t f e. sounds_run p t (pen_after m pen) ms (rises_after m pen is_pen).is_pen numbered.2 order.1 f e)
  where
    by_kind : Seen p m ms → ((m.process ≡ p) × (m.msg ≡ None)) ⊎ Ended p ms
        → ((t : ℕ) → From p t ms → Ended p ms → RunsFrom t (process_end p ms) (process_sounds p ms))
        → RunsFrom low (process_end p (m ∷ ms)) (process_sounds p (m ∷ ms))
    by_kind (other not_own is end) (inl here) rest = absurd (not_own here.0)
    by_kind (other not_own is end) (inr later) rest =
        runs_as low (process_end p (m ∷ ms)) (process_end p ms) (process_sounds p (m ∷ ms)) (process_sounds p ms) end is
        (rest low from.1 later)
    by_kind (sound own x some is end) (inl here) rest = some_or_none m x some here.1
    by_kind (sound own x some is end) (inr later) rest =
        runs_as low (process_end p (m ∷ ms)) (process_end p ms) (process_sounds p (m ∷ ms))
        (record { time = mark_time m; msg = x } ∷ process_sounds p ms) end is
        (from.0 own, rest (mark_time m) (sounding_after p m ms own order.0) later)
    by_kind (stop own none is end) _ rest =
        runs_as low (process_end p (m ∷ ms)) m.onset (process_sounds p (m ∷ ms)) [] end
        (is ∙ absent_sounds p ms (none_behind p pen m ms is_pen numbered own none))
        (omega (arith, from.0 own, end_time m none))

-- ---- numbers

-- the event of a mark with a message
abbrev event_of_mark : Mark → Msg → TimedMessage
event_of_mark m x = record { time = mark_time m; process = m.process; index = m.index; msg = x }

-- a mark of another process adds no event
other_events : (p : ℕ) (m : Mark) (ms : List Mark) → (m.process ≡ p → ⊥) → events_in_turn p (m ∷ ms) ≡ events_in_turn p ms
other_events p m ms not_own = rw (ne_eqb m.process p not_own) refl

-- one with a message adds its event
sound_events : (p : ℕ) (m : Mark) (x : Msg) (ms : List Mark) → m.process ≡ p → m.msg ≡ Some x
    → events_in_turn p (m ∷ ms) ≡ event_of_mark m x ∷ events_in_turn p ms
sound_events p m x ms own some = rw (eq-eqb m.process p own, some) refl

-- an end adds none
stop_events : (p : ℕ) (m : Mark) (ms : List Mark) → m.process ≡ p → m.msg ≡ None → events_in_turn p (m ∷ ms) ≡ events_in_turn p ms
stop_events p m ms own none = rw (eq-eqb m.process p own, none) refl

-- a process that no mark is of has no events
absent_events : (q : ℕ) (ms : List Mark) → AllByRecursion (λ y. q < y.process) ms → events_in_turn q ms ≡ []
absent_events q [] all = refl
absent_events q (m ∷ ms) all = other_events q m ms (λ same. omega (arith, same, all.0)) ∙ absent_events q ms all.1

-- behind a message the number is one more
after_message : (m : Mark) (p : Pen) (x : Msg) → m.msg ≡ Some x
    → pen_after m p ≡ record { process = p.process; index = p.index + 1; given = p.given }
after_message m p x some = rw some refl

-- behind an end the pen is that of the next process
after_end_pen : (m : Mark) (p : Pen) → m.msg ≡ None → pen_after m p ≡ record { process = p.given; index = 0; given = p.given + 1 }
after_end_pen m p none = rw none refl

-- the events of the pen's process
own_events : (p : ℕ) (pen : Pen) (ms : List Mark) → pen.process ≡ p → IsPen pen → Numbered pen ms
    → AreInTurn p pen.index (events_in_turn p ms)
own_events p pen [] own is_pen numbered = tt
own_events p pen (m ∷ ms) own is_pen numbered =
    by_kind (seen p m ms) (λ same. own_events p (pen_after m pen) ms same (rises_after m pen is_pen).is_pen numbered.2)
  where
    by_kind : Seen p m ms → ((pen_after m pen).process ≡ p → AreInTurn p (pen_after m pen).index (events_in_turn p ms))
        → AreInTurn p pen.index (events_in_turn p (m ∷ ms))
    by_kind (other not_own _ _) rest = absurd (not_own (numbered.0 ∙ own))
    by_kind (sound same x some _ _) rest =
        subst (AreInTurn p pen.index) (sym (sound_events p m x ms same some)) (
          same,
          numbered.1,
          subst (λ i. AreInTurn p i (events_in_turn p ms)) (ap (λ q. q.index) (after_message m pen x some))
              (rest (ap (λ q. q.process) (after_message m pen x some) ∙ own)),
        )
    by_kind (stop same none _ _) rest =
        subst (AreInTurn p pen.index)
        (sym (stop_events p m ms same none ∙ absent_events p ms (none_behind p pen m ms is_pen numbered same none))) tt

-- no marks of a process that has ended
past_events : (p : ℕ) (pen : Pen) (ms : List Mark) → p < pen.process → IsPen pen → Numbered pen ms → events_in_turn p ms ≡ []
past_events p pen ms later is_pen numbered =
    absent_events p ms (each_weaken (InRange pen.process _) (λ y. p < y.process) (λ y i. omega (arith, i.from, later)) ms
    (numbered_range pen ms is_pen numbered))

-- a pen at a process that comes first, or later
numbers : (p : ℕ) (pen : Pen) (ms : List Mark) → (pen.process < p) ⊎ ((pen.process ≡ p) × (pen.index ≡ 0)) ⊎ (p < pen.process)
    → IsPen pen → Numbered pen ms → AreInTurn p 0 (events_in_turn p ms)
numbers p pen ms (inr (inr later)) is_pen numbered = subst (AreInTurn p 0) (sym (past_events p pen ms later is_pen numbered)) tt
numbers p pen ms (inr (inl here)) is_pen numbered =
    subst (λ i. AreInTurn p i (events_in_turn p ms)) here.1 (own_events p pen ms here.0 is_pen numbered)
numbers p pen [] (inl before) is_pen numbered = tt
numbers p pen (m ∷ ms) (inl before) is_pen numbered =
    subst (AreInTurn p 0) (sym (other_events p m ms (λ own. omega (arith, own, numbered.0, before))))
    (numbers p (pen_after m pen) ms (place_by m.msg refl) (rises_after m pen is_pen).is_pen numbered.2)
  where
    Place : Type 0
    Place = ((pen_after m pen).process < p) ⊎ (((pen_after m pen).process ≡ p) × ((pen_after m pen).index ≡ 0)) ⊎
        (p < (pen_after m pen).process)

    at_given : (pen_after m pen ≡ record { process = pen.given; index = 0; given = pen.given + 1 })
        → (pen.given < p) ⊎ (p ≤ pen.given) → (p < pen.given) ⊎ (pen.given ≤ p) → Place
    at_given is (inl first) _ = inl (omega (arith, ap (λ q. q.process) is, first))
    at_given is (inr _) (inl last) = inr (inr (omega (arith, ap (λ q. q.process) is, last)))
    at_given is (inr low) (inr high) = inr (inl (omega (arith, ap (λ q. q.process) is, low, high), ap (λ q. q.index) is))

    place_by : (o : Option Msg) → m.msg ≡ o → Place
    place_by None none = at_given (after_end_pen m pen none) (cases_lt pen.given p) (cases_lt p pen.given)
    place_by (Some x) some = inl (omega (arith, ap (λ q. q.process) (after_message m pen x some), before))

-- ---- lines

-- a process of a whole score has its events in the order of its marks
pub whole_in_turn : (b : Totals) (births : List (List ℕ)) (ms : List Mark) (end : ℕ) → IsWhole b births ms end → InOrder ms → (p : ℕ)
    → p < length births → process_events p ms ≡ events_in_turn p ms
whole_in_turn b births ms end w order p within =
    in_turn_events 0 p (process_end p ms) ms
    (sounds_run p 0 first_pen ms (omega arith) w.numbered order (from_zero p ms) (ended_in b births ms end w p within))
    (numbers p first_pen ms (at_first p) (omega arith) w.numbered)
  where
    at_first : (p : ℕ) → (first_pen.process < p) ⊎ ((first_pen.process ≡ p) × (first_pen.index ≡ 0)) ⊎ (p < first_pen.process)
    at_first zero = inr (inl (refl, refl))
    at_first (suc p) = inl (omega arith)

-- lines whose events are in that order are those
lines_same : (j : ℕ) (bs : List (List ℕ)) (ms : List Mark)
    → ((p : ℕ) → p < j + length bs → process_events p ms ≡ events_in_turn p ms) → lines_from j bs ms ≡ lines_in_turn j bs ms
lines_same j [] ms each = refl
lines_same j (ps ∷ more) ms each =
    ap₂ (λ es ls. record { events = es; predecessors = ps; end = process_end j ms } ∷ ls) (each j (omega arith))
    (lines_same (j + 1) more ms (λ p within. each p (omega (arith, within))))

-- the lines of a whole score
pub whole_lines_in_turn : (b : Totals) (births : List (List ℕ)) (ms : List Mark) (end : ℕ) → IsWhole b births ms end
    → InOrder ms → lines_from 0 births ms ≡ lines_in_turn 0 births ms
whole_lines_in_turn b births ms end w order =
    lines_same 0 births ms (λ p within. whole_in_turn b births ms end w order p (omega (arith, within)))
