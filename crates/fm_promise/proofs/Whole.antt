-- The lines of everything that was played are valid lines.
use Rattle.std.proofs.Common.{◌≡◌, ℕ, zero, suc, ◌+◌, ◌-◌, ◌<◌, ◌≤◌, ◌⊎◌, inl, inr, List, [], ◌∷◌, map, length, refl, ap, sym, ◌∙◌, subst, arith}
use Rattle.std.specs.Prelude.{Option, Some, None, IsTrue, slice_index_or, All}
use Rattle.std.specs.List.{AllByRecursion}
use Rattle.std.proofs.lemmas.Bool.{cases_lt}
use Rattle.fm_msg.specs.declared.msg.Msg.{Msg}
use Rattle.fm_msg.specs.Message.{is_in_range}
use Rattle.fm_line.specs.declared.line.Line.{Line}
use Rattle.fm_line.specs.Line.{no_line, line, event, upper, greatest, start, total, ValidLines}
use Rattle.fm_line.specs.declared.limits.TheConstants.{MAX_PROCESSES, MAX_EVENTS, LAST_TICK}
use Rattle.fm_line.specs.Marks.{Mark, process_events, process_sounds, process_end, process_line, lines_from, lines_of}
use Rattle.fm_line.specs.Sounds.{come_out}
use Rattle.fm_meaning.specs.Bounds.{Totals}
use Rattle.fm_promise.proofs.Lists.{each_weaken, list_at}
use Rattle.fm_promise.proofs.Pens.{Pen, pen_after, pen_through, Numbered, IsPen, rises_after}
use Rattle.fm_promise.proofs.Ordered.{Between}
use Rattle.fm_promise.proofs.Births.{Has, has_each, Climbs, IsBefore, IsBirth, Paired}
use Rattle.fm_promise.proofs.Good.{IsHeard, sounds}
use Rattle.fm_promise.proofs.OneProcess.{Ended, From, To, end_from, to_end, process_runs, runs_from, runs_rise, waits_for, Seen, other, sound, stop, seen}
use Rattle.fm_promise.proofs.Numbering.{numbered_from, events_heard, sum_same, events_counted}

-- the pen of a score's first mark
abbrev pub first_pen : Pen
first_pen = record { process = 0; index = 0; given = 1 }

-- all marks of a score whose processes have these predecessors and that ends here
pub record IsWhole (b : Totals) (births : List (List ℕ)) (ms : List Mark) (end : ℕ) : Type 0 where
  pub between : AllByRecursion (Between 0 end) ms
  pub numbered : Numbered first_pen ms
  pub through : (pen_through first_pen ms).process ≡ length births
  pub paired : Paired births ms
  pub sounding : sounds ms ≤ b.events
  pub heard : AllByRecursion (λ x. IsHeard x.msg) ms
  pub root : list_at births 0 ≡ []
  pub born : (j : ℕ) → 1 ≤ j → j < length births → IsBirth 0 1 j (list_at births j)
  pub short : end ≤ b.length
  pub count : length births ≡ 1 + b.processes
  pub last : ℕ
  pub is_last : last + 1 ≡ length births
  pub ends_last : end ≤ process_end last ms

-- ---- where a line is

-- among the lines from a process on
lines_at : (births : List (List ℕ)) (j p : ℕ) (ms : List Mark) → p < length births
    → slice_index_or (lines_from j births ms) p no_line ≡ process_line (j + p) (list_at births p) ms
lines_at [] j p ms within = absurd (omega (arith, within))
lines_at (ps ∷ births) j zero ms within = ap (λ q. process_line q ps ms) (omega arith)
lines_at (ps ∷ births) j (suc p) ms within =
    lines_at births (j + 1) p ms (omega (arith, within)) ∙ ap (λ q. process_line q (list_at births p) ms) (omega arith)

-- behind them
lines_past : (births : List (List ℕ)) (j p : ℕ) (ms : List Mark) → length births ≤ p
    → slice_index_or (lines_from j births ms) p no_line ≡ no_line
lines_past [] j p ms past = refl
lines_past (ps ∷ births) j zero ms past = absurd (omega (arith, past))
lines_past (ps ∷ births) j (suc p) ms past = lines_past births (j + 1) p ms (omega (arith, past))

-- as many as processes
lines_count : (births : List (List ℕ)) (j : ℕ) (ms : List Mark) → length (lines_from j births ms) ≡ length births
lines_count [] j ms = refl
lines_count (ps ∷ births) j ms = ap suc (lines_count births (j + 1) ms)

-- the line of a process
pub line_at : (births : List (List ℕ)) (p : ℕ) (ms : List Mark) → p < length births
    → line (lines_of births ms) p ≡ process_line p (list_at births p) ms
line_at births p ms within = lines_at births 0 p ms within ∙ ap (λ q. process_line q (list_at births p) ms) (omega arith)

-- ---- ends

-- each process that got a number by the end has ended
all_ended : (p : ℕ) (pen : Pen) (ms : List Mark) → IsPen pen → Numbered pen ms → (pen.process ≡ p) ⊎ (pen.given ≤ p)
    → p < (pen_through pen ms).process → Ended p ms
all_ended p pen [] is_pen numbered (inl here) before = omega (arith, here, before)
all_ended p pen [] is_pen numbered (inr later) before = omega (arith, later, before, is_pen)
all_ended p pen (m ∷ ms) is_pen numbered place before =
    by_msg m.msg refl place (λ next. all_ended p (pen_after m pen) ms (rises_after m pen is_pen).is_pen numbered.2 next before)
  where
    Place : Type 0
    Place = ((pen_after m pen).process ≡ p) ⊎ ((pen_after m pen).given ≤ p)

    same_pen : (x : Msg) → m.msg ≡ Some x → pen_after m pen ≡ record { process = pen.process; index = pen.index + 1; given = pen.given }
    same_pen x some = rw some refl

    at_given : (pen_after m pen ≡ record { process = pen.given; index = 0; given = pen.given + 1 }) → (pen.given < p) ⊎ (p ≤ pen.given)
        → pen.given ≤ p → Place
    at_given is (inl above) low = inr (omega (arith, ap (λ q. q.given) is, above))
    at_given is (inr same) low = inl (omega (arith, ap (λ q. q.process) is, same, low))

    by_msg : (o : Option Msg) → m.msg ≡ o → (pen.process ≡ p) ⊎ (pen.given ≤ p) → (Place → Ended p ms) → Ended p (m ∷ ms)
    by_msg None none (inl here) rest = inl (numbered.0 ∙ here, none)
    by_msg None none (inr later) rest = inr (rest (at_given (rw none refl) (cases_lt pen.given p) later))
    by_msg (Some x) some (inl here) rest = inr (rest (inl (ap (λ q. q.process) (same_pen x some) ∙ here)))
    by_msg (Some x) some (inr later) rest = inr (rest (inr (omega (arith, later, ap (λ q. q.given) (same_pen x some)))))

-- no process ends after the last position
end_to : (p t : ℕ) (ms : List Mark) → AllByRecursion (λ y. y.onset ≤ t) ms → process_end p ms ≤ t
end_to p t [] all = omega arith
end_to p t (m ∷ ms) all = by_kind (seen p m ms) (end_to p t ms all.1)
  where
    by_kind : Seen p m ms → process_end p ms ≤ t → process_end p (m ∷ ms) ≤ t
    by_kind (other _ _ is) rest = omega (arith, is, rest)
    by_kind (sound _ x _ _ is) rest = omega (arith, is, rest)
    by_kind (stop _ _ _ is) rest = omega (arith, is, all.0)

-- ---- predecessors

-- what holds of each holds at each index
at_indices : (P : ℕ → Type 0) (ps : List ℕ) → AllByRecursion P ps → All P ps
at_indices P [] all k d within = absurd (omega (arith, within))
at_indices P (p ∷ ps) all zero d within = all.0
at_indices P (p ∷ ps) all (suc k) d within = at_indices P ps all.1 k d (omega (arith, within))

-- numbers that climb are apart
climbs_apart : (ps : List ℕ) → Climbs ps → (i j : ℕ) → i < j → j < length ps → slice_index_or ps i 0 < slice_index_or ps j 0
climbs_apart [] climbs i j order within = absurd (omega (arith, within))
climbs_apart (p ∷ ps) climbs i zero order within = absurd (omega (arith, order))
climbs_apart (p ∷ ps) climbs zero (suc j) order within = at_indices (λ q. p < q) ps climbs.0 j 0 (omega (arith, within))
climbs_apart (p ∷ ps) climbs (suc i) (suc j) order within = climbs_apart ps climbs.1 i j (omega (arith, order)) (omega (arith, within))

-- the greatest of numbers none of which is above t
greatest_to : (f : ℕ → ℕ) (t : ℕ) (ps : List ℕ) → ((q : ℕ) → Has q ps → f q ≤ t) → greatest (map f ps) ≤ t
greatest_to f t [] each = omega arith
greatest_to f t (p ∷ ps) each = omega (arith, each p (inl refl), greatest_to f t ps (λ q has. each q (inr has)))

-- ---- one line

-- the predecessors of a process: none of the first, some of each later one
births_of : (b : Totals) (births : List (List ℕ)) (ms : List Mark) (end : ℕ) → IsWhole b births ms end → (p : ℕ) → p < length births
    → AllByRecursion (λ q. q < p) (list_at births p) × Climbs (list_at births p)
births_of b births ms end w zero within = subst (λ ps. AllByRecursion (λ q. q < 0) ps × Climbs ps) (sym w.root) (tt, tt)
births_of b births ms end w (suc p) within =
    let birth = w.born (suc p) (omega arith) within in
    (each_weaken (IsBefore 0 1 (suc p)) (λ q. q < suc p) (λ q i. i.smaller) (list_at births (suc p)) birth.each, birth.once)

-- a process of a whole score ends
pub ended_in : (b : Totals) (births : List (List ℕ)) (ms : List Mark) (end : ℕ) → IsWhole b births ms end → (p : ℕ) → p < length births
    → Ended p ms
ended_in b births ms end w zero within =
    all_ended 0 first_pen ms (omega arith) w.numbered (inl refl) (omega (arith, w.through, within))
ended_in b births ms end w (suc p) within =
    all_ended (suc p) first_pen ms (omega arith) w.numbered (inr (omega arith)) (omega (arith, w.through, within))

-- its marks sound until its end
sounds_to : (b : Totals) (births : List (List ℕ)) (ms : List Mark) (end : ℕ) → IsWhole b births ms end → (p : ℕ) → p < length births
    → To p (process_end p ms) ms
sounds_to b births ms end w p within =
    to_end births p first_pen ms (omega arith) w.numbered w.paired (ended_in b births ms end w p within)

-- no mark is before 0
pub from_zero : (p : ℕ) (ms : List Mark) → From p 0 ms
from_zero p [] = tt
from_zero p (m ∷ ms) = (λ _. omega arith, from_zero p ms)

-- the line of a process rises
line_rises : (b : Totals) (births : List (List ℕ)) (ms : List Mark) (end : ℕ) → IsWhole b births ms end → (p : ℕ) → p < length births
    → (i j : ℕ) → i ≤ j → upper (process_line p (list_at births p) ms) i ≤ upper (process_line p (list_at births p) ms) j
line_rises b births ms end w p within =
    runs_rise 0 (process_end p ms) p 0 (come_out (process_sounds p ms) (process_end p ms))
    (process_runs births p 0 ms w.paired (from_zero p ms) (sounds_to b births ms end w p within) (omega arith))

-- it starts no earlier than its predecessors end
line_waits : (b : Totals) (births : List (List ℕ)) (ms : List Mark) (end : ℕ) → IsWhole b births ms end → (p q : ℕ) → p < length births
    → Has q (list_at births p) → (k : ℕ) → process_end q ms ≤ upper (process_line p (list_at births p) ms) k
line_waits b births ms end w p q within has k =
    let smaller : q < p = has_each (λ r. r < p) q (list_at births p) (births_of b births ms end w p within).0 has in
    let from : From p (process_end q ms) ms = waits_for births q p first_pen ms (omega arith) w.numbered w.paired has smaller in
    runs_from (process_end q ms) (process_end p ms) p 0 (come_out (process_sounds p ms) (process_end p ms))
    (process_runs births p (process_end q ms) ms w.paired from (sounds_to b births ms end w p within)
    (end_from p (process_end q ms) ms from (ended_in b births ms end w p within))) k

-- ---- all lines

-- by whether there is a process p
by_process : (births : List (List ℕ)) (ms : List Mark) (P : Line → Type 0) (p : ℕ)
    → (p < length births → P (process_line p (list_at births p) ms)) → P no_line → P (line (lines_of births ms) p)
by_process births ms P p there past = by_place (cases_lt p (length births))
  where
    by_place : (p < length births) ⊎ (length births ≤ p) → P (line (lines_of births ms) p)
    by_place (inl within) = subst P (sym (line_at births p ms within)) (there within)
    by_place (inr behind) = subst P (sym (lines_past births 0 p ms behind)) past

-- a line of no process
nothing_below : (p : ℕ) → All (λ q. q < p) []
nothing_below p k d within = absurd (omega (arith, within))

-- where a line starts
starts_by : (b : Totals) (births : List (List ℕ)) (ms : List Mark) (end : ℕ) → IsWhole b births ms end → (p k : ℕ)
    → start (lines_of births ms) p ≤ upper (line (lines_of births ms) p) k
starts_by b births ms end w p k =
    by_process births ms (λ l. greatest (map (λ q. (line (lines_of births ms) q).end) l.predecessors) ≤ upper l k) p
    (λ within. greatest_to (λ q. (line (lines_of births ms) q).end) (upper (process_line p (list_at births p) ms) k) (list_at births p)
    (λ q has. omega (arith, line_waits b births ms end w p q within has k, end_at q within has)))
    (omega arith)
  where
    end_at : (q : ℕ) → p < length births → Has q (list_at births p) → (line (lines_of births ms) q).end ≡ process_end q ms
    end_at q within has =
        ap (λ l. l.end) (line_at births q ms
        (omega (arith, within, has_each (λ r. r < p) q (list_at births p) (births_of b births ms end w p within).0 has)))

-- no line ends later than all
pub whole_ends : (b : Totals) (births : List (List ℕ)) (ms : List Mark) (end : ℕ) → IsWhole b births ms end → (p : ℕ)
    → (line (lines_of births ms) p).end ≤ end
whole_ends b births ms end w p =
    by_process births ms (λ l. l.end ≤ end) p
    (λ _. end_to p end ms (each_weaken (Between 0 end) (λ y. y.onset ≤ end) (λ y i. i.to) ms w.between)) (omega arith)

-- as many lines as processes
pub whole_count : (births : List (List ℕ)) (ms : List Mark) → length (lines_of births ms) ≡ length births
whole_count births ms = lines_count births 0 ms

-- no more events than the totals say
pub whole_total : (b : Totals) (births : List (List ℕ)) (ms : List Mark) (end : ℕ) → IsWhole b births ms end
    → total (lines_of births ms) ≤ b.events
whole_total b births ms end w =
    omega (
      arith,
      w.sounding,
      events_counted (length (lines_of births ms)) ms,
      sum_same (length (lines_of births ms)) (λ p. length (line (lines_of births ms) p).events) (λ p. length (process_events p ms))
          (λ p within. omega (arith, ap (λ l. length l.events) (line_at births p ms (omega (arith, lines_count births 0 ms, within))))),
    )

-- each message is in range
pub whole_heard : (b : Totals) (births : List (List ℕ)) (ms : List Mark) (end : ℕ) → IsWhole b births ms end → (p k : ℕ)
    → k < length (line (lines_of births ms) p).events → IsTrue (is_in_range (event (line (lines_of births ms) p) k).msg)
whole_heard b births ms end w p =
    by_process births ms (λ l. (k : ℕ) → k < length l.events → IsTrue (is_in_range (event l k).msg)) p
    (λ _ k inside. events_heard p ms w.heard k (process_end p ms) inside)
    (λ k inside. absurd (omega (arith, inside)))

-- where the last line ends
last_line : (b : Totals) (births : List (List ℕ)) (ms : List Mark) (end : ℕ) (w : IsWhole b births ms end)
    → (line (lines_of births ms) (length (lines_of births ms) - 1)).end ≡ process_end w.last ms
last_line b births ms end w =
    ap (λ k. (line (lines_of births ms) k).end) (omega (arith, lines_count births 0 ms, w.is_last))
    ∙ ap (λ l. l.end) (line_at births w.last ms (omega (arith, w.is_last)))

-- the last line ends with the score
pub whole_last : (b : Totals) (births : List (List ℕ)) (ms : List Mark) (end : ℕ) → IsWhole b births ms end
    → (line (lines_of births ms) (length (lines_of births ms) - 1)).end ≡ end
whole_last b births ms end w =
    omega (
      arith,
      whole_ends b births ms end w (length (lines_of births ms) - 1),
      w.ends_last,
      last_line b births ms end w,
    )

-- the lines of a whole score that is not too great are valid
pub whole_valid : (b : Totals) (births : List (List ℕ)) (ms : List Mark) (end : ℕ) → IsWhole b births ms end
    → length births ≤ MAX_PROCESSES → end ≤ LAST_TICK → b.events ≤ MAX_EVENTS → ValidLines (lines_of births ms)
whole_valid b births ms end w few soon many = record {
  some = omega (arith, lines_count births 0 ms, w.count);
  few = omega (arith, lines_count births 0 ms, few);
  root = ap (λ l. l.predecessors) (line_at births 0 ms (omega (arith, w.count))) ∙ w.root;
  waits = λ p later within.
      let inside : p < length births = omega (arith, lines_count births 0 ms, within) in
      omega (arith, (w.born p later inside).some, ap (λ l. length l.predecessors) (line_at births p ms inside));
  below = λ p. by_process births ms (λ l. All (λ q. q < p) l.predecessors) p
      (λ within. at_indices (λ q. q < p) (list_at births p) (births_of b births ms end w p within).0) (nothing_below p);
  once = λ p. by_process births ms
      (λ l. (i j : ℕ) → i < j → j < length l.predecessors → slice_index_or l.predecessors i 0 ≡ slice_index_or l.predecessors j 0 → ⊥) p
      (λ within i j order inside same.
      omega (arith, same, climbs_apart (list_at births p) (births_of b births ms end w p within).1 i j order inside))
      (λ i j order inside same. omega (arith, inside));
  begun = starts_by b births ms end w;
  rising = λ p. by_process births ms (λ l. (i j : ℕ) → i ≤ j → upper l i ≤ upper l j) p
      (line_rises b births ms end w p) (λ i j order. omega arith);
  numbered = λ p. by_process births ms (λ l. (k : ℕ) → k < length l.events → ((event l k).process ≡ p) × ((event l k).index ≡ k)) p
      (λ within k inside.
      let e = numbered_from p 0 (come_out (process_sounds p ms) (process_end p ms)) k (process_end p ms) inside in
      (e.process, omega (arith, e.index)))
      (λ k inside. absurd (omega (arith, inside)));
  ends = λ p. (
    omega (arith, whole_ends b births ms end w p, soon),
    omega (arith, whole_ends b births ms end w p, w.ends_last, last_line b births ms end w),
  );
  events = omega (arith, whole_total b births ms end w, many);
}
