-- The line of a process comes out of what its player gave and has to give, and that is in time.
use Rattle.std.proofs.Common.{◌≡◌, refl, sym, ◌∙◌, ap, subst, arith, ℕ, zero, suc, ◌+◌, ◌-◌, ◌<◌, ◌≤◌, List, [], ◌∷◌, ◌++◌, length, map, All, Option, Some, None, append_assoc, slice_index_or}
use Rattle.std.specs.Option.{option_to_list}
use Rattle.std.proofs.lemmas.List.Elements.{All-append, All-cons, All-nil}
use Rattle.fm_msg.specs.Event.{TimedMessage}
use Rattle.fm_line.specs.Line.{line}
use Rattle.fm_line.specs.Marks.{Mark, mark_event}
use Rattle.fm_line.specs.Sounds.{come_out, numbered}
use Rattle.fm_program.specs.declared.plan.TheConstants.{MAX_STEPS}
use Rattle.fm_program.specs.Parts.{PlanParts}
use Rattle.fm_program.specs.State.{Standing}
use Rattle.fm_program.specs.Run.{Stepped, over, stuck, silent, sounding, step, Run, program_run}
use Rattle.fm_program.specs.Process.{plan_lines, spot_reached}
use Rattle.fm_program.specs.Fit.{PartsFit}
use Rattle.fm_player.specs.declared.player.Player.{Player}
use Rattle.fm_player.specs.Ahead.{event_sound}
use Rattle.fm_player.specs.Course.{begun, code_of, end_place, given, mark_events, passed, place_of, standing, steps_of, tick_of, to_come}
use Rattle.fm_player.specs.Player.{InCourse, clock_of, place_reached, rest, steps_left}
use Rattle.fm_player.proofs.RunLemmas.{follows, marks_by}
use Rattle.fm_player.proofs.TickLemmas.{Ticks}
use Rattle.fm_player.proofs.CourseLemmas.{advances, calm-standing, left-over, over-left, process-as, process-ends}
use Rattle.fm_player.proofs.StartLemmas.{last-standing}
use Rattle.fm_player.proofs.TurnLemmas.{last-tick, line-events}

-- the events of marks in turn
mark_events-append : (ms ns : List Mark) → mark_events (ms ++ ns) ≡ mark_events ms ++ mark_events ns
mark_events-append [] ns = refl
mark_events-append (m ∷ ms) ns =
    ap (λ (es : List TimedMessage). option_to_list (mark_event m) ++ es) (mark_events-append ms ns)
    ∙ sym (append_assoc (option_to_list (mark_event m)) (mark_events ms) (mark_events ns))

-- the line is what comes out of the sounds of what was given and of what is to come
pub whole-line : (p : PlanParts) (s : Player) → InCourse p s
    → (line (plan_lines p) s.process).events
    ≡ numbered s.process 0 (come_out (map event_sound (given p s.process s.made ++ rest p s)) (line (plan_lines p) s.process).end)
unfolding given rest to_come
whole-line p s course =
    let so = follows (code_of p s.process) MAX_STEPS (steps_of p s.process) s.made (begun p s.process)
    (process-ends p s.process course.fits course.process) course.within in
    line-events p s.process course.fits course.process
    ∙ ap (λ (es : List TimedMessage). numbered s.process 0 (come_out (map event_sound es) (line (plan_lines p) s.process).end))
    (ap (λ (r : Run). mark_events r.marks) (process-as p s.process course.process).run
    ∙ ap mark_events so.marks
    ∙ mark_events-append (passed p s.process s.made).marks
    (program_run (code_of p s.process) (MAX_STEPS - s.made) (standing p s.process s.made)).marks)

-- ---- times to come

-- an event of a step is no earlier than its tick
step-late : (w : Standing) (x : Stepped) → Ticks w x → All (λ e. tick_of w ≤ e.time) (mark_events (marks_by x))
step-late w over ticks = All-nil (λ e. tick_of w ≤ e.time)
step-late w stuck ticks = All-nil (λ e. tick_of w ≤ e.time)
step-late w (silent t) ticks = All-nil (λ e. tick_of w ≤ e.time)
step-late w (sounding m t) ticks = at (mark_event m) refl
  where
    at : (o : Option TimedMessage) → mark_event m ≡ o → All (λ e. tick_of w ≤ e.time) (option_to_list o ++ [])
    at None none = All-nil (λ e. tick_of w ≤ e.time)
    at (Some e) some = All-cons (λ e'. tick_of w ≤ e'.time) e [] (ticks.late e some)
        (All-nil (λ e'. tick_of w ≤ e'.time))

All-from : (x y : ℕ) (es : List TimedMessage) → x ≤ y → All (λ e. y ≤ e.time) es → All (λ e. x ≤ e.time) es
All-from x y es below all = λ k d inside. (let one : y ≤ (slice_index_or es k d).time = all k d inside in omega arith)

-- what is to come is no earlier than the tick, and so is the end
pub record Late (p : PlanParts) (j n : ℕ) : Type 0 where
  pub events : All (λ e. tick_of (standing p j n) ≤ e.time) (to_come p j n)
  pub end : tick_of (standing p j n) ≤ tick_of (standing p j (steps_of p j))

pub late : (p : PlanParts) (j d n : ℕ) → PartsFit p → j < length p.programs → n + d ≡ steps_of p j → Late p j n
late p j zero n fits below is =
    let here : n ≡ steps_of p j = omega arith in
    let none = (over-left p j n fits below (omega arith) (left-over p j n fits below (omega arith) (omega arith))).1 in
    record {
      events = subst (All (λ e. tick_of (standing p j n) ≤ e.time)) (sym none) (All-nil (λ e. tick_of (standing p j n) ≤ e.time));
      end = (let same : tick_of (standing p j n) ≡ tick_of (standing p j (steps_of p j)) =
          ap (λ (k : ℕ). tick_of (standing p j k)) here in omega arith);
    }
late p j (suc d) n fits below is =
    let within : n ≤ steps_of p j = omega arith in
    let lives : step (code_of p j) (standing p j n) ≡ over → ⊥ = λ bad.
    (let gone : n ≡ steps_of p j = (over-left p j n fits below within bad).0 in omega arith) in
    let on = advances p j n fits below within lives in
    let ticks = on.ticks (calm-standing p j n fits below within) in
    let more = late p j d (n + 1) fits below (omega arith) in
    let later : tick_of (standing p j n) ≤ tick_of (standing p j (n + 1)) =
    subst (λ (w : Standing). tick_of (standing p j n) ≤ tick_of w) (sym on.next) ticks.later in
    record {
      events = subst (All (λ e. tick_of (standing p j n) ≤ e.time)) (sym on.events)
          (All-append (λ e. tick_of (standing p j n) ≤ e.time) _ _ (step-late (standing p j n) _ ticks)
          (All-from (tick_of (standing p j n)) (tick_of (standing p j (n + 1))) (to_come p j (n + 1)) later more.events));
      end = omega (arith, later, more.end);
    }

pub late-now : (p : PlanParts) (s : Player) → InCourse p s → Late p s.process s.made
late-now p s course =
    late p s.process (steps_of p s.process - s.made) s.made course.fits course.process
    (let is : s.made + (steps_of p s.process - s.made) ≡ steps_of p s.process = omega (arith, course.within) in is)

pub rest-late : (p : PlanParts) (s : Player) → InCourse p s → All (λ e. clock_of p s ≤ e.time) (rest p s)
unfolding clock_of rest
rest-late p s course = (late-now p s course).events

pub end-late : (p : PlanParts) (s : Player) → InCourse p s → clock_of p s ≤ (line (plan_lines p) s.process).end
unfolding clock_of
end-late p s course = omega (arith, (late-now p s course).end, last-tick p s.process course.fits course.process)

-- at the end all was given, and clock and place are those of the process's end
pub at-end : (p : PlanParts) (s : Player) → InCourse p s → steps_left p s ≡ 0
    → (rest p s ≡ []) × (clock_of p s ≡ (line (plan_lines p) s.process).end) × (place_reached p s ≡ end_place p s.process)
unfolding rest clock_of place_reached end_place steps_left
at-end p s course none =
    let here : s.made ≡ steps_of p s.process = omega (arith, course.within) in (
      (over-left p s.process s.made course.fits course.process course.within
          (left-over p s.process s.made course.fits course.process course.within none)).1,
      ap (λ (k : ℕ). tick_of (standing p s.process k)) here ∙ last-tick p s.process course.fits course.process,
      ap (λ (k : ℕ). place_of (spot_reached (standing p s.process k))) here
          ∙ ap (λ (w : Standing). place_of (spot_reached w)) (sym (last-standing p s.process course.fits course.process)),
    )
