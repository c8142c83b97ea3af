-- What a step makes of a player in its course.
use Rattle.std.proofs.Common.{◌≡◌, refl, sym, ◌∙◌, ap, subst, arith, ℕ, ◌+◌, ◌-◌, ◌^◌, ◌<◌, ◌≤◌, List, [], ◌∷◌, ◌++◌, length, map, true, Option, Some, slice_get}
use Rattle.std.specs.Option.{option_map, option_to_list}
use Rattle.fm_msg.specs.Event.{TimedMessage}
use Rattle.fm_line.specs.Marks.{Mark}
use Rattle.fm_program.specs.declared.op.Op.{Op}
use Rattle.fm_program.specs.Parts.{PlanParts, process_program}
use Rattle.fm_program.specs.Action.{Action, action_of}
use Rattle.fm_program.specs.State.{Standing}
use Rattle.fm_program.specs.Run.{over, silent, sounding, done, step, step_from, step_at, put_out}
use Rattle.fm_program.specs.Run as Run
use Rattle.fm_program.specs.Fit.{op_fits}
use Rattle.fm_player.specs.declared.player.Player.{Player}
use Rattle.fm_player.specs.declared.pending.Pending.{Pending}
use Rattle.fm_player.specs.declared.answers.Stepped.{Stepped}
use Rattle.fm_player.specs.declared.answers.Stepped.TheVariants as stepped
use Rattle.fm_player.specs.Course.{code_of, mark_events, standing, step_event, steps_of, tick_of, to_come}
use Rattle.fm_player.specs.Sounding.{IsPending, NoteStands, event_of, pending_events}
use Rattle.fm_player.specs.Player.{Answers, CanDo, Does, InCourse, IsReady, MakesStep, Stands, StepIs, clock_of, left_by, next_event, rest, steps_left}
use Rattle.fm_player.proofs.RunLemmas.{OpGoes, marks_by, op-goes, step_at_over}
use Rattle.fm_player.proofs.TickLemmas.{Ticks}
use Rattle.fm_player.proofs.CourseLemmas.{Advances, advances, calm-standing, get-action, over-left, process-op, steps-most}

-- ---- the state of a player

-- where a player stands
abbrev pub now_of : PlanParts → Player → Standing
now_of p s = standing p s.process s.made

-- its next step
abbrev pub next_of : PlanParts → Player → Run.Stepped
next_of p s = step (code_of p s.process) (now_of p s)

-- the first mark that is due is the first event that is pending
pub record FirstDue (s : Player) (w : Standing) (e : TimedMessage) (es : List TimedMessage) : Type 0 where
  pub mark : Mark
  pub marks : List Mark
  pub due : w.due ≡ mark ∷ marks
  pub event : event_of w.levels mark ≡ Some e
  pub others : map (event_of w.levels) marks ≡ map (λ x. Some x) es

some_is : (a b : TimedMessage) → Some a ≡ Some b → a ≡ b
some_is a b same = cc

pub first-due : (s : Player) (w : Standing) (e : TimedMessage) (es : List TimedMessage) → NoteStands s.process s.note w
    → pending_events s.process s.note ≡ e ∷ es → FirstDue s w e es
first-due s w e es stands pending = at w.due refl (stands ∙ ap (map (λ x. Some x)) pending)
  where
    nil_cons : (x : Option TimedMessage) (xs : List (Option TimedMessage)) → [] ≡ x ∷ xs → ⊥
    nil_cons x xs same = cc

    heads : (x y : Option TimedMessage) (xs ys : List (Option TimedMessage)) → x ∷ xs ≡ y ∷ ys → x ≡ y
    heads x y xs ys same = cc

    tails : (x y : Option TimedMessage) (xs ys : List (Option TimedMessage)) → x ∷ xs ≡ y ∷ ys → xs ≡ ys
    tails x y xs ys same = cc

    at : (ms : List Mark) → w.due ≡ ms → map (event_of w.levels) ms ≡ Some e ∷ map (λ x. Some x) es → FirstDue s w e es
    at [] due same = absurd (nil_cons _ _ same)
    at (m ∷ ms) due same = record { mark = m; marks = ms; due = due; event = heads _ _ _ _ same; others = tails _ _ _ _ same }

-- where nothing is pending, nothing is due
pub none-due : (s : Player) (w : Standing) → NoteStands s.process s.note w → pending_events s.process s.note ≡ [] → w.due ≡ []
none-due s w stands pending = at w.due (stands ∙ ap (map (λ x. Some x)) pending)
  where
    cons_nil : (x : Option TimedMessage) (xs : List (Option TimedMessage)) → x ∷ xs ≡ [] → ⊥
    cons_nil x xs same = cc

    at : (ms : List Mark) → map (event_of w.levels) ms ≡ [] → ms ≡ []
    at [] same = refl
    at (m ∷ ms) same = absurd (cons_nil _ _ same)

-- ---- a step

not_over : (m : Mark) (t : Standing) → sounding m t ≡ over → ⊥
not_over m t is = cc

silent_over : (t : Standing) → silent t ≡ over → ⊥
silent_over t is = cc

-- a step of the program is a step of the player
pub makes-step : (p : PlanParts) (s new : Player) (result : Stepped) → InCourse p s
    → (next_of p s ≡ over → ⊥) → new.process ≡ s.process → new.made ≡ s.made + 1 → IsReady p new
    → Stands p new (left_by (next_of p s) (now_of p s)) → new.index ≤ s.index + 32 → Answers (next_of p s) result
    → MakesStep p s result new
unfolding steps_left rest clock_of next_event
makes-step p s new result course lives process made ready stands index answers = record {
  process = process;
  course = record {
    fits = course.fits;
    process = omega (arith, process, course.process);
    within = (let same : steps_of p new.process ≡ steps_of p s.process = ap (steps_of p) process in omega (arith, goes-on.left));
    index = omega (arith, index, course.index, made);
    ready = ready;
    stands = subst (Stands p new) (sym now) stands;
  };
  is = at (next_of p s) refl answers;
  clock = subst (λ (w : Standing). tick_of (now_of p s) ≤ tick_of w) (sym now) ticks.later;
}
  where
    goes-on : Advances p s.process s.made (next_of p s)
    goes-on = advances p s.process s.made course.fits course.process course.within lives

    ticks : Ticks (now_of p s) (next_of p s)
    ticks = goes-on.ticks (calm-standing p s.process s.made course.fits course.process course.within)

    now : now_of p new ≡ left_by (next_of p s) (now_of p s)
    now = ap (λ (j : ℕ). standing p j new.made) process ∙ ap (standing p s.process) made ∙ goes-on.next

    fewer : steps_of p s.process - s.made ≡ steps_of p new.process - new.made + 1
    fewer = (let same : steps_of p new.process ≡ steps_of p s.process = ap (steps_of p) process in omega (arith, goes-on.left))

    later : to_come p new.process new.made ≡ to_come p s.process (s.made + 1)
    later = ap (λ (j : ℕ). to_come p j new.made) process ∙ ap (to_come p s.process) made

    at : (x : Run.Stepped) → next_of p s ≡ x → Answers x result → StepIs p s result new
    at Run.over is answer = absurd answer
    at Run.stuck is answer = absurd answer
    at (Run.silent t) is answer =
        subst (λ (r : Stepped). StepIs p s r new) (sym answer) (
          fewer,
          ap step_event is,
          goes-on.events
              ∙ ap (λ (y : Run.Stepped). mark_events (marks_by y) ++ to_come p s.process (s.made + 1)) is ∙ sym later,
        )
    at (Run.sounding m t) is (e, answer, event) =
        subst (λ (r : Stepped). StepIs p s r new) (sym answer) (
          fewer,
          ap step_event is ∙ event,
          goes-on.events
              ∙ ap (λ (y : Run.Stepped). mark_events (marks_by y) ++ to_come p s.process (s.made + 1)) is
              ∙ ap (λ (o : Option TimedMessage). (option_to_list o ++ []) ++ to_come p s.process (s.made + 1)) event
              ∙ ap (λ (es : List TimedMessage). e ∷ es) (sym later),
          (λ plain. ticks.event e (ap step_event is ∙ event) plain),
          ticks.late e (ap step_event is ∙ event),
        )

-- the next event of a note is a step
pub step-due : (p : PlanParts) (s : Player) (note : Pending) (e : TimedMessage) → InCourse p s → IsPending note
    → pending_events s.process s.note ≡ e ∷ pending_events s.process note
    → MakesStep p s (stepped.Event e) (record s { note = note; made = s.made + 1 })
step-due p s note e course pending is = makes-step p s (record s { note = note; made = s.made + 1 }) (stepped.Event e) course
    (λ bad. not_over (put_out (now_of p s).levels first.mark) (record (now_of p s) { due = first.marks }) (sym next ∙ bad)) refl refl
    (record { frames = course.ready.frames; time = course.ready.time; note = pending; few = course.ready.few })
    (subst (λ (x : Run.Stepped). Stands p (record s { note = note; made = s.made + 1 }) (left_by x (now_of p s))) (sym next)
    (record {
      process = course.stands.process;
      operation = course.stands.operation;
      index = course.stands.index;
      draws = record {
        registers = course.stands.draws.registers;
        dice = course.stands.draws.dice;
        frames = course.stands.draws.frames;
      };
      time = record { position = course.stands.time.position; levels = course.stands.time.levels };
      note = first.others;
    }))
    (omega arith)
    (subst (λ (x : Run.Stepped). Answers x (stepped.Event e)) (sym next) (e, refl, first.event))
  where
    first : FirstDue s (now_of p s) e (pending_events s.process note)
    first = first-due s (now_of p s) e (pending_events s.process note) course.stands.note is

    next : next_of p s ≡ sounding (put_out (now_of p s).levels first.mark) (record (now_of p s) { due = first.marks })
    next = ap (step_from (code_of p s.process) (now_of p s)) first.due

-- ---- the step of an operation

-- what the program does next, where nothing is pending
pub next-step : (p : PlanParts) (s : Player) (o : Option Op) → InCourse p s → pending_events s.process s.note ≡ []
    → o ≡ slice_get (process_program p s.process).ops s.operation
    → next_of p s ≡ step_at (option_map (action_of p.stock) o) (now_of p s)
next-step p s o course pending is =
    ap (step_from (code_of p s.process) (now_of p s)) (none-due s (now_of p s) course.stands.note pending)
    ∙ ap (λ (a : Option Action). step_at a (now_of p s))
    (get-action p.stock (process_program p s.process).ops (now_of p s).operation
    ∙ ap (λ (k : ℕ). option_map (action_of p.stock) (slice_get (process_program p s.process).ops k)) (sym course.stands.operation)
    ∙ ap (option_map (action_of p.stock)) (sym is))

-- the end of the program
pub step-ended : (p : PlanParts) (s : Player) → InCourse p s → next_of p s ≡ over → MakesStep p s stepped.Ended s
unfolding steps_left
step-ended p s course ended = record {
  process = refl;
  course = course;
  is = (
    (let gone : s.made ≡ steps_of p s.process =
        (over-left p s.process s.made course.fits course.process course.within ended).0 in omega arith),
    refl,
  );
  clock = omega arith;
}

-- the operation can be done
pub record OpCan (p : PlanParts) (s : Player) (o : Op) : Type 0 where
  pub can : CanDo p s (now_of p s) (action_of p.stock o)
  pub fits : op_fits p.stock (length (process_program p s.process).ops) s.operation o ≡ true
  pub lives : next_of p s ≡ over → ⊥
  pub is : next_of p s ≡ done (action_of p.stock o) (now_of p s)

pub step-can : (p : PlanParts) (s : Player) (o : Op) → InCourse p s → pending_events s.process s.note ≡ []
    → Some o ≡ slice_get (process_program p s.process).ops s.operation → s.operation + 1 < 2 ^ 64 → OpCan p s o
step-can p s o course pending is place = record {
  can = record {
    fits = course.fits;
    ready = course.ready;
    stands = course.stands;
    due = none-due s (now_of p s) course.stands.note pending;
    opened = can.opened;
    within = can.within;
    index = omega (arith, course.index, course.within, steps-most p s.process course.fits course.process);
    operation = place;
  };
  fits = process-op p s.process s.operation o course.fits course.process (sym is);
  lives = lives;
  is = next ∙ can.is;
}
  where
    next : next_of p s ≡ step_at (Some (action_of p.stock o)) (now_of p s)
    next = next-step p s (Some o) course pending is

    lives : next_of p s ≡ over → ⊥
    lives bad = step_at_over (action_of p.stock o) (now_of p s) (sym next ∙ bad)

    can : OpGoes (action_of p.stock o) (now_of p s) (step_at (Some (action_of p.stock o)) (now_of p s))
    can = op-goes (action_of p.stock o) (now_of p s)
        (λ stops. (advances p s.process s.made course.fits course.process course.within lives).stays (next ∙ stops))

-- what the program does is the operation
pub op-next : (p : PlanParts) (s : Player) (o : Op) → InCourse p s → pending_events s.process s.note ≡ []
    → Some o ≡ slice_get (process_program p s.process).ops s.operation → next_of p s ≡ done (action_of p.stock o) (now_of p s)
op-next p s o course pending is = next ∙ can.is
  where
    next : next_of p s ≡ step_at (Some (action_of p.stock o)) (now_of p s)
    next = next-step p s (Some o) course pending is

    lives : next_of p s ≡ over → ⊥
    lives bad = step_at_over (action_of p.stock o) (now_of p s) (sym next ∙ bad)

    can : OpGoes (action_of p.stock o) (now_of p s) (step_at (Some (action_of p.stock o)) (now_of p s))
    can = op-goes (action_of p.stock o) (now_of p s)
        (λ stops. (advances p s.process s.made course.fits course.process course.within lives).stays (next ∙ stops))

-- where an operation is there, the program is not at its end
pub op-lives : (p : PlanParts) (s : Player) (o : Op) → InCourse p s → pending_events s.process s.note ≡ []
    → Some o ≡ slice_get (process_program p s.process).ops s.operation → next_of p s ≡ over → ⊥
op-lives p s o course pending is = λ bad.
    step_at_over (action_of p.stock o) (now_of p s) (sym (next-step p s (Some o) course pending is) ∙ bad)

-- the operation is a step
pub step-done : (p : PlanParts) (s mid : Player) (o : Op) (result : Stepped) → InCourse p s → OpCan p s o
    → Does p s mid (now_of p s) (action_of p.stock o) → Answers (done (action_of p.stock o) (now_of p s)) result
    → MakesStep p s result (record mid { made = mid.made + 1 })
step-done p s mid o result course can does answers =
    makes-step p s (record mid { made = mid.made + 1 }) result course can.lives does.process (ap (λ n. n + 1) does.made)
    (record { frames = does.ready.frames; time = does.ready.time; note = does.ready.note; few = does.ready.few })
    (subst (λ (x : Run.Stepped). Stands p (record mid { made = mid.made + 1 }) (left_by x (now_of p s))) (sym can.is)
    (record {
      process = does.stands.process;
      operation = does.stands.operation;
      index = does.stands.index;
      draws = does.stands.draws;
      time = does.stands.time;
      note = does.stands.note;
    }))
    does.index
    (subst (λ (x : Run.Stepped). Answers x result) (sym can.is) answers)
