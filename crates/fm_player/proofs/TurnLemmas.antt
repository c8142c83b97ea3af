-- The sounds of a process begin in turn, and its line is what comes out of them.
use Rattle.std.proofs.Common.{◌≡◌, refl, sym, ◌∙◌, ap, subst, arith, ℕ, zero, suc, ◌+◌, ◌<◌, ◌≤◌, List, [], ◌∷◌, ◌++◌, length, map, Bool, true, false, if◌then◌else◌, Option, Some, None, append-nil}
use Rattle.std.specs.Option.{option_to_list}
use Rattle.fm_msg.specs.Event.{TimedMessage}
use Rattle.fm_line.specs.declared.line.Line.{Line}
use Rattle.fm_line.specs.Line.{line}
use Rattle.fm_line.specs.Marks.{Mark, mark_event, process_end}
use Rattle.fm_line.specs.Runs.{BeginsFrom}
use Rattle.fm_line.specs.Sounds.{Sound, come_out, is_note_off, numbered}
use Rattle.fm_line.proofs.OutInTurn.{events-sounds}
use Rattle.fm_program.specs.Parts.{PlanParts}
use Rattle.fm_program.specs.State.{Standing}
use Rattle.fm_program.specs.Run.{Stepped, over, stuck, silent, sounding, step, step_from, put_out}
use Rattle.fm_program.specs.Process.{ending_mark, plan_lines, plan_played, played_marks, process_run}
use Rattle.fm_program.specs.Fit.{PartsFit}
use Rattle.fm_player.specs.Ahead.{event_sound}
use Rattle.fm_player.specs.Course.{code_of, mark_events, standing, steps_of, tick_from, tick_of, to_come}
use Rattle.fm_player.specs.Player.{left_by}
use Rattle.fm_player.proofs.RunLemmas.{marks_by, sounding_over}
use Rattle.fm_player.proofs.TickLemmas.{Ticks}
use Rattle.fm_player.proofs.CourseLemmas.{advances, calm-standing, left-over, over-left}
use Rattle.fm_player.proofs.StartLemmas.{last-standing}
use Rattle.fm_player.proofs.LineLemmas.{line-end, line-of, line-turn}

-- ---- the end of a process

-- nothing is due at the end
last-due : (p : PlanParts) (j : ℕ) → step (code_of p j) (standing p j (steps_of p j)) ≡ over → (standing p j (steps_of p j)).due ≡ []
last-due p j ended = at (standing p j (steps_of p j)).due refl
  where
    at : (ms : List Mark) → (standing p j (steps_of p j)).due ≡ ms → (standing p j (steps_of p j)).due ≡ []
    at [] due = due
    at (m ∷ ms) due =
        absurd (sounding_over (put_out (standing p j (steps_of p j)).levels m) (record (standing p j (steps_of p j)) { due = ms })
        (sym (ap (step_from (code_of p j) (standing p j (steps_of p j))) due) ∙ ended))

pub last-tick : (p : PlanParts) (j : ℕ) → PartsFit p → j < length p.programs
    → tick_of (standing p j (steps_of p j)) ≡ (line (plan_lines p) j).end
last-tick p j fits below =
    ap (tick_from (standing p j (steps_of p j)))
    (last-due p j (left-over p j (steps_of p j) fits below (omega arith) (omega arith)))
    ∙ ap (λ (w : Standing). (ending_mark w).onset) (sym (last-standing p j fits below)) ∙ sym (line-end p j fits below)

-- ---- sounds that begin in turn

-- sounds that begin in turn from a tick begin in turn from an earlier one
begins-earlier : (low high e : ℕ) (xs : List Sound) → low ≤ high → BeginsFrom high e xs → BeginsFrom low e xs
begins-earlier low high e [] below begins = omega arith
begins-earlier low high e (x ∷ xs) below begins =
    ((let first = begins.0 in omega arith), at (is_note_off x.msg) (begins-earlier low high e xs below) begins.1)
  where
    at : (b : Bool) → (BeginsFrom high e xs → BeginsFrom low e xs) → BeginsFrom (if b then high else x.time) e xs
        → BeginsFrom (if b then low else x.time) e xs
    at true earlier more = earlier more
    at false earlier more = more

-- the sound of a step before those that follow it
begins-step : (end : ℕ) (w : Standing) (x : Stepped) (es : List TimedMessage) → Ticks w x
    → BeginsFrom (tick_of (left_by x w)) end (map event_sound es)
    → BeginsFrom (tick_of w) end (map event_sound (mark_events (marks_by x) ++ es))
begins-step end w over es ticks later = later
begins-step end w stuck es ticks later = later
begins-step end w (silent t) es ticks later = begins-earlier (tick_of w) (tick_of t) end (map event_sound es) ticks.later later
begins-step end w (sounding m t) es ticks later =
    subst (λ (xs : List TimedMessage). BeginsFrom (tick_of w) end (map event_sound (xs ++ es)))
    (sym (append-nil (option_to_list (mark_event m)))) (at (mark_event m) refl)
  where
    before : BeginsFrom (tick_of w) end (map event_sound es)
    before = begins-earlier (tick_of w) (tick_of t) end (map event_sound es) ticks.later later

    by_off : (e : TimedMessage) → mark_event m ≡ Some e → (b : Bool) → is_note_off e.msg ≡ b
        → BeginsFrom (if b then tick_of w else e.time) end (map event_sound es)
    by_off e is true off = before
    by_off e is false plain = subst (λ (n : ℕ). BeginsFrom n end (map event_sound es)) (ticks.event e is plain) before

    at : (o : Option TimedMessage) → mark_event m ≡ o → BeginsFrom (tick_of w) end (map event_sound (option_to_list o ++ es))
    at None none = before
    at (Some e) is = (ticks.late e is, by_off e is (is_note_off e.msg) refl)

-- what is to come after n steps begins in turn, to the end of the line
pub begins-to_come : (p : PlanParts) (j d n : ℕ) → PartsFit p → j < length p.programs → n + d ≡ steps_of p j
    → BeginsFrom (tick_of (standing p j n)) (line (plan_lines p) j).end (map event_sound (to_come p j n))
begins-to_come p j zero n fits below is =
    let end = (line (plan_lines p) j).end in
    let here : n ≡ steps_of p j = omega arith in
    let none = (over-left p j n fits below (omega arith) (left-over p j n fits below (omega arith) (omega arith))).1 in
    let last : tick_of (standing p j n) ≡ end = ap (λ (k : ℕ). tick_of (standing p j k)) here ∙ last-tick p j fits below in
    let most : tick_of (standing p j n) ≤ end = omega arith in
    subst (λ (es : List TimedMessage). BeginsFrom (tick_of (standing p j n)) end (map event_sound es)) (sym none) most
begins-to_come p j (suc d) n fits below is =
    let end = (line (plan_lines p) j).end in
    let w = standing p j n in
    let x = step (code_of p j) w in
    let within : n ≤ steps_of p j = omega arith in
    let lives : x ≡ over → ⊥ = λ bad. (let gone : n ≡ steps_of p j = (over-left p j n fits below within bad).0 in omega arith) in
    let on = advances p j n fits below within lives in
    let ticks = on.ticks (calm-standing p j n fits below within) in
    let later = begins-to_come p j d (n + 1) fits below (omega arith) in
    subst (λ (es : List TimedMessage). BeginsFrom (tick_of w) end (map event_sound es)) (sym on.events)
    (begins-step end w x (to_come p j (n + 1)) ticks
    (subst (λ (v : Standing). BeginsFrom (tick_of v) end (map event_sound (to_come p j (n + 1)))) on.next later))

-- ---- the line

-- the events of a line are what comes out of the sounds of the run
pub line-events : (p : PlanParts) (j : ℕ) → PartsFit p → j < length p.programs
    → (line (plan_lines p) j).events
    ≡ numbered j 0 (come_out (map event_sound (mark_events (process_run p j).run.marks)) (line (plan_lines p) j).end)
line-events p j fits below =
    let ms = played_marks (plan_played p) in
    let end : (line (plan_lines p) j).end ≡ process_end j ms = ap (λ (l : Line). l.end) (line-of p j below) in
    ap (λ (l : Line). l.events) (line-of p j below)
    ∙ ap (λ (xs : List Sound). numbered j 0 (come_out xs (process_end j ms)))
    (sym (events-sounds j ms) ∙ ap (map event_sound) (line-turn p j fits below))
    ∙ ap (λ (e : ℕ). numbered j 0 (come_out (map event_sound (mark_events (process_run p j).run.marks)) e)) (sym end)
