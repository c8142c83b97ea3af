-- The line of a process is what its run gives.
use Rattle.std.proofs.Common.{◌≡◌, ◌≢◌, refl, sym, ◌∙◌, ap, subst, arith, ℕ, zero, suc, ◌+◌, ◌<◌, List, [], ◌∷◌, ◌++◌, length, map, Bool, true, false, ◌&&◌, nat_eq, if◌then◌else◌, Option, Some, None, is_none, slice_get, slice_index_or, append-nil, append_assoc}
use Rattle.std.proofs.lemmas.List.{length-map}
use Rattle.std.specs.Option.{option_map, option_to_list}
use Rattle.fm_warp.specs.declared.side.Side.TheVariants.{Onset}
use Rattle.fm_warp.specs.Deformation.{placed, placed_end}
use Rattle.fm_msg.specs.declared.msg.Msg.{Msg}
use Rattle.fm_msg.specs.Event.{TimedMessage}
use Rattle.fm_line.specs.declared.line.Line.{Line}
use Rattle.fm_line.specs.Line.{line}
use Rattle.fm_line.specs.Marks.{Mark, lines_from, mapped, mark_event, process_end, events_in_turn, process_line}
use Rattle.fm_program.specs.declared.op.Slot.{Slot}
use Rattle.fm_program.specs.declared.op.Turn.{Turn}
use Rattle.fm_program.specs.declared.plan.TheConstants.{MAX_STEPS}
use Rattle.fm_program.specs.Parts.{PlanParts, ProgramParts}
use Rattle.fm_program.specs.Action.{Action, MessageNumber, SpanLength, note, rest, send, assign, choose, jump, loop, again, begin, close, enter, leave}
use Rattle.fm_program.specs.State.{OpenFrame, counting, cycling, OpenLevel, Standing, pitches_drawn, duration_drawn, turn_drawn, repeats_drawn}
use Rattle.fm_program.specs.Run.{Stepped, over, stuck, silent, sounding, done, step, step_from, step_at, within_limits, marks_of, put_out, Run, run_done, run_from, program_run, loop_opened, round_over, frame_closed, level_closed}
use Rattle.fm_program.specs.Needs.{holds, is_open}
use Rattle.fm_program.specs.Process.{Played, no_played, ending_mark, played_marks, plan_lines, plan_played, process_run}
use Rattle.fm_program.specs.Fit.{PartsFit}
use Rattle.fm_player.specs.Course.{begun, code_of, mark_events}
use Rattle.fm_player.specs.Player.{left_by}
use Rattle.fm_player.proofs.FrameLemmas.{false_true}
use Rattle.fm_player.proofs.DrawLemmas.{Kept, kept-then, number-kept, pitches-kept, duration-kept, turn-kept, repeats-kept}
use Rattle.fm_player.proofs.RunLemmas.{marks_by}
use Rattle.fm_player.proofs.CourseLemmas.{plan_played-length, process-as, process-ends}

-- ---- marks of one process

-- marks of messages of the process j
abbrev pub OwnMarks : ℕ → List Mark → Type 0
OwnMarks j [] = Unit {0}
OwnMarks j (m ∷ ms) = (m.process ≡ j) × (is_none m.msg ≡ false) × OwnMarks j ms

put_out-process : (ls : List OpenLevel) (m : Mark) → (put_out ls m).process ≡ m.process
put_out-process [] m = refl
put_out-process (l ∷ ls) m = put_out-process ls (mapped (placed Onset l.origin l.parts) (placed_end l.origin l.parts) m)

put_out-msg : (ls : List OpenLevel) (m : Mark) → (put_out ls m).msg ≡ m.msg
put_out-msg [] m = refl
put_out-msg (l ∷ ls) m = put_out-msg ls (mapped (placed Onset l.origin l.parts) (placed_end l.origin l.parts) m)

own-marks_of : (j i x y : ℕ) (ms : List Msg) → OwnMarks j (marks_of j i x y ms)
own-marks_of j i x y [] = tt
own-marks_of j i x y (m ∷ ms) = (refl, refl, own-marks_of j (i + 1) x y ms)

-- a state of the process j
pub record Own (j : ℕ) (w : Standing) : Type 0 where
  pub process : w.process ≡ j
  pub due : OwnMarks j w.due

own-same : (j : ℕ) (w t : Standing) → Own j w → t.process ≡ w.process → t.due ≡ w.due → Own j t
own-same j w t own process due = record { process = process ∙ own.process; due = subst (OwnMarks j) (sym due) own.due }

own-loop : (j n past : ℕ) (w t : Standing) → Own j w → Kept w t → Own j (loop_opened n past t)
own-loop j zero past w t own kept = own-same j w (loop_opened zero past t) own kept.process kept.due
own-loop j (suc n) past w t own kept = own-same j w (loop_opened (suc n) past t) own kept.process kept.due

own-round : (j back : ℕ) (w : Standing) (fs : List OpenFrame) → Own j w → Own j (round_over back w fs)
own-round j back w [] own = own-same j w (round_over back w []) own refl refl
own-round j back w (cycling es c ∷ fs) own = own-same j w (round_over back w (cycling es c ∷ fs)) own refl refl
own-round j back w (counting i zero b ∷ fs) own = own-same j w (round_over back w (counting i zero b ∷ fs)) own refl refl
own-round j back w (counting i (suc n) b ∷ fs) own = own-same j w (round_over back w (counting i (suc n) b ∷ fs)) own refl refl

own-closed : (j : ℕ) (w : Standing) (fs : List OpenFrame) → Own j w → Own j (frame_closed w fs)
own-closed j w [] own = own-same j w (frame_closed w []) own refl refl
own-closed j w (f ∷ fs) own = own-same j w (frame_closed w (f ∷ fs)) own refl refl

own-left : (j : ℕ) (w : Standing) (ls : List OpenLevel) → Own j w → Own j (level_closed w ls)
own-left j w [] own = own-same j w (level_closed w []) own refl refl
own-left j w (l ∷ ls) own = own-same j w (level_closed w (l ∷ ls)) own refl refl

own-note : (j : ℕ) (pitches : List MessageNumber) (span : SpanLength) (ch : ℕ) (gate loud : Turn) (scope : List Slot)
    (w : Standing) → Own j w
    → Own j (left_by (done (note pitches span ch gate loud scope) w) w)
own-note j pitches span ch gate loud scope w own =
    let keys = pitches_drawn pitches scope w in
    let lasts = duration_drawn span scope keys.after in
    let part = turn_drawn gate lasts.after in
    let velocity = turn_drawn loud part.after in
    let kept = kept-then w keys.after velocity.after (pitches-kept pitches scope w)
    (kept-then keys.after lasts.after velocity.after (duration-kept span scope keys.after)
    (kept-then lasts.after part.after velocity.after (turn-kept gate lasts.after) (turn-kept loud part.after))) in
    record {
      process = kept.process ∙ own.process;
      due = subst (λ (k : ℕ). OwnMarks k (left_by (done (note pitches span ch gate loud scope) w) w).due) own.process
          (own-marks_of w.process _ _ _ _);
    }

own-done : (j : ℕ) (a : Action) (w : Standing) → Own j w → Own j (left_by (done a w) w) × OwnMarks j (marks_by (done a w))
own-done j (note pitches span ch gate loud scope) w own = (own-note j pitches span ch gate loud scope w own, tt)
own-done j (rest span scope) w own =
    (own-same j w (left_by (done (rest span scope) w) w) own (duration-kept span scope w).process (duration-kept span scope w).due, tt)
own-done j (send pt ch amount scope) w own = (
  own-same j w (left_by (done (send pt ch amount scope) w) w) own (number-kept amount scope w).process (number-kept amount scope w).due,
  (put_out-process w.levels _ ∙ own.process, ap is_none (put_out-msg w.levels _), tt),
)
own-done j (assign r e scope) w own = (own-same j w (left_by (done (assign r e scope) w) w) own refl refl, tt)
own-done j (choose e scope past) w own = (own-same j w (left_by (done (choose e scope past) w) w) own refl refl, tt)
own-done j (jump to) w own = (own-same j w (left_by (done (jump to) w) w) own refl refl, tt)
own-done j (loop count scope past) w own =
    (own-loop j (repeats_drawn count scope w).value past w (repeats_drawn count scope w).after own (repeats-kept count scope w), tt)
own-done j (again back) w own = (own-round j back w w.frames own, tt)
own-done j (begin entries) w own = (own-same j w (left_by (done (begin entries) w) w) own refl refl, tt)
own-done j close w own = (own-closed j w w.frames own, tt)
own-done j (enter v parts) w own = (own-same j w (left_by (done (enter v parts) w) w) own refl refl, tt)
own-done j leave w own = (own-left j w w.levels own, tt)

-- what a step leaves and gives
abbrev OwnStep : ℕ → Stepped → Standing → Type 0
OwnStep j x w = Own j (left_by x w) × OwnMarks j (marks_by x)

own-limits : (j : ℕ) (w : Standing) (x : Stepped) → Own j w → OwnStep j x w → OwnStep j (within_limits x) w
own-limits j w over own so = so
own-limits j w stuck own so = so
own-limits j w (silent t) own so = at (holds t)
  where
    at : (b : Bool) → OwnStep j (if b then silent t else stuck) w
    at true = so
    at false = (own, tt)
own-limits j w (sounding m t) own so = at (holds t)
  where
    at : (b : Bool) → OwnStep j (if b then sounding m t else stuck) w
    at true = so
    at false = (own, tt)

-- a step of a process leaves it that process, and gives its marks alone
pub own-step : (j : ℕ) (code : List Action) (w : Standing) → Own j w → OwnStep j (step code w) w
own-step j code w own = at w.due refl own.due
  where
    open_or : (a : Action) (b : Bool) → OwnStep j (if b then within_limits (done a w) else stuck) w
    open_or a true = own-limits j w (done a w) own (own-done j a w own)
    open_or a false = (own, tt)

    found : (o : Option Action) → OwnStep j (step_at o w) w
    found None = (own, tt)
    found (Some a) = open_or a (is_open a w)

    at : (ms : List Mark) → w.due ≡ ms → OwnMarks j ms → OwnStep j (step_from code w ms) w
    at [] due marks = found (slice_get code w.operation)
    at (m ∷ ms) due marks = (
      record { process = own.process; due = marks.2 },
      (put_out-process w.levels m ∙ marks.0, ap is_none (put_out-msg w.levels m) ∙ marks.1, tt),
    )

-- the marks of a run that ends are those of its process, and so is its last state
own-run : (j : ℕ) (code : List Action) (k : ℕ) (s : Standing) → Own j s → (program_run code k s).ended ≡ true
    → OwnMarks j (program_run code k s).marks × ((program_run code k s).last.process ≡ j)
own-run j code zero s own ended = at (step code s) ended
  where
    at : (x : Stepped) → (run_from x s (run_done false)).ended ≡ true
        → OwnMarks j (run_from x s (run_done false)).marks × ((run_from x s (run_done false)).last.process ≡ j)
    at over is = (tt, own.process)
    at stuck is = absurd (false_true is)
    at (silent t) is = absurd (false_true is)
    at (sounding m t) is = absurd (false_true is)
own-run j code (suc k) s own ended = at (own-run j code k) (step code s) (own-step j code s own) ended
  where
    at : ((t : Standing) → Own j t → (program_run code k t).ended ≡ true
        → OwnMarks j (program_run code k t).marks × ((program_run code k t).last.process ≡ j))
        → (x : Stepped) → OwnStep j x s → (run_from x s (program_run code k)).ended ≡ true
        → OwnMarks j (run_from x s (program_run code k)).marks × ((run_from x s (program_run code k)).last.process ≡ j)
    at later over so is = (tt, own.process)
    at later stuck so is = absurd (false_true is)
    at later (silent t) so is = later t so.0 is
    at later (sounding m t) so is = let more = later t so.0 is in ((so.1.0, so.1.1, more.0), more.1)

-- ---- lines

-- what a process plays is its own
abbrev OwnPlayed : ℕ → List Played → Type 0
OwnPlayed i [] = Unit {0}
OwnPlayed i (x ∷ xs) = OwnMarks i x.run.marks × (x.run.last.process ≡ i) × OwnPlayed (i + 1) xs

own-played : (i : ℕ) (ps : List Played)
    → ((k : ℕ) → k < length ps
    → OwnMarks (i + k) (slice_index_or ps k no_played).run.marks × ((slice_index_or ps k no_played).run.last.process ≡ i + k))
    → OwnPlayed i ps
own-played i [] each = tt
own-played i (x ∷ xs) each =
    let none : i + 0 ≡ i = omega arith in
    let first = each 0 (omega arith) in (
      subst (λ (n : ℕ). OwnMarks n x.run.marks) none first.0,
      first.1 ∙ none,
      own-played (i + 1) xs
          (λ k below. let moved : i + suc k ≡ i + 1 + k = omega arith in
          let one = each (suc k) (omega arith) in
          (subst (λ (n : ℕ). OwnMarks n (slice_index_or xs k no_played).run.marks) moved one.0, one.1 ∙ moved)),
    )

-- the events of own marks, and of others'
events-own : (j : ℕ) (ms more : List Mark) → OwnMarks j ms → events_in_turn j (ms ++ more) ≡ mark_events ms ++ events_in_turn j more
events-own j [] more own = refl
events-own j (m ∷ ms) more own =
    ap (λ (b : Bool). (if b then option_to_list (mark_event m) else []) ++ events_in_turn j (ms ++ more)) (same m.process j own.0)
    ∙ ap (λ (es : List TimedMessage). option_to_list (mark_event m) ++ es) (events-own j ms more own.2)
    ∙ sym (append_assoc (option_to_list (mark_event m)) (mark_events ms) (events_in_turn j more))
  where
    same : (a b : ℕ) → a ≡ b → nat_eq a b ≡ true
    same a b is = grind arith

events-other : (j k : ℕ) (ms more : List Mark) → k ≢ j → OwnMarks k ms → events_in_turn j (ms ++ more) ≡ events_in_turn j more
events-other j k [] more apart own = refl
events-other j k (m ∷ ms) more apart own =
    ap (λ (b : Bool). (if b then option_to_list (mark_event m) else []) ++ events_in_turn j (ms ++ more)) (differs m.process own.0)
    ∙ events-other j k ms more apart own.2
  where
    differs : (a : ℕ) → a ≡ k → nat_eq a j ≡ false
    differs a is = grind arith

-- the end of a process is no event
events-end : (j : ℕ) (m : Mark) (more : List Mark) → m.msg ≡ None → events_in_turn j (m ∷ more) ≡ events_in_turn j more
events-end j m more none =
    ap (λ (es : List TimedMessage). (if nat_eq m.process j then es else []) ++ events_in_turn j more)
    (ap option_to_list (ap (option_map _) none)) ∙ at (nat_eq m.process j)
  where
    at : (b : Bool) → (if b then [] else []) ++ events_in_turn j more ≡ events_in_turn j more
    at true = refl
    at false = refl

-- where the process ends: at its first mark without a message
end-own : (j k : ℕ) (ms more : List Mark) → OwnMarks k ms → process_end j (ms ++ more) ≡ process_end j more
end-own j k [] more own = refl
end-own j k (m ∷ ms) more own =
    ap (λ (b : Bool). if nat_eq m.process j && b then m.onset else process_end j (ms ++ more)) own.1
    ∙ at (nat_eq m.process j) ∙ end-own j k ms more own.2
  where
    at : (b : Bool) → (if b && false then m.onset else process_end j (ms ++ more)) ≡ process_end j (ms ++ more)
    at true = refl
    at false = refl

ending-process : (w : Standing) → (ending_mark w).process ≡ w.process
ending-process w = put_out-process w.levels _

ending-msg : (w : Standing) → (ending_mark w).msg ≡ None
ending-msg w = put_out-msg w.levels _

same-number : (a b : ℕ) → a ≡ b → nat_eq a b ≡ true
same-number a b is = grind arith

other-number : (a b : ℕ) → (a ≡ b → ⊥) → nat_eq a b ≡ false
other-number a b apart = grind arith

end-here : (j : ℕ) (w : Standing) (more : List Mark) → w.process ≡ j → process_end j (ending_mark w ∷ more) ≡ (ending_mark w).onset
end-here j w more is =
    ap (λ (b : Bool). if b && is_none (ending_mark w).msg then (ending_mark w).onset else process_end j more)
    (same-number (ending_mark w).process j (ending-process w ∙ is))
    ∙ ap (λ (b : Bool). if b then (ending_mark w).onset else process_end j more) (ap is_none (ending-msg w))

end-other : (j : ℕ) (w : Standing) (more : List Mark) → (w.process ≡ j → ⊥) → process_end j (ending_mark w ∷ more) ≡ process_end j more
end-other j w more apart =
    ap (λ (b : Bool). if b && is_none (ending_mark w).msg then (ending_mark w).onset else process_end j more)
    (other-number (ending_mark w).process j (λ is. apart (sym (ending-process w) ∙ is)))

-- nothing of a process before the first
events-past : (i j : ℕ) (ps : List Played) → OwnPlayed i ps → j < i → events_in_turn j (played_marks ps) ≡ []
events-past i j [] own below = refl
events-past i j (x ∷ xs) own below =
    events-other j i x.run.marks _ (let apart : i ≡ j → ⊥ = λ is. omega arith in apart) own.0
    ∙ events-end j (ending_mark x.run.last) (played_marks xs) (ending-msg x.run.last)
    ∙ events-past (i + 1) j xs own.2 (omega arith)

events-played : (i k : ℕ) (ps : List Played) → OwnPlayed i ps → k < length ps
    → events_in_turn (i + k) (played_marks ps) ≡ mark_events (slice_index_or ps k no_played).run.marks
events-played i k [] own below = absurd (omega arith)
events-played i zero (x ∷ xs) own below =
    let none : i + 0 ≡ i = omega arith in
    ap (λ (n : ℕ). events_in_turn n (played_marks (x ∷ xs))) none
    ∙ events-own i x.run.marks (ending_mark x.run.last ∷ played_marks xs) own.0
    ∙ ap (λ (es : List TimedMessage). mark_events x.run.marks ++ es)
    (events-end i (ending_mark x.run.last) (played_marks xs) (ending-msg x.run.last) ∙ events-past (i + 1) i xs own.2 (omega arith))
    ∙ append-nil (mark_events x.run.marks)
events-played i (suc k) (x ∷ xs) own below =
    let moved : i + suc k ≡ i + 1 + k = omega arith in
    events-other (i + suc k) i x.run.marks _ (let apart : i ≡ i + suc k → ⊥ = λ is. omega arith in apart) own.0
    ∙ events-end (i + suc k) (ending_mark x.run.last) (played_marks xs) (ending-msg x.run.last)
    ∙ ap (λ (n : ℕ). events_in_turn n (played_marks xs)) moved
    ∙ events-played (i + 1) k xs own.2 (omega arith)

end-played : (i k : ℕ) (ps : List Played) → OwnPlayed i ps → k < length ps
    → process_end (i + k) (played_marks ps) ≡ (ending_mark (slice_index_or ps k no_played).run.last).onset
end-played i k [] own below = absurd (omega arith)
end-played i zero (x ∷ xs) own below =
    let none : i + 0 ≡ i = omega arith in
    end-own (i + 0) i x.run.marks (ending_mark x.run.last ∷ played_marks xs) own.0
    ∙ end-here (i + 0) x.run.last (played_marks xs) (own.1 ∙ sym none)
end-played i (suc k) (x ∷ xs) own below =
    let moved : i + suc k ≡ i + 1 + k = omega arith in
    end-own (i + suc k) i x.run.marks (ending_mark x.run.last ∷ played_marks xs) own.0
    ∙ end-other (i + suc k) x.run.last (played_marks xs) (λ is. (let at : x.run.last.process ≡ i = own.1 in omega arith))
    ∙ ap (λ (n : ℕ). process_end n (played_marks xs)) moved
    ∙ end-played (i + 1) k xs own.2 (omega arith)

-- the line with a number
line-at : (i k : ℕ) (waits : List (List ℕ)) (ms : List Mark) → k < length waits
    → line (lines_from i waits ms) k ≡ process_line (i + k) (slice_index_or waits k []) ms
line-at i k [] ms below = absurd (omega arith)
line-at i zero (w ∷ ws) ms below = ap (λ (n : ℕ). process_line n w ms) (let none : i ≡ i + 0 = omega arith in none)
line-at i (suc k) (w ∷ ws) ms below =
    line-at (i + 1) k ws ms (omega arith)
    ∙ ap (λ (n : ℕ). process_line n (slice_index_or ws k []) ms) (let moved : i + 1 + k ≡ i + suc k = omega arith in moved)

own-all : (p : PlanParts) → PartsFit p → OwnPlayed 0 (plan_played p)
own-all p fits = own-played 0 (plan_played p) (λ k below.
    let inside : k < length p.programs = omega (arith, plan_played-length p) in
    let none : k ≡ 0 + k = omega arith in
    let here = process-as p k inside in
    let own = own-run k (code_of p k) MAX_STEPS (begun p k) (record { process = refl; due = tt }) (process-ends p k fits inside).ended in (
      subst (λ (n : ℕ). OwnMarks n (process_run p k).run.marks) none (subst (OwnMarks k) (sym (ap (λ (r : Run). r.marks) here.run)) own.0),
      ap (λ (r : Run). r.last.process) here.run ∙ own.1 ∙ none,
    ))

pub line-of : (p : PlanParts) (j : ℕ) → j < length p.programs
    → line (plan_lines p) j
    ≡ process_line j (slice_index_or (map (λ program. program.predecessors) p.programs) j []) (played_marks (plan_played p))
line-of p j below =
    line-at 0 j (map (λ program. program.predecessors) p.programs) (played_marks (plan_played p))
    (omega (arith, length-map p.programs (λ (program : ProgramParts). program.predecessors)))
    ∙ ap (λ (n : ℕ). process_line n (slice_index_or (map (λ program. program.predecessors) p.programs) j []) (played_marks (plan_played p)))
    (let none : 0 + j ≡ j = omega arith in none)

-- the events of its marks in turn are those of the run
pub line-turn : (p : PlanParts) (j : ℕ) → PartsFit p → j < length p.programs
    → events_in_turn j (played_marks (plan_played p)) ≡ mark_events (process_run p j).run.marks
line-turn p j fits below =
    ap (λ (n : ℕ). events_in_turn n (played_marks (plan_played p))) (let none : j ≡ 0 + j = omega arith in none)
    ∙ events-played 0 j (plan_played p) (own-all p fits) (omega (arith, plan_played-length p))

-- a line ends where the run does
pub line-end : (p : PlanParts) (j : ℕ) → PartsFit p → j < length p.programs
    → (line (plan_lines p) j).end ≡ (ending_mark (process_run p j).run.last).onset
line-end p j fits below =
    ap (λ (l : Line). l.end) (line-of p j below)
    ∙ ap (λ (n : ℕ). process_end n (played_marks (plan_played p))) (let none : j ≡ 0 + j = omega arith in none)
    ∙ end-played 0 j (plan_played p) (own-all p fits) (omega (arith, plan_played-length p))
