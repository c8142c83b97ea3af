-- What a player tells: its clock, its place, and its next event.
use Rattle.std.proofs.Common.{◌≡◌, refl, sym, ◌∙◌, ap, arith, ℕ, ◌-◌, ◌*◌, ◌<◌, ◌≤◌, List, [], ◌∷◌, ◌++◌, length, map, reverse, replicate, Bool, true, false, if◌then◌else◌, nat_lt, Some, None, slice_get, append_assoc, append-nil}
use Rattle.std.proofs.lemmas.Bool.{lt-ltb, ltb-false, ltb-true}
use Rattle.std.proofs.lemmas.List.{length-map, reverse-append}
use Rattle.fm_warp.specs.declared.part.Part.{Part}
use Rattle.fm_warp.specs.declared.side.Side.TheVariants.{Onset}
use Rattle.fm_msg.specs.declared.msg.Msg.{Msg}
use Rattle.fm_msg.specs.Event.{TimedMessage}
use Rattle.fm_line.specs.Marks.{mark_event}
use Rattle.fm_nest.specs.declared.frame.Frame.{Frame}
use Rattle.fm_nest.specs.declared.nest.TheConstants.{MAX_LEVELS}
use Rattle.fm_nest.specs.declared.place.Place.{Place}
use Rattle.fm_nest.specs.Nesting.{composed, frames_of, padded_origins}
use Rattle.fm_program.specs.declared.op.Op.{Op}
use Rattle.fm_program.specs.declared.op.Op.TheVariants as op
use Rattle.fm_program.specs.Parts.{PlanParts, StockParts, process_program}
use Rattle.fm_program.specs.Action.{action_of}
use Rattle.fm_program.specs.State.{OpenLevel, Standing}
use Rattle.fm_program.specs.Run.{over, sounding, done, step_from, put_out}
use Rattle.fm_program.specs.Process.{spot_reached}
use Rattle.fm_line.specs.Sounds.{is_note_off}
use Rattle.fm_player.specs.declared.player.Player.{Player}
use Rattle.fm_player.specs.Course.{code_of, step_event, steps_of, tick_from}
use Rattle.fm_player.specs.Timing.{level_of, levels_inside}
use Rattle.fm_player.specs.Sounding.{StartsAt, is_at_off, next_time, pending_events}
use Rattle.fm_player.specs.Player.{InCourse, clock_of, is_send, next_event, place_reached, steps_left}
use Rattle.fm_player.proofs.FrameLemmas.{false_true}
use Rattle.fm_player.proofs.RunLemmas.{sounding_over}
use Rattle.fm_player.proofs.SoundLemmas.{not_at_off, pending-none, starts, starts-on}
use Rattle.fm_player.proofs.TickLemmas.{mark-plain, on_tick, position-tick}
use Rattle.fm_player.proofs.CourseLemmas.{advances, calm-standing, over-left}
use Rattle.fm_player.proofs.StepLemmas.{OpCan, first-due, next-step, next_of, none-due, now_of}

-- ---- the clock

on_tick-frames : (warps : List (List Part)) (fs : List Frame) (ls : List OpenLevel) (x : ℕ)
    → on_tick (levels_inside warps fs ls) x ≡ on_tick ls (composed Onset warps fs x)
on_tick-frames warps [] ls x = refl
on_tick-frames warps (f ∷ fs) ls x = on_tick-frames warps fs (level_of warps f ∷ ls) x

-- the clock is the tick of the next event that is pending, where that is no note-off
pub clock-pending : (p : PlanParts) (s : Player) (t : ℕ) → InCourse p s → (starts : StartsAt t (pending_events s.process s.note))
    → is_note_off starts.first.msg ≡ false → clock_of p s ≡ t
unfolding clock_of
clock-pending p s t course starts plain =
    let first = first-due s (now_of p s) starts.first starts.others course.stands.note starts.is in
    ap (tick_from (now_of p s)) first.due ∙ mark-plain (put_out (now_of p s).levels first.mark) starts.first first.event plain ∙ starts.at

-- or that of the position where none is
pub clock-now : (p : PlanParts) (s : Player) → InCourse p s → pending_events s.process s.note ≡ [] → clock_of p s ≡ s.time.tick
unfolding clock_of
clock-now p s course none =
    ap (tick_from (now_of p s)) (none-due s (now_of p s) course.stands.note none)
    ∙ position-tick (now_of p s)
    ∙ ap (λ (ls : List OpenLevel). on_tick ls (now_of p s).position) (sym course.stands.time.levels)
    ∙ on_tick-frames p.stock.warps (frames_of s.time.nest) [] (now_of p s).position
    ∙ ap (composed Onset p.stock.warps (frames_of s.time.nest)) (sym course.stands.time.position)
    ∙ sym course.ready.time.tick

-- where no note-off is next, it is the tick of the note's note-ons or that of the position
pub clock-within : (p : PlanParts) (s : Player) (limit : ℕ) → InCourse p s → is_at_off s.note ≡ false
    → s.note.onset ≤ limit → s.time.tick ≤ limit → clock_of p s ≤ limit
clock-within p s limit course free onset tick = at (nat_lt s.note.given (2 * length s.note.keys.items)) refl
  where
    at : (b : Bool) → nat_lt s.note.given (2 * length s.note.keys.items) ≡ b → clock_of p s ≤ limit
    at true is =
        let more = ltb-true _ _ is in
        let first = starts s.process s.note (next_time s.note) more refl in
        let same : clock_of p s ≡ s.note.onset =
        clock-pending p s (next_time s.note) course first (starts-on s.process s.note (next_time s.note) first more free)
        ∙ ap (λ (b : Bool). if b then s.note.onset else s.note.ending) (lt-ltb _ _ (not_at_off s.note free more)) in
        omega arith
    at false is =
        let same = clock-now p s course (pending-none s.process s.note (ltb-false _ _ is)) in omega arith

-- ---- the place

origins-frames : (warps : List (List Part)) (fs : List Frame) (ls : List OpenLevel)
    → reverse (map (λ l. l.origin) (levels_inside warps fs ls)) ≡ reverse (map (λ l. l.origin) ls) ++ map (λ f. f.origin) fs
origins-frames warps [] ls = sym (append-nil (reverse (map (λ l. l.origin) ls)))
origins-frames warps (f ∷ fs) ls =
    origins-frames warps fs (level_of warps f ∷ ls)
    ∙ ap (λ (os : List ℕ). os ++ map (λ g. g.origin) fs) (reverse-append (f.origin ∷ []) (map (λ l. l.origin) ls))
    ∙ append_assoc (reverse (map (λ l. l.origin) ls)) (f.origin ∷ []) (map (λ g. g.origin) fs)

-- the place of a state is that of the frames and the position
pub place-is : (p : PlanParts) (s : Player) (place : Place) → InCourse p s → place.depth ≡ length (frames_of s.time.nest)
    → place.origins ≡ padded_origins (frames_of s.time.nest) → place.position ≡ s.time.position → place ≡ place_reached p s
unfolding place_reached
place-is p s place course depth origins position =
    same_place _ _ _ _ _ _
    (depth ∙ counted)
    (origins ∙ ap (λ (os : List ℕ). os ++ replicate (MAX_LEVELS - length (frames_of s.time.nest)) 0) spots
    ∙ ap (λ (n : ℕ). (spot_reached (now_of p s)).origins ++ replicate (MAX_LEVELS - n) 0) counted)
    (position ∙ course.stands.time.position)
  where
    spots : map (λ f. f.origin) (frames_of s.time.nest) ≡ (spot_reached (now_of p s)).origins
    spots = sym (ap (λ (ls : List OpenLevel). reverse (map (λ l. l.origin) ls)) (sym course.stands.time.levels)
        ∙ origins-frames p.stock.warps (frames_of s.time.nest) [])

    counted : length (frames_of s.time.nest) ≡ length (spot_reached (now_of p s)).origins
    counted = sym (length-map (frames_of s.time.nest) (λ f. f.origin)) ∙ ap length spots

    same_place : (d d' : ℕ) (o o' : List ℕ) (x x' : ℕ) → d ≡ d' → o ≡ o' → x ≡ x'
        → (let a : Place = record { depth = d; origins = o; position = x } in a) ≡ record { depth = d'; origins = o'; position = x' }
    same_place d d' o o' x x' ed eo ex =
        ap (λ (y : ℕ). let a : Place = record { depth = y; origins = o; position = x } in a) ed
        ∙ ap (λ (y : List ℕ). let a : Place = record { depth = d'; origins = y; position = x } in a) eo
        ∙ ap (λ (y : ℕ). let a : Place = record { depth = d'; origins = o'; position = y } in a) ex

-- ---- the end

-- a step is left where an event is pending or an operation is there
pub left-lives : (p : PlanParts) (s : Player) → InCourse p s → (next_of p s ≡ over → ⊥) → 0 < steps_left p s
unfolding steps_left
left-lives p s course lives = omega (arith, (advances p s.process s.made course.fits course.process course.within lives).left)

pub ended-left : (p : PlanParts) (s : Player) → InCourse p s → next_of p s ≡ over → steps_left p s ≡ 0
unfolding steps_left
ended-left p s course ended =
    let gone : s.made ≡ steps_of p s.process = (over-left p s.process s.made course.fits course.process course.within ended).0 in
    omega arith

-- the end of the program is the end of the steps
pub none-ended : (p : PlanParts) (s : Player) → InCourse p s → pending_events s.process s.note ≡ []
    → None ≡ slice_get (process_program p s.process).ops s.operation → next_of p s ≡ over
none-ended p s course pending is = next-step p s None course pending is

pub pending-sounds : (p : PlanParts) (s : Player) (t : ℕ) → InCourse p s → StartsAt t (pending_events s.process s.note)
    → (next_of p s ≡ over → ⊥) × ((e : TimedMessage) × (next_event p s ≡ Some e))
unfolding next_event
pending-sounds p s t course starts =
    let first = first-due s (now_of p s) starts.first starts.others course.stands.note starts.is in
    let next : next_of p s ≡ sounding (put_out (now_of p s).levels first.mark) (record (now_of p s) { due = first.marks }) =
    ap (step_from (code_of p s.process) (now_of p s)) first.due in (
      (λ bad. sounding_over (put_out (now_of p s).levels first.mark) (record (now_of p s) { due = first.marks }) (sym next ∙ bad)),
      (starts.first, ap step_event next ∙ first.event),
    )

-- a message is an event
message-event : (ls : List OpenLevel) (j i x y : ℕ) (m : Msg)
    → (e : TimedMessage) × (mark_event (put_out ls (record { process = j; index = i; msg = Some m; onset = x; ending = y })) ≡ Some e)
message-event [] j i x y m = (_, refl)
message-event (l ∷ ls) j i x y m = message-event ls j i _ _ m

-- an operation sounds where it sends
send-sounds : (t : StockParts) (o : Op) (w : Standing) → is_send o ≡ true
    → (e : TimedMessage) × (step_event (done (action_of t o) w) ≡ Some e)
send-sounds t (op.Send pt ch x scope) w is = message-event w.levels w.process w.index w.position w.position _
send-sounds t (op.Note chord span ch gate loud scope) w is = absurd (false_true is)
send-sounds t (op.Rest span scope) w is = absurd (false_true is)
send-sounds t (op.Set r e scope) w is = absurd (false_true is)
send-sounds t (op.Test e scope past) w is = absurd (false_true is)
send-sounds t (op.Jump to) w is = absurd (false_true is)
send-sounds t (op.Loop n scope past) w is = absurd (false_true is)
send-sounds t (op.Again back) w is = absurd (false_true is)
send-sounds t (op.Begin l) w is = absurd (false_true is)
send-sounds t op.Close w is = absurd (false_true is)
send-sounds t (op.Enter v) w is = absurd (false_true is)
send-sounds t op.Leave w is = absurd (false_true is)

other-quiet : (t : StockParts) (o : Op) (w : Standing) → is_send o ≡ false → step_event (done (action_of t o) w) ≡ None
other-quiet t (op.Send pt ch x scope) w is = absurd (false_true (sym is))
other-quiet t (op.Note chord span ch gate loud scope) w is = refl
other-quiet t (op.Rest span scope) w is = refl
other-quiet t (op.Set r e scope) w is = refl
other-quiet t (op.Test e scope past) w is = refl
other-quiet t (op.Jump to) w is = refl
other-quiet t (op.Loop n scope past) w is = refl
other-quiet t (op.Again back) w is = refl
other-quiet t (op.Begin l) w is = refl
other-quiet t op.Close w is = refl
other-quiet t (op.Enter v) w is = refl
other-quiet t op.Leave w is = refl

pub op-sounds : (p : PlanParts) (s : Player) (o : Op) → OpCan p s o → is_send o ≡ true → (e : TimedMessage) × (next_event p s ≡ Some e)
unfolding next_event
op-sounds p s o can is = let told = send-sounds p.stock o (now_of p s) is in (told.0, ap step_event can.is ∙ told.1)

pub op-quiet : (p : PlanParts) (s : Player) (o : Op) → OpCan p s o → is_send o ≡ false → next_event p s ≡ None
unfolding next_event
op-quiet p s o can is = ap step_event can.is ∙ other-quiet p.stock o (now_of p s) is

pub over-quiet : (p : PlanParts) (s : Player) → next_of p s ≡ over → next_event p s ≡ None
unfolding next_event
over-quiet p s ended = ap step_event ended

pub none_some : (e : TimedMessage) → None ≡ Some e → ⊥
none_some e bad = cc

-- the clock is the time of the event that the next step gives, where that is no note-off
pub event-clock : (p : PlanParts) (s : Player) (e : TimedMessage) → InCourse p s → next_event p s ≡ Some e
    → is_note_off e.msg ≡ false → clock_of p s ≡ e.time
unfolding next_event clock_of
event-clock p s e course is plain =
    let lives : next_of p s ≡ over → ⊥ = λ bad. none_some e (sym (ap step_event bad) ∙ is) in
    ((advances p s.process s.made course.fits course.process course.within lives).ticks
    (calm-standing p s.process s.made course.fits course.process course.within)).event e is plain

-- fewer than a number that is not reached
pub not-full : (n m : ℕ) → n ≤ m → (n ≡ m → ⊥) → n < m
not-full n m most apart = grind arith
