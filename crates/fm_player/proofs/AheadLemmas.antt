-- What a player has ahead: sounds that begin in turn, the note-ons of a note in a row, and its note-offs.
use Rattle.std.proofs.Common.{◌≡◌, refl, sym, ◌∙◌, ap, subst, arith, ℕ, ℤ, zero, suc, ◌+◌, ◌-◌, ◌*◌, ◌<◌, ◌≤◌, List, [], ◌∷◌, map, length, Bool, true, false, nat_eq, nat_le, nat_lt, if◌then◌else◌, Option, Some, None, slice_get, slice_index}
use Rattle.std.proofs.lemmas.Bool.{le-leb, lt-ltb, ltb-true, eqb-true}
use Rattle.fm_msg.specs.declared.msg.Msg.{Msg}
use Rattle.fm_msg.specs.declared.msg.Msg.TheVariants.{Off}
use Rattle.fm_msg.specs.Event.{TimedMessage}
use Rattle.fm_line.specs.Line.{line}
use Rattle.fm_line.specs.Marks.{mark_event}
use Rattle.fm_line.specs.Runs.{BeginsFrom}
use Rattle.fm_line.specs.Sounds.{is_note_off, is_note_on, most_waiting, ons_ahead}
use Rattle.fm_offs.specs.declared.note_off.NoteOff.{NoteOff}
use Rattle.fm_offs.specs.Stack.{off_sound}
use Rattle.fm_program.specs.declared.op.Op.{Op}
use Rattle.fm_program.specs.declared.op.Op.TheVariants as op
use Rattle.fm_program.specs.declared.op.Point.{Point}
use Rattle.fm_program.specs.declared.op.Point.TheVariants as point
use Rattle.fm_program.specs.Parts.{PlanParts, StockParts, process_program}
use Rattle.fm_program.specs.Action.{action_of}
use Rattle.fm_program.specs.State.{OpenLevel, Standing}
use Rattle.fm_program.specs.Run.{done, put_out, point_msg}
use Rattle.fm_program.specs.Process.{plan_lines}
use Rattle.fm_player.specs.declared.pending.Pending.{Pending}
use Rattle.fm_player.specs.declared.player.Player.{Player}
use Rattle.fm_player.specs.declared.answers.Stepped.TheVariants as stepped
use Rattle.fm_player.specs.Ahead.{IsAtOn, IsQuiet, TakesOff, event_sound, pitches_ahead, sounds}
use Rattle.fm_player.specs.Course.{step_event, steps_of}
use Rattle.fm_player.specs.Player.{InCourse, MakesStep, clock_of, next_event, rest, steps_left}
use Rattle.fm_player.specs.Sounding.{IsPending, is_at_off, next_msg, next_time, ons_left, pending_events}
use Rattle.fm_player.proofs.FrameLemmas.{false_true}
use Rattle.fm_player.proofs.ReadLemmas.{none-ended, none_some, over-quiet}
use Rattle.fm_player.proofs.SoundLemmas.{not_at_off, on_next, pending-next, pending-none}
use Rattle.fm_player.proofs.StockLemmas.{below_of, both, past_of}
use Rattle.fm_player.proofs.StepLemmas.{OpCan, now_of, op-next, step-due}
use Rattle.fm_player.proofs.TurnLemmas.{begins-to_come}

-- ---- sounds that begin in turn

-- what a player has to sound begins in turn from its clock to the end of its line
pub sounds-begin : (p : PlanParts) (s : Player) → InCourse p s
    → BeginsFrom (clock_of p s) (line (plan_lines p) s.process).end (sounds p s)
unfolding clock_of rest
sounds-begin p s course =
    begins-to_come p s.process (steps_of p s.process - s.made) s.made course.fits course.process
    (let is : s.made + (steps_of p s.process - s.made) ≡ steps_of p s.process = omega (arith, course.within) in is)

-- ---- the next event of a note

-- a note of which one event more was given
abbrev pub given_one : Pending → Pending
given_one n = record n { given = n.given + 1 }

-- the player once the next event of its note is given
abbrev pub note_given : Player → Player
note_given s = record s { note = given_one s.note; made = s.made + 1 }

-- the next event of its note
abbrev pub note_event : Player → TimedMessage
note_event s = record { time = next_time s.note; process = s.process; index = s.note.first + s.note.given; msg = next_msg s.note }

pending-more : (n : Pending) → IsPending n → n.given < 2 * length n.keys.items → IsPending (given_one n)
pending-more n is more = record {
  given = omega arith;
  channel = is.channel;
  velocity = is.velocity;
  keys = is.keys;
  numbers = is.numbers;
}

-- it is a step
pub note-step : (p : PlanParts) (s : Player) → InCourse p s → s.note.given < 2 * length s.note.keys.items
    → MakesStep p s (stepped.Event (note_event s)) (note_given s)
note-step p s course more =
    step-due p s (given_one s.note) (note_event s) course (pending-more s.note course.ready.note more)
    (pending-next s.process s.note more)

not_below : (n : Pending) → length n.keys.items ≤ n.given → (b : Bool) → nat_lt n.given (length n.keys.items) ≡ b
    → nat_lt n.given (length n.keys.items) ≡ false
not_below n past true is = absurd (let below = ltb-true _ _ is in omega arith)
not_below n past false is = is

pub off-next : (n : Pending) → length n.keys.items ≤ n.given
    → next_msg n ≡ Off n.channel (slice_index n.keys.items (n.given - length n.keys.items))
off-next n past = rw (not_below n past (nat_lt n.given (length n.keys.items)) refl) refl

head_sounds : (p : PlanParts) (s : Player) (course : InCourse p s) (more : s.note.given < 2 * length s.note.keys.items)
    → sounds p s ≡ event_sound (note_event s) ∷ sounds p (note_given s)
head_sounds p s course more = ap (map event_sound) (note-step p s course more).is.2

-- the note-ons that are left stand in a row
pub ons-row : (d : ℕ) (p : PlanParts) (s : Player) → InCourse p s → s.note.given + d ≡ length s.note.keys.items
    → 0 < length s.note.keys.items → ons_ahead (sounds p s) ≡ d
ons-row zero p s course is some =
    let more : s.note.given < 2 * length s.note.keys.items = omega arith in
    ap ons_ahead (head_sounds p s course more)
    ∙ ap (λ (m : Msg). if is_note_on m then suc (ons_ahead (sounds p (note_given s))) else 0) (off-next s.note (omega arith))
ons-row (suc d) p s course is some =
    let more : s.note.given < 2 * length s.note.keys.items = omega arith in
    ap ons_ahead (head_sounds p s course more)
    ∙ ap (λ (m : Msg). if is_note_on m then suc (ons_ahead (sounds p (note_given s))) else 0) (on_next s.note (omega arith))
    ∙ ap suc (ons-row d p (note_given s) (note-step p s course more).course (omega arith) some)

-- a note-on is next
pub at-on : (p : PlanParts) (s : Player) → InCourse p s → 0 < ons_left s.note → IsAtOn p s (ons_left s.note)
at-on p s course left =
    let more : s.note.given < 2 * length s.note.keys.items = omega arith in
    let step = note-step p s course more in record {
      some = left;
      left = refl;
      first = event_sound (note_event s);
      others = sounds p (note_given s);
      is = head_sounds p s course more;
      begins = ap is_note_off (on_next s.note (omega arith));
      at = sym (step.is.3 (ap is_note_off (on_next s.note (omega arith))));
      ahead = ap ons_ahead (sym (head_sounds p s course more)) ∙ ons-row (ons_left s.note) p s course (omega arith) (omega arith);
    }

-- a note-off that is next is taken
pub takes-off : (p : PlanParts) (s : Player) (note : Pending) (off : NoteOff) → InCourse p s → is_at_off s.note ≡ true
    → note ≡ given_one s.note → off_sound off ≡ record { time = next_time s.note; msg = next_msg s.note }
    → TakesOff p s off (record s { note = note; made = s.made + 1 })
takes-off p s note off course at is sounds =
    let more : s.note.given < 2 * length s.note.keys.items =
    below_of s.note.given (2 * length s.note.keys.items)
    (both (nat_le (length s.note.keys.items) s.note.given) (nat_lt s.note.given (2 * length s.note.keys.items)) at).1 in
    subst (λ (n : Pending). TakesOff p s off (record s { note = n; made = s.made + 1 })) (sym is)
    (record {
      at_off = at;
      event = note_event s;
      step = note-step p s course more;
      is = sym sounds;
      note = refl;
    })

-- ---- an operation begins and ends no note by itself

-- a message that neither begins nor ends a note
abbrev IsPoint : Msg → Type 0
IsPoint m = (is_note_on m ≡ false) × (is_note_off m ≡ false)

point-plain : (pt : Point) (ch : ℕ) (v : ℤ) → IsPoint (point_msg pt ch v)
point-plain (point.Control c) ch v = (refl, refl)
point-plain point.Program ch v = (refl, refl)
point-plain point.Bend ch v = (refl, refl)

some_msg : (t j i : ℕ) (m : Msg) (e : TimedMessage)
    → (let o : Option TimedMessage = Some (record { time = t; process = j; index = i; msg = m }) in o) ≡ Some e → m ≡ e.msg
some_msg t j i m e same = cc

message-msg : (ls : List OpenLevel) (j i x y : ℕ) (m : Msg) (e : TimedMessage)
    → mark_event (put_out ls (record { process = j; index = i; msg = Some m; onset = x; ending = y })) ≡ Some e → m ≡ e.msg
message-msg [] j i x y m e same = some_msg _ j i m e same
message-msg (l ∷ ls) j i x y m e same = message-msg ls j i _ _ m e same

op-point : (t : StockParts) (o : Op) (w : Standing) (e : TimedMessage) → step_event (done (action_of t o) w) ≡ Some e → IsPoint e.msg
op-point t (op.Send pt ch x scope) w e is =
    subst IsPoint (message-msg w.levels w.process w.index w.position w.position _ e is) (point-plain pt ch _)
op-point t (op.Note chord span ch gate loud scope) w e is = absurd (none_some e is)
op-point t (op.Rest span scope) w e is = absurd (none_some e is)
op-point t (op.Set r x scope) w e is = absurd (none_some e is)
op-point t (op.Test x scope past) w e is = absurd (none_some e is)
op-point t (op.Jump to) w e is = absurd (none_some e is)
op-point t (op.Loop n scope past) w e is = absurd (none_some e is)
op-point t (op.Again back) w e is = absurd (none_some e is)
op-point t (op.Begin l) w e is = absurd (none_some e is)
op-point t op.Close w e is = absurd (none_some e is)
op-point t (op.Enter v) w e is = absurd (none_some e is)
op-point t op.Leave w e is = absurd (none_some e is)

pub op-quietly : (p : PlanParts) (s : Player) (o : Op) → OpCan p s o → IsQuiet p s
unfolding next_event
op-quietly p s o can = record {
  no_on = λ e is. (op-point p.stock o (now_of p s) e (sym (ap step_event can.is) ∙ is)).0;
  no_off = λ free e is. (op-point p.stock o (now_of p s) e (sym (ap step_event can.is) ∙ is)).1;
}

-- where a note-off is next
pub off-quiet : (p : PlanParts) (s : Player) → InCourse p s → s.note.given < 2 * length s.note.keys.items
    → length s.note.keys.items ≤ s.note.given → IsQuiet p s
off-quiet p s course more past = record {
  no_on = λ e is. ap is_note_on (sym (some_msg _ _ _ (next_msg s.note) e (sym (note-step p s course more).is.1 ∙ is)))
      ∙ ap is_note_on (off-next s.note past);
  no_off = λ free e is. absurd (false_true (sym free ∙ at_off));
}
  where
    at_off : is_at_off s.note ≡ true
    at_off = rw (le-leb (length s.note.keys.items) s.note.given past) (lt-ltb s.note.given (2 * length s.note.keys.items) more)

-- where no note-off is next, the next step gives none
pub next-plain : (p : PlanParts) (s : Player) (e : TimedMessage) → InCourse p s → is_at_off s.note ≡ false → next_event p s ≡ Some e
    → is_note_off e.msg ≡ false
unfolding next_event
next-plain p s e course free is = by_more (nat_lt s.note.given (2 * length s.note.keys.items)) refl
  where
    by_op : pending_events s.process s.note ≡ [] → (o : Option Op) → slice_get (process_program p s.process).ops s.operation ≡ o
        → is_note_off e.msg ≡ false
    by_op none None gone = absurd (none_some e (sym (over-quiet p s (none-ended p s course none (sym gone))) ∙ is))
    by_op none (Some o) some =
        (op-point p.stock o (now_of p s) e (sym (ap step_event (op-next p s o course none (sym some))) ∙ is)).1

    by_more : (b : Bool) → nat_lt s.note.given (2 * length s.note.keys.items) ≡ b → is_note_off e.msg ≡ false
    by_more true below =
        let more = ltb-true _ _ below in
        ap is_note_off (sym (some_msg _ _ _ (next_msg s.note) e (sym (note-step p s course more).is.1 ∙ is)))
        ∙ ap is_note_off (on_next s.note (not_at_off s.note free more))
    by_more false past =
        by_op (pending-none s.process s.note (past_of _ _ past)) (slice_get (process_program p s.process).ops s.operation) refl

-- ---- how many pitches begin

pub ahead-on : (p : PlanParts) (s : Player) → 0 < ons_left s.note → ons_left s.note ≡ pitches_ahead p s
ahead-on p s some = rw (lt-ltb 0 (ons_left s.note) some) refl

pub ahead-none : (p : PlanParts) (s : Player) → ons_left s.note ≡ 0 → 0 < steps_left p s → 0 ≡ pitches_ahead p s
ahead-none p s none some = at (ons_left s.note) none (nat_eq (steps_left p s) 0) refl
  where
    at : (n : ℕ) → n ≡ 0 → (b : Bool) → nat_eq (steps_left p s) 0 ≡ b
        → 0 ≡ (if nat_lt 0 n then n else if b then most_waiting else 0)
    at zero here true is = absurd (let gone = eqb-true _ _ is in omega arith)
    at zero here false is = refl
    at (suc n) here b is = absurd (omega arith)

pub ahead-end : (p : PlanParts) (s : Player) → ons_left s.note ≡ 0 → steps_left p s ≡ 0 → most_waiting ≡ pitches_ahead p s
ahead-end p s none ended = at (ons_left s.note) (steps_left p s) none ended
  where
    at : (n k : ℕ) → n ≡ 0 → k ≡ 0 → most_waiting ≡ (if nat_lt 0 n then n else if nat_eq k 0 then most_waiting else 0)
    at zero zero a b = refl
    at zero (suc k) a b = absurd (omega arith)
    at (suc n) k a b = absurd (omega arith)
