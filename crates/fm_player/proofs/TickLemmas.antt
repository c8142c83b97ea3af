-- Ticks of states never fall.
use Rattle.std.proofs.Common.{◌≡◌, refl, sym, ◌∙◌, ap, subst, arith, ℕ, zero, suc, ◌+◌, ◌≤◌, List, [], ◌∷◌, ◌++◌, map, max, Bool, true, false, Option, Some, None, if◌then◌else◌}
use Rattle.std.specs.Option.{option_map}
use Rattle.fm_warp.specs.declared.side.Side.TheVariants.{Onset}
use Rattle.fm_warp.specs.Deformation.{placed, placed_end}
use Rattle.fm_msg.specs.declared.msg.Msg.{Msg}
use Rattle.fm_msg.specs.declared.msg.Msg.TheVariants.{On, Off}
use Rattle.fm_msg.specs.Event.{TimedMessage}
use Rattle.fm_warp.proofs.DeformationLemmas.{sum_from-mono}
use Rattle.fm_line.specs.Sounds.{is_note_off}
use Rattle.fm_line.specs.Marks.{Mark, has_ending, mapped, mark_event, mark_time}
use Rattle.fm_pattern.specs.NoteEnd.{note_end}
use Rattle.fm_program.specs.declared.op.Slot.{Slot}
use Rattle.fm_program.specs.declared.op.Turn.{Turn}
use Rattle.fm_program.specs.Action.{Action, MessageNumber, SpanLength, note, rest, send, assign, choose, jump, loop, again, begin, close, enter, leave}
use Rattle.fm_program.specs.State.{OpenFrame, counting, cycling, OpenLevel, Standing, pitches_drawn, duration_drawn, turn_drawn, number_drawn, repeats_drawn}
use Rattle.fm_program.specs.Run.{Stepped, sounding, done, put_out, marks_of, point_msg, loop_opened, round_over, frame_closed, level_closed}
use Rattle.fm_program.specs.Process.{ending_mark}
use Rattle.fm_player.specs.Course.{step_event, tick_from, tick_of}
use Rattle.fm_player.specs.Player.{left_by}
use Rattle.fm_player.proofs.DrawLemmas.{Kept, kept-then, number-kept, pitches-kept, duration-kept, turn-kept, repeats-kept}
use Rattle.fm_player.proofs.OperationLemmas.{point-plain}

-- ---- levels

-- where levels put an onset, and a note-off
abbrev pub on_tick : List OpenLevel → ℕ → ℕ
on_tick [] x = x
on_tick (l ∷ ls) x = on_tick ls (placed Onset l.origin l.parts x)

abbrev pub off_tick : List OpenLevel → ℕ → ℕ
off_tick [] x = x
off_tick (l ∷ ls) x = off_tick ls (placed_end l.origin l.parts x)

pub on_tick-mono : (ls : List OpenLevel) (x y : ℕ) → x ≤ y → on_tick ls x ≤ on_tick ls y
on_tick-mono [] x y below = below
on_tick-mono (l ∷ ls) x y below =
    on_tick-mono ls _ _ (let next : placed Onset l.origin l.parts x ≤ placed Onset l.origin l.parts y =
    omega (arith, sum_from-mono Onset l.parts 0 x y below) in next)

-- a mark in the outermost level
abbrev mark_out : List OpenLevel → Mark → Mark
mark_out ls m =
    record m { onset = on_tick ls m.onset; ending = (if has_ending m.msg then off_tick ls m.ending else on_tick ls m.ending) }

put_out-is : (ls : List OpenLevel) (m : Mark) → put_out ls m ≡ mark_out ls m
put_out-is [] m = sym (at (has_ending m.msg))
  where
    at : (b : Bool) → (let a : Mark = record m { onset = m.onset; ending = (if b then m.ending else m.ending) } in a) ≡ m
    at true = refl
    at false = refl
put_out-is (l ∷ ls) m =
    put_out-is ls (mapped (placed Onset l.origin l.parts) (placed_end l.origin l.parts) m) ∙ at (has_ending m.msg)
  where
    at : (b : Bool)
        → (let a : Mark = record m {
          onset = on_tick ls (placed Onset l.origin l.parts m.onset);
          ending = (if b
              then off_tick ls (if b then placed_end l.origin l.parts m.ending else placed Onset l.origin l.parts m.ending)
              else on_tick ls (if b then placed_end l.origin l.parts m.ending else placed Onset l.origin l.parts m.ending));
        } in a)
        ≡ record m {
          onset = on_tick ls (placed Onset l.origin l.parts m.onset);
          ending = (if b
              then off_tick ls (placed_end l.origin l.parts m.ending)
              else on_tick ls (placed Onset l.origin l.parts m.ending));
        }
    at true = refl
    at false = refl

-- the tick of a position
pub position-tick : (w : Standing) → (ending_mark w).onset ≡ on_tick w.levels w.position
position-tick w = ap (λ (m : Mark). m.onset) (put_out-is w.levels (record {
  process = w.process;
  index = w.index;
  msg = None;
  onset = w.position;
  ending = w.position;
}))

-- the tick of a message that is no note-off
plain-tick : (ls : List OpenLevel) (j i x y : ℕ) (m : Msg) → has_ending (Some m) ≡ false
    → mark_time (put_out ls (record { process = j; index = i; msg = Some m; onset = x; ending = y })) ≡ on_tick ls x
plain-tick ls j i x y m plain =
    ap mark_time (put_out-is ls (record { process = j; index = i; msg = Some m; onset = x; ending = y })) ∙ rw plain refl

-- where a mark begins
onset-tick : (ls : List OpenLevel) (m : Mark) → (put_out ls m).onset ≡ on_tick ls m.onset
onset-tick ls m = ap (λ (k : Mark). k.onset) (put_out-is ls m)

-- ---- marks that are due

-- where the first of marks begins, and what follows them where there are none
abbrev pub time_from : List OpenLevel → ℕ → List Mark → ℕ
time_from ls high [] = high
time_from ls high (m ∷ ms) = (put_out ls m).onset

-- where they begin never falls, and is at most at what follows them
abbrev pub Rising : List OpenLevel → ℕ → List Mark → Type 0
Rising ls high [] = Unit {0}
Rising ls high (m ∷ ms) = ((put_out ls m).onset ≤ time_from ls high ms) × Rising ls high ms

-- the marks that are due in a state rise to its position
abbrev pub IsCalm : Standing → Type 0
IsCalm w = Rising w.levels (on_tick w.levels w.position) w.due

tick-time : (w : Standing) (ms : List Mark) → tick_from w ms ≡ time_from w.levels (on_tick w.levels w.position) ms
tick-time w [] = position-tick w
tick-time w (m ∷ ms) = refl

-- the tick of a state
pub tick-is : (w : Standing) → tick_of w ≡ time_from w.levels (on_tick w.levels w.position) w.due
tick-is w = tick-time w w.due

-- marks of one position rise
rising-marks : (ls : List OpenLevel) (high j i x y : ℕ) (ms : List Msg) → on_tick ls x ≤ high
    → Rising ls high (marks_of j i x y ms) × (on_tick ls x ≤ time_from ls high (marks_of j i x y ms))
rising-marks ls high j i x y [] below = (tt, below)
rising-marks ls high j i x y (m ∷ ms) below =
    let later = rising-marks ls high j (i + 1) x y ms below in
    let here = onset-tick ls (record { process = j; index = i; msg = Some m; onset = x; ending = y }) in
    ((omega (arith, here, later.1), later.0), omega (arith, here))

-- ---- operations

-- a state whose tick is no earlier, with marks that rise
pub record Later (w t : Standing) : Type 0 where
  pub tick : on_tick w.levels w.position ≤ time_from t.levels (on_tick t.levels t.position) t.due
  pub calm : IsCalm t

later-kept : (w t : Standing) → t.due ≡ [] → on_tick w.levels w.position ≤ on_tick t.levels t.position → Later w t
later-kept w t none below = record {
  tick = subst (λ (ms : List Mark). on_tick w.levels w.position ≤ time_from t.levels (on_tick t.levels t.position) ms) (sym none) below;
  calm = subst (Rising t.levels (on_tick t.levels t.position)) (sym none) tt;
}

later-same : (w t : Standing) → w.due ≡ [] → t.due ≡ w.due → t.levels ≡ w.levels → t.position ≡ w.position → Later w t
later-same w t none due levels position = later-kept w t (due ∙ none)
    (let here : on_tick w.levels w.position ≤ on_tick t.levels t.position =
    omega (arith, ap (λ (ls : List OpenLevel). on_tick ls t.position) levels, ap (on_tick w.levels) position) in here)

later-moved : (w t : Standing) (d : ℕ) → w.due ≡ [] → t.due ≡ w.due → t.levels ≡ w.levels → t.position ≡ w.position + d → Later w t
later-moved w t d none due levels position = later-kept w t (due ∙ none)
    (let here : on_tick w.levels w.position ≤ on_tick t.levels t.position =
    omega (
      arith,
      ap (λ (ls : List OpenLevel). on_tick ls t.position) levels,
      on_tick-mono w.levels w.position t.position (omega arith),
    ) in here)

later-loop : (n past : ℕ) (w t : Standing) → w.due ≡ [] → Kept w t → Later w (loop_opened n past t)
later-loop zero past w t none kept = later-same w (loop_opened zero past t) none kept.due kept.levels kept.position
later-loop (suc n) past w t none kept = later-same w (loop_opened (suc n) past t) none kept.due kept.levels kept.position

later-round : (back : ℕ) (w : Standing) (fs : List OpenFrame) → w.due ≡ [] → Later w (round_over back w fs)
later-round back w [] none = later-same w (round_over back w []) none refl refl refl
later-round back w (cycling es c ∷ fs) none = later-same w (round_over back w (cycling es c ∷ fs)) none refl refl refl
later-round back w (counting i zero b ∷ fs) none = later-same w (round_over back w (counting i zero b ∷ fs)) none refl refl refl
later-round back w (counting i (suc n) b ∷ fs) none = later-same w (round_over back w (counting i (suc n) b ∷ fs)) none refl refl refl

later-closed : (w : Standing) (fs : List OpenFrame) → w.due ≡ [] → Later w (frame_closed w fs)
later-closed w [] none = later-same w (frame_closed w []) none refl refl refl
later-closed w (f ∷ fs) none = later-same w (frame_closed w (f ∷ fs)) none refl refl refl

later-level : (w : Standing) (ls : List OpenLevel) → w.due ≡ [] → w.levels ≡ ls → Later w (level_closed w ls)
later-level w [] none is = later-same w (level_closed w []) none refl refl refl
later-level w (l ∷ ls) none is =
    later-kept w (level_closed w (l ∷ ls)) none
    (let here : on_tick w.levels w.position ≤ on_tick ls (placed Onset l.origin l.parts w.position) =
    omega (arith, ap (λ (k : List OpenLevel). on_tick k w.position) is) in here)

later-note : (pitches : List MessageNumber) (span : SpanLength) (ch : ℕ) (gate loud : Turn) (scope : List Slot) (w : Standing)
    → Later w (left_by (done (note pitches span ch gate loud scope) w) w)
later-note pitches span ch gate loud scope w =
    let keys = pitches_drawn pitches scope w in
    let lasts = duration_drawn span scope keys.after in
    let part = turn_drawn gate lasts.after in
    let velocity = turn_drawn loud part.after in
    let kept = kept-then w keys.after velocity.after (pitches-kept pitches scope w)
    (kept-then keys.after lasts.after velocity.after (duration-kept span scope keys.after)
    (kept-then lasts.after part.after velocity.after (turn-kept gate lasts.after) (turn-kept loud part.after))) in
    let ls = velocity.after.levels in
    let x = w.position in
    let high = on_tick ls (w.position + lasts.value) in
    let on : on_tick ls x ≤ high = on_tick-mono ls x (w.position + lasts.value) (omega arith) in
    let rising = rising-marks ls high w.process w.index x (note_end w.position lasts.value part.value)
    (map (λ key. On ch key velocity.value) keys.value ++ map (Off ch) keys.value) on in
    record {
      tick = (let same = ap (λ (k : List OpenLevel). on_tick k x) kept.levels in omega (arith, same, rising.1));
      calm = rising.0;
    }

-- an operation leaves a state whose tick is no earlier
pub later-done : (a : Action) (w : Standing) → w.due ≡ [] → Later w (left_by (done a w) w)
later-done (note pitches span ch gate loud scope) w none = later-note pitches span ch gate loud scope w
later-done (rest span scope) w none =
    let kept = duration-kept span scope w in
    later-moved w (left_by (done (rest span scope) w) w) (duration_drawn span scope w).value none kept.due kept.levels refl
later-done (send pt ch amount scope) w none =
    let kept = number-kept amount scope w in
    later-same w (left_by (done (send pt ch amount scope) w) w) none kept.due kept.levels kept.position
later-done (assign r e scope) w none = later-same w (left_by (done (assign r e scope) w) w) none refl refl refl
later-done (choose e scope past) w none = later-same w (left_by (done (choose e scope past) w) w) none refl refl refl
later-done (jump to) w none = later-same w (left_by (done (jump to) w) w) none refl refl refl
later-done (loop count scope past) w none =
    later-loop (repeats_drawn count scope w).value past w (repeats_drawn count scope w).after none (repeats-kept count scope w)
later-done (again back) w none = later-round back w w.frames none
later-done (begin entries) w none = later-same w (left_by (done (begin entries) w) w) none refl refl refl
later-done close w none = later-closed w w.frames none
later-done (enter v parts) w none =
    later-kept w (left_by (done (enter v parts) w) w) none
    (on_tick-mono w.levels w.position (placed Onset w.position parts 0) (omega arith))
later-done leave w none = later-level w w.levels none refl

-- ---- steps

-- a step leaves a state that is calm and no earlier; what it gives is at the tick before it
pub record Ticks (w : Standing) (x : Stepped) : Type 0 where
  pub later : tick_of w ≤ tick_of (left_by x w)
  pub calm : IsCalm (left_by x w)
  pub event : (e : TimedMessage) → step_event x ≡ Some e → is_note_off e.msg ≡ false → tick_of w ≡ e.time
  pub late : (e : TimedMessage) → step_event x ≡ Some e → tick_of w ≤ e.time

none_some : (e : TimedMessage) → None ≡ Some e → ⊥
none_some e bad = cc

some_is : (a b : TimedMessage) → Some a ≡ Some b → a ≡ b
some_is a b same = cc

pub event-time : (m : Mark) (e : TimedMessage) → mark_event m ≡ Some e → mark_time m ≡ e.time
event-time m e is = at m.msg refl
  where
    at : (o : Option Msg) → m.msg ≡ o → mark_time m ≡ e.time
    at None none =
        absurd (none_some e
        (sym (ap (option_map (λ x. record { time = mark_time m; process = m.process; index = m.index; msg = x })) none) ∙ is))
    at (Some x) some =
        ap (λ (e' : TimedMessage). e'.time)
        (some_is _ e (sym (ap (option_map (λ y. record { time = mark_time m; process = m.process; index = m.index; msg = y })) some) ∙ is))

event-msg : (m : Mark) (e : TimedMessage) → mark_event m ≡ Some e → m.msg ≡ Some e.msg
event-msg m e is = at m.msg refl
  where
    at : (o : Option Msg) → m.msg ≡ o → m.msg ≡ Some e.msg
    at None none =
        absurd (none_some e
        (sym (ap (option_map (λ x. record { time = mark_time m; process = m.process; index = m.index; msg = x })) none) ∙ is))
    at (Some x) some =
        some ∙ ap (λ (e' : TimedMessage). Some e'.msg)
        (some_is _ e (sym (ap (option_map (λ y. record { time = mark_time m; process = m.process; index = m.index; msg = y })) some) ∙ is))

-- no mark sounds before it begins
pub mark-late : (m : Mark) → m.onset ≤ mark_time m
mark-late m = at (has_ending m.msg)
  where
    at : (b : Bool) → m.onset ≤ (if b then max m.onset m.ending else m.onset)
    at true = omega arith
    at false = omega arith

-- and what is no note-off sounds where it begins
pub mark-plain : (m : Mark) (e : TimedMessage) → mark_event m ≡ Some e → is_note_off e.msg ≡ false → m.onset ≡ e.time
mark-plain m e is plain =
    sym (ap (λ (b : Bool). if b then max m.onset m.ending else m.onset) (ap has_ending (event-msg m e is) ∙ plain)) ∙ event-time m e is

ticks-later : (w t : Standing) → Later w t → w.due ≡ [] → tick_of w ≤ tick_of t
ticks-later w t later none =
    omega (arith, tick-is w, tick-is t, later.tick, ap (time_from w.levels (on_tick w.levels w.position)) none)

-- the event of an operation is at the tick before it
done-event : (a : Action) (w : Standing) (e : TimedMessage) → step_event (done a w) ≡ Some e → on_tick w.levels w.position ≡ e.time
done-event (note pitches span ch gate loud scope) w e told = absurd (none_some e told)
done-event (rest span scope) w e told = absurd (none_some e told)
done-event (send pt ch amount scope) w e told =
    let v = (number_drawn amount scope w).value in
    sym (plain-tick w.levels w.process w.index w.position w.position (point_msg pt ch v) (point-plain pt ch v))
    ∙ event-time (put_out w.levels (record {
      process = w.process;
      index = w.index;
      msg = Some (point_msg pt ch v);
      onset = w.position;
      ending = w.position;
    })) e told
done-event (assign r x scope) w e told = absurd (none_some e told)
done-event (choose x scope past) w e told = absurd (none_some e told)
done-event (jump to) w e told = absurd (none_some e told)
done-event (loop count scope past) w e told = absurd (none_some e told)
done-event (again back) w e told = absurd (none_some e told)
done-event (begin entries) w e told = absurd (none_some e told)
done-event close w e told = absurd (none_some e told)
done-event (enter v parts) w e told = absurd (none_some e told)
done-event leave w e told = absurd (none_some e told)

-- a step of an operation
pub ticks-done : (a : Action) (w : Standing) → w.due ≡ [] → Ticks w (done a w)
ticks-done a w none =
    let later = later-done a w none in
    let here : tick_of w ≡ on_tick w.levels w.position = tick-is w ∙ ap (time_from w.levels (on_tick w.levels w.position)) none in
    record {
      later = ticks-later w (left_by (done a w) w) later none;
      calm = later.calm;
      event = λ e told plain. here ∙ done-event a w e told;
      late = λ e told. (let at = done-event a w e told in omega (arith, here));
    }

-- a step that gives the next mark
pub ticks-due : (w : Standing) (m : Mark) (ms : List Mark) → IsCalm w → w.due ≡ m ∷ ms
    → Ticks w (sounding (put_out w.levels m) (record w { due = ms }))
ticks-due w m ms calm due =
    let split : Rising w.levels (on_tick w.levels w.position) (m ∷ ms) = subst (Rising w.levels (on_tick w.levels w.position)) due calm in
    let first : tick_of w ≡ (put_out w.levels m).onset = tick-is w ∙ ap (time_from w.levels (on_tick w.levels w.position)) due in
    record {
      later = omega (arith, first, split.0, tick-is (record w { due = ms }));
      calm = split.1;
      event = λ e told plain. first ∙ mark-plain (put_out w.levels m) e told plain;
      late = λ e told.
          (let after = mark-late (put_out w.levels m) in let at = event-time (put_out w.levels m) e told in omega (arith, first));
    }
