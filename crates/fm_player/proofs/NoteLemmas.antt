-- What a note does to a player in a state.
use Rattle.std.proofs.Common.{◌≡◌, refl, sym, ◌∙◌, ap, subst, arith, ℕ, pos, suc, ◌+◌, ◌-◌, ◌*◌, ◌<◌, ◌≤◌, List, [], ◌∷◌, ◌++◌, map, length, max, All, true, ◌&&◌, nat_lt, Option, Some, length-append}
use Rattle.std.proofs.Math.Nat.{mul-le-mul_left}
use Rattle.std.specs.List.{list_all}
use Rattle.std.proofs.lemmas.List.{map-append, length-map}
use Rattle.fm_warp.specs.declared.part.Part.{Part}
use Rattle.fm_warp.specs.declared.side.Side.TheVariants.{Onset}
use Rattle.fm_msg.specs.declared.msg.Msg.{Msg}
use Rattle.fm_msg.specs.declared.msg.Msg.TheVariants.{On, Off}
use Rattle.fm_msg.specs.declared.msg.TheConstants.{CHANNELS, DATA_VALUES}
use Rattle.fm_msg.specs.Event.{TimedMessage}
use Rattle.fm_line.specs.Marks.{Mark}
use Rattle.fm_pattern.specs.NoteEnd.{note_end}
use Rattle.fm_nest.specs.declared.frame.Frame.{Frame}
use Rattle.fm_nest.specs.Nesting.{far_composed, composed, frames_of}
use Rattle.fm_program.specs.declared.op.Op.{Op}
use Rattle.fm_program.specs.declared.op.Op.TheVariants as op
use Rattle.fm_program.specs.declared.op.Span.{Span}
use Rattle.fm_program.specs.declared.op.Turn.{Turn}
use Rattle.fm_program.specs.declared.op.TheConstants.{MAX_PERCENT, MAX_PITCHES, MAX_LENGTH}
use Rattle.fm_program.specs.Parts.{PlanParts, StockParts}
use Rattle.fm_program.specs.Action.{Action, action_of, note, amount_of, chord_at, duration_of, scope_at}
use Rattle.fm_program.specs.State.{OpenLevel, Standing}
use Rattle.fm_program.specs.Needs.{is_open, slot_open, duration_open, turn_open}
use Rattle.fm_program.specs.Run.{done, marks_of}
use Rattle.fm_program.specs.Fit.{draw_fits, loops_of, op_fits, span_fits, turn_fits}
use Rattle.fm_player.specs.declared.draws.Draws.{Draws}
use Rattle.fm_player.specs.declared.draws.Note.{Note}
use Rattle.fm_player.specs.declared.pending.Pending.{Pending}
use Rattle.fm_player.specs.declared.player.Player.{Player}
use Rattle.fm_player.specs.declared.timeline.Timeline.{Timeline}
use Rattle.fm_player.specs.Drawing.{IsFrame, NoteDrawn, note_keys, note_lasts, note_part, note_velocity}
use Rattle.fm_player.specs.Timing.{IsInTime, IsTimed, levels_inside}
use Rattle.fm_player.specs.Sounding.{IsPending, event_of, events_at, pending_events}
use Rattle.fm_player.specs.Player.{CanDo, Does, Stands, left_by}
use Rattle.fm_player.proofs.StockLemmas.{below_of, both}
use Rattle.fm_player.proofs.DrawLemmas.{Kept, kept-then, pitches-kept, duration-kept, turn-kept, turn-most, turn_open-pitches, turn_open-duration, turn_open-turn, duration-most, duration_open-pitches}
use Rattle.fm_player.proofs.OperationLemmas.{DrawsStand-same, few-held, later-fits, off-event, plain-event}

-- the operation of a note
abbrev pub noted : PlanParts → ℕ → Span → ℕ → Turn → Turn → ℕ → Action
noted p chord span ch gate loud scope =
    note (map (amount_of p.stock) (chord_at p.stock chord)) (duration_of p.stock span) ch gate loud (scope_at p.stock scope)

-- what it draws leaves all else as it was
pub note-kept : (t : StockParts) (chord : ℕ) (span : Span) (gate loud : Turn) (scope : ℕ) (w : Standing)
    → Kept w (note_velocity t chord span gate loud scope w).after
note-kept t chord span gate loud scope w =
    kept-then w (note_keys t chord scope w).after _ (pitches-kept (map (amount_of t) (chord_at t chord)) (scope_at t scope) w)
    (kept-then (note_keys t chord scope w).after (note_lasts t chord span scope w).after _
    (duration-kept (duration_of t span) (scope_at t scope) (note_keys t chord scope w).after)
    (kept-then (note_lasts t chord span scope w).after (note_part t chord span gate scope w).after _
    (turn-kept gate (note_lasts t chord span scope w).after)
    (turn-kept loud (note_part t chord span gate scope w).after)))

-- ---- bounds

-- the lists that the articulation and the velocity are taken of are open
note-opened : (p : PlanParts) (w : Standing) (chord : ℕ) (span : Span) (ch : ℕ) (gate loud : Turn) (scope : ℕ)
    → is_open (noted p chord span ch gate loud scope) w ≡ true
    → (turn_open 0 MAX_PERCENT gate w.frames ≡ true) × (turn_open 1 (DATA_VALUES - 1) loud w.frames ≡ true)
note-opened p w chord span ch gate loud scope is =
    let a = both (list_all (slot_open w.frames) (scope_at p.stock scope) && duration_open (duration_of p.stock span) w.frames
    && turn_open 0 MAX_PERCENT gate w.frames) (turn_open 1 (DATA_VALUES - 1) loud w.frames) is in
    let b = both (list_all (slot_open w.frames) (scope_at p.stock scope) && duration_open (duration_of p.stock span) w.frames)
    (turn_open 0 MAX_PERCENT gate w.frames) a.0 in
    (b.1, a.1)

pub note-percent : (p : PlanParts) (s : Player) (w : Standing) (chord : ℕ) (span : Span) (ch : ℕ) (gate loud : Turn) (scope : ℕ)
    (u : StockParts) (d : Draws) (n : Note) → CanDo p s w (noted p chord span ch gate loud scope) → u ≡ p.stock
    → NoteDrawn u s.draws d chord span gate loud scope n → turn_fits 0 MAX_PERCENT gate ≡ true → n.percent ≤ MAX_PERCENT
note-percent p s w chord span ch gate loud scope u d n can ut drawn fits =
    let here = subst (λ (t : StockParts). NoteDrawn t s.draws d chord span gate loud scope n) ut drawn in
    let opened = note-opened p w chord span ch gate loud scope can.opened in
    omega (
      arith,
      here.percent w can.stands.draws,
      turn-most 0 MAX_PERCENT gate (note_lasts p.stock chord span scope w).after fits
          (turn_open-duration 0 MAX_PERCENT gate (duration_of p.stock span) (scope_at p.stock scope) (note_keys p.stock chord scope w).after
          ∙ turn_open-pitches 0 MAX_PERCENT gate (map (amount_of p.stock) (chord_at p.stock chord)) (scope_at p.stock scope) w ∙ opened.0),
    )

-- a duration is at most the longest
pub note-short : (p : PlanParts) (s : Player) (w : Standing) (chord : ℕ) (span : Span) (ch : ℕ) (gate loud : Turn) (scope : ℕ)
    (u : StockParts) (d : Draws) (n : Note) → CanDo p s w (noted p chord span ch gate loud scope) → u ≡ p.stock
    → NoteDrawn u s.draws d chord span gate loud scope n → span_fits p.stock (loops_of p.stock scope) span ≡ true → n.ticks ≤ MAX_LENGTH
note-short p s w chord span ch gate loud scope u d n can ut drawn fits =
    let here = subst (λ (t : StockParts). NoteDrawn t s.draws d chord span gate loud scope n) ut drawn in
    let a = both (list_all (slot_open w.frames) (scope_at p.stock scope) && duration_open (duration_of p.stock span) w.frames
    && turn_open 0 MAX_PERCENT gate w.frames) (turn_open 1 (DATA_VALUES - 1) loud w.frames) can.opened in
    let b = both (list_all (slot_open w.frames) (scope_at p.stock scope) && duration_open (duration_of p.stock span) w.frames)
    (turn_open 0 MAX_PERCENT gate w.frames) a.0 in
    let c = both (list_all (slot_open w.frames) (scope_at p.stock scope)) (duration_open (duration_of p.stock span) w.frames) b.0 in
    omega (
      arith,
      here.ticks w can.stands.draws,
      duration-most p.stock (loops_of p.stock scope) span (scope_at p.stock scope) (note_keys p.stock chord scope w).after fits
          (duration_open-pitches (duration_of p.stock span) (map (amount_of p.stock) (chord_at p.stock chord)) (scope_at p.stock scope) w
          ∙ c.1),
    )

pub note-loud : (p : PlanParts) (s : Player) (w : Standing) (chord : ℕ) (span : Span) (ch : ℕ) (gate loud : Turn) (scope : ℕ)
    (u : StockParts) (d : Draws) (n : Note) → CanDo p s w (noted p chord span ch gate loud scope) → u ≡ p.stock
    → NoteDrawn u s.draws d chord span gate loud scope n → turn_fits 1 (DATA_VALUES - 1) loud ≡ true → n.velocity ≤ DATA_VALUES - 1
note-loud p s w chord span ch gate loud scope u d n can ut drawn fits =
    let here = subst (λ (t : StockParts). NoteDrawn t s.draws d chord span gate loud scope n) ut drawn in
    let opened = note-opened p w chord span ch gate loud scope can.opened in
    omega (
      arith,
      here.velocity w can.stands.draws,
      turn-most 1 (DATA_VALUES - 1) loud (note_part p.stock chord span gate scope w).after fits
          (turn_open-turn 1 (DATA_VALUES - 1) loud gate (note_lasts p.stock chord span scope w).after
          ∙ turn_open-duration 1 (DATA_VALUES - 1) loud (duration_of p.stock span) (scope_at p.stock scope)
          (note_keys p.stock chord scope w).after
          ∙ turn_open-pitches 1 (DATA_VALUES - 1) loud (map (amount_of p.stock) (chord_at p.stock chord))
          (scope_at p.stock scope) w ∙ opened.1),
    )

-- the end of the duration lies in time
pub note-fits : (p : PlanParts) (s : Player) (w : Standing) (chord : ℕ) (span : Span) (ch : ℕ) (gate loud : Turn) (scope : ℕ)
    (u : StockParts) (d : Draws) (n : Note) → CanDo p s w (noted p chord span ch gate loud scope) → u ≡ p.stock
    → NoteDrawn u s.draws d chord span gate loud scope n → IsInTime p.stock.warps (frames_of s.time.nest) (s.time.position + n.ticks)
note-fits p s w chord span ch gate loud scope u d n can ut drawn =
    let here = subst (λ (t : StockParts). NoteDrawn t s.draws d chord span gate loud scope n) ut drawn in
    later-fits p s w (left_by (done (noted p chord span ch gate loud scope) w) w) (s.time.position + n.ticks) can.ready
    can.stands can.within
    (note-kept p.stock chord span gate loud scope w).levels
    (let is : s.time.position + n.ticks ≡ w.position + (note_lasts p.stock chord span scope w).value =
    omega (arith, can.stands.time.position, here.ticks w can.stands.draws) in is)

-- a note ends within its duration
pub note-behind : (on d g : ℕ) → g ≤ 400 → note_end on d g ≤ on + 4 * d
note-behind on d g most = omega (arith, mul-le-mul_left d most)

-- ---- its marks

marks_of-append : (j i x y : ℕ) (ms ns : List Msg) → marks_of j i x y (ms ++ ns) ≡ marks_of j i x y ms ++ marks_of j (i + length ms) x y ns
marks_of-append j i x y [] ns = ap (λ (k : ℕ). marks_of j k x y ns) (let is : i ≡ i + 0 = omega arith in is)
marks_of-append j i x y (m ∷ ms) ns =
    ap (λ (rest : List Mark). record { process = j; index = i; msg = Some m; onset = x; ending = y } ∷ rest)
    (marks_of-append j (i + 1) x y ms ns
    ∙ ap (λ (k : ℕ). marks_of j (i + 1) x y ms ++ marks_of j k x y ns)
    (let is : i + 1 + length ms ≡ i + suc (length ms) = omega arith in is))

-- the events of marks that all sound at one tick
events-marks : (ls : List OpenLevel) (f : ℕ → Msg) (j i x y t : ℕ) (keys : List ℕ)
    → ((k i' : ℕ) → event_of ls (record { process = j; index = i'; msg = Some (f k); onset = x; ending = y })
    ≡ Some (record { time = t; process = j; index = i'; msg = f k }))
    → map (event_of ls) (marks_of j i x y (map f keys)) ≡ map (λ e. Some e) (events_at j i t (map f keys))
events-marks ls f j i x y t [] sounds = refl
events-marks ls f j i x y t (k ∷ ks) sounds =
    ap (λ (e : Option TimedMessage). e ∷ map (event_of ls) (marks_of j (i + 1) x y (map f ks))) (sounds k i)
    ∙ ap (λ (es : List (Option TimedMessage)). Some (record { time = t; process = j; index = i; msg = f k }) ∷ es)
    (events-marks ls f j (i + 1) x y t ks sounds)

-- the marks of a note are its pending events
pub note-sounds : (warps : List (List Part)) (fs : List Frame) (ls : List OpenLevel) (j i x y ch vel on off : ℕ) (keys : List ℕ)
    → levels_inside warps fs [] ≡ ls → on ≡ composed Onset warps fs x → off ≡ max on (far_composed warps fs y)
    → map (event_of ls) (marks_of j i x y (map (λ key. On ch key vel) keys ++ map (Off ch) keys))
    ≡ map (λ e. Some e) (events_at j i on (map (λ key. On ch key vel) keys) ++ events_at j (i + length keys) off (map (Off ch) keys))
note-sounds warps fs ls j i x y ch vel on off keys levels ison isoff =
    let ons = map (λ key. On ch key vel) keys in
    let offs = map (Off ch) keys in
    ap (map (event_of ls)) (marks_of-append j i x y ons offs)
    ∙ map-append (event_of ls) (marks_of j i x y ons) (marks_of j (i + length ons) x y offs)
    ∙ ap (λ (es : List (Option TimedMessage)). es ++ map (event_of ls) (marks_of j (i + length ons) x y offs))
    (events-marks ls (λ key. On ch key vel) j i x y on keys
    (λ k i'. plain-event warps fs ls j i' x y (On ch k vel) refl levels
    ∙ ap (λ (t : ℕ). Some (let e : TimedMessage = record { time = t; process = j; index = i'; msg = On ch k vel } in e)) (sym ison)))
    ∙ ap (λ (n : ℕ). map (λ e. Some e) (events_at j i on ons) ++ map (event_of ls) (marks_of j n x y offs))
    (let is : i + length ons ≡ i + length keys = omega (arith, length-map keys (λ key. On ch key vel)) in is)
    ∙ ap (λ (es : List (Option TimedMessage)). map (λ e. Some e) (events_at j i on ons) ++ es)
    (events-marks ls (Off ch) j (i + length keys) x y off keys
    (λ k i'. off-event warps fs ls j i' x y ch k levels
    ∙ ap (λ (t : ℕ). Some (let e : TimedMessage = record { time = t; process = j; index = i'; msg = Off ch k } in e))
    (ap (λ (o : ℕ). max o (far_composed warps fs y)) (sym ison) ∙ sym isoff)))
    ∙ sym (map-append (λ e. Some e) (events_at j i on ons) (events_at j (i + length keys) off offs))

-- all its events, by what they depend on
abbrev sounded : (ch on off j i vel : ℕ) → List ℕ → List TimedMessage
sounded ch on off j i vel keys =
    events_at j i on (map (λ key. On ch key vel) keys) ++ events_at j (i + length keys) off (map (Off ch) keys)

sounded-same : (ch on off j j' i i' vel vel' : ℕ) (keys keys' : List ℕ) → j ≡ j' → i ≡ i' → vel ≡ vel' → keys ≡ keys'
    → sounded ch on off j i vel keys ≡ sounded ch on off j' i' vel' keys'
sounded-same ch on off j j' i i' vel vel' keys keys' ej ei ev ek =
    ap (λ (x : ℕ). sounded ch on off x i vel keys) ej
    ∙ ap (λ (x : ℕ). sounded ch on off j' x vel keys) ei
    ∙ ap (λ (x : ℕ). sounded ch on off j' i' x keys) ev
    ∙ ap (λ (x : List ℕ). sounded ch on off j' i' vel' x) ek

-- a note is drawn
pub note-does : (p : PlanParts) (s : Player) (w : Standing) (chord : ℕ) (span : Span) (ch : ℕ) (gate loud : Turn) (scope : ℕ)
    (u : StockParts) (d : Draws) (n : Note) (time : Timeline) (on off count : ℕ) (pending : Pending)
    → CanDo p s w (noted p chord span ch gate loud scope) → u ≡ p.stock → NoteDrawn u s.draws d chord span gate loud scope n
    → All (IsFrame u) d.frames.items → IsTimed p.stock.warps time → frames_of time.nest ≡ frames_of s.time.nest
    → time.position ≡ s.time.position + n.ticks → on ≡ s.time.tick
    → off ≡ max on (far_composed p.stock.warps (frames_of s.time.nest) (note_end s.time.position n.ticks n.percent))
    → IsPending pending
    → pending ≡ record { keys = n.keys; channel = ch; velocity = n.velocity; onset = on; ending = off; first = s.index; given = 0 }
    → count ≡ length n.keys.items → length n.keys.items ≤ MAX_PITCHES
    → Does p s (record s { operation = s.operation + 1; index = s.index + 2 * count; draws = d; time = time; note = pending }) w
    (noted p chord span ch gate loud scope)
note-does p s w chord span ch gate loud scope u d n time on off count pending can ut drawn frames timed levels position ison isoff ready
    is counted few =
    let t = p.stock in
    let here = subst (λ (x : StockParts). NoteDrawn x s.draws d chord span gate loud scope n) ut drawn in
    let keys = note_keys t chord scope w in
    let lasts = note_lasts t chord span scope w in
    let part = note_part t chord span gate scope w in
    let velocity = note_velocity t chord span gate loud scope w in
    let kept = note-kept t chord span gate loud scope w in
    let same_keys : keys.value ≡ n.keys.items = sym (here.keys w can.stands.draws) in
    let same_velocity : velocity.value ≡ n.velocity = sym (here.velocity w can.stands.draws) in
    let next = left_by (done (noted p chord span ch gate loud scope) w) w in
    let ons = map (λ key. On ch key velocity.value) keys.value in
    let offs = map (Off ch) keys.value in
    let numbered : length (ons ++ offs) ≡ 2 * count =
    omega (
      arith,
      length-append ons offs,
      length-map keys.value (λ key. On ch key velocity.value),
      length-map keys.value (Off ch),
      ap length same_keys,
      counted,
    ) in
    let end : note_end w.position lasts.value part.value ≡ note_end s.time.position n.ticks n.percent =
    ap (λ (x : ℕ). note_end x lasts.value part.value) (sym can.stands.time.position)
    ∙ ap (λ (x : ℕ). note_end s.time.position x part.value) (sym (here.ticks w can.stands.draws))
    ∙ ap (λ (x : ℕ). note_end s.time.position n.ticks x) (sym (here.percent w can.stands.draws)) in
    let starts : on ≡ composed Onset t.warps (frames_of s.time.nest) w.position =
    ison ∙ can.ready.time.tick ∙ ap (composed Onset t.warps (frames_of s.time.nest)) can.stands.time.position in
    let ends : off ≡ max on (far_composed t.warps (frames_of s.time.nest) (note_end w.position lasts.value part.value)) =
    isoff ∙ ap (λ (y : ℕ). max on (far_composed t.warps (frames_of s.time.nest) y)) (sym end) in
    let sounds = note-sounds t.warps (frames_of s.time.nest) velocity.after.levels w.process w.index w.position
    (note_end w.position lasts.value part.value) ch velocity.value on off keys.value
    (can.stands.time.levels ∙ sym kept.levels) starts ends in
    let stands : Stands p (record s { operation = s.operation + 1; index = s.index + 2 * count; draws = d; time = time; note = pending })
    next =
    record {
      process = kept.process ∙ can.stands.process;
      operation = ap (λ k. k + 1) can.stands.operation;
      index = (let same : s.index + 2 * count ≡ w.index + length (ons ++ offs) = omega (arith, can.stands.index, numbered) in same);
      draws = DrawsStand-same p d velocity.after next (here.after w can.stands.draws) refl refl refl;
      time = record {
        position = (let same : time.position ≡ w.position + lasts.value =
            omega (arith, position, can.stands.time.position, here.ticks w can.stands.draws) in same);
        levels = ap (λ (fs : List Frame). levels_inside t.warps fs []) levels ∙ can.stands.time.levels ∙ sym kept.levels;
      };
      note = sounds
          ∙ ap (map (λ e. Some e))
          (sounded-same ch on off w.process s.process w.index s.index velocity.value n.velocity keys.value n.keys.items
          can.stands.process (sym can.stands.index) same_velocity same_keys
          ∙ ap (pending_events s.process) (sym is));
    } in
    record {
      process = refl;
      made = refl;
      ready = record {
        frames = subst (λ (x : StockParts). All (IsFrame x) d.frames.items) ut frames;
        time = timed;
        note = ready;
        few = few-held p (record s { operation = s.operation + 1; index = s.index + 2 * count; draws = d; time = time; note = pending })
            next
            stands can.within;
      };
      stands = stands;
      index = omega (arith, counted, few);
    }

-- what a note's operation fits
pub play-can : (p : PlanParts) (s : Player) (w : Standing) (size : ℕ) (o : Op) (chord : ℕ) (span : Span) (ch : ℕ)
    (gate loud : Turn) (scope : ℕ)
    → CanDo p s w (action_of p.stock o) → op_fits p.stock size s.operation o ≡ true → o ≡ op.Note chord span ch gate loud scope
    → CanDo p s w (noted p chord span ch gate loud scope)
    × ((chord < length p.stock.chords)
    × ((scope < length p.stock.scopes)
    × ((list_all (draw_fits p.stock (loops_of p.stock scope) (pos 0) (pos (DATA_VALUES - 1))) (chord_at p.stock chord) ≡ true)
    × ((span_fits p.stock (loops_of p.stock scope) span ≡ true)
    × ((ch < CHANNELS)
    × ((turn_fits 0 MAX_PERCENT gate ≡ true)
    × (turn_fits 1 (DATA_VALUES - 1) loud ≡ true)))))))
play-can p s w size o chord span ch gate loud scope can fits is =
    let t = p.stock in
    let c1 = nat_lt chord (length t.chords) in
    let c2 = nat_lt scope (length t.scopes) in
    let c3 = list_all (draw_fits t (loops_of t scope) (pos 0) (pos (DATA_VALUES - 1))) (chord_at t chord) in
    let c4 = span_fits t (loops_of t scope) span in
    let c5 = nat_lt ch CHANNELS in
    let c6 = turn_fits 0 MAX_PERCENT gate in
    let here = subst (λ (x : Op). op_fits t size s.operation x ≡ true) is fits in
    let a = both (c1 && c2 && c3 && c4 && c5 && c6) (turn_fits 1 (DATA_VALUES - 1) loud) here in
    let b = both (c1 && c2 && c3 && c4 && c5) c6 a.0 in
    let c = both (c1 && c2 && c3 && c4) c5 b.0 in
    let d = both (c1 && c2 && c3) c4 c.0 in
    let e = both (c1 && c2) c3 d.0 in
    let f = both c1 c2 e.0 in (
      subst (λ (x : Op). CanDo p s w (action_of t x)) is can,
      (below_of chord _ f.0, (below_of scope _ f.1, (e.1, (d.1, (below_of ch CHANNELS c.1, (b.1, a.1)))))),
    )
