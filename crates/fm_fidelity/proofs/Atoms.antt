-- The runs of notes, rests, points and registers.
use Rattle.std.proofs.Common.{◌≡◌, ℕ, ◌+◌, ◌-◌, ◌*◌, ◌≤◌, true, List, [], ◌∷◌, ◌++◌, map, length, refl, sym, ap, ap₂, ◌∙◌, subst, arith, length-append, ℤ, pos}
use Rattle.std.specs.Prelude.{Some, slice_get, slice_set, ◌&&◌, ◌+ℤ◌}
use Rattle.std.specs.List.{list_all}
use Rattle.std.proofs.lemmas.Bool.{and_from}
use Rattle.std.proofs.lemmas.List.{length-map}
use Rattle.fm_msg.specs.declared.msg.Msg.{Msg}
use Rattle.fm_msg.specs.declared.msg.Msg.TheVariants.{On, Off, Control, Program, Bend}
use Rattle.fm_msg.specs.declared.msg.TheConstants.{DATA_VALUES}
use Rattle.fm_pattern.specs.NoteEnd.{note_end}
use Rattle.fm_line.specs.Marks.{Mark}
use Rattle.fm_nest.specs.declared.nest.TheConstants.{MAX_LEVELS}
use Rattle.fm_program.specs.declared.op.TheConstants.{MAX_FRAMES, MAX_PERCENT}
use Rattle.fm_program.specs.declared.op.Slot.{Slot}
use Rattle.fm_program.specs.declared.op.Draw.{Draw}
use Rattle.fm_program.specs.declared.op.Turn.{Turn}
use Rattle.fm_program.specs.declared.op.Point.{Point}
use Rattle.fm_program.specs.declared.op.Point.TheVariants as point
use Rattle.fm_program.specs.declared.op.Op.TheVariants as op
use Rattle.fm_program.specs.Action.{SpanLength, Action, note, rest, send, assign, amount_of, duration_of, action_of}
use Rattle.fm_program.specs.Needs.{levels_hold, slot_open, duration_open, turn_open}
use Rattle.fm_program.specs.State.{OpenLevel, Standing, Draught, draught, duration_drawn, turn_drawn}
use Rattle.fm_program.specs.Run.{Stepped, silent, sounding, put_out, marks_of, point_msg}
use Rattle.fm_meaning.specs.Rules.{usual_gate, usual_velocity, most_data, most_bend, bend_centre}
use Rattle.fm_meaning.specs.Resolved.{articulation, loudness}
use Rattle.fm_meaning.specs.Resolved as meaning
use Rattle.fm_meaning.specs.State.{Around, Now, taken, amount_drawn, keys_drawn, span_drawn}
use Rattle.fm_meaning.specs.Played.{Made, mark_at, note_plays, point_message, plays}
use Rattle.fm_meaning.specs.Places.{Depths}
use Rattle.fm_expansion.specs.Outline.{Tables, stock_with, expr_in, chord_in, Lasting, source_of, length_of, kind_of}
use Rattle.fm_expansion.specs.Homes.{Home, turn_for, span_for, slots_of, Inside}
use Rattle.fm_fidelity.proofs.Plain.{heard}
use Rattle.fm_fidelity.proofs.Running.{Runs, one_silent, one_sounding, after, become, step_silent, step_sounding, due_runs}
use Rattle.fm_fidelity.proofs.Keeping.{amount_after, keys_after, span_after, span_kept, moved_kept, note_ons, note_offs, note_after}
use Rattle.fm_expansion.proofs.Frames.{Counter, frames_held, Held, held_length, held_alike, slots_give, slots_open, turns}
use Rattle.fm_fidelity.proofs.Drawing.{at, nearest_is, expr_is, number_is, pitches_are, turn_gives, span_is, span_opened}
use Rattle.fm_fidelity.proofs.Rising.{begun_position}
use Rattle.fm_fidelity.proofs.Sounding.{marks_length, note_heard, keys_count}
use Rattle.fm_expansion.proofs.Settings.{Setting, holds_by}

-- what is open round a statement, for its meaning
abbrev pub around : (seed : ℕ) → Inside → Around
around seed i = record { seed = seed; channel = i.channel }

-- from an operation of a program to another, so many steps play this
abbrev pub Reaches : List Action → List Home → List Counter → List OpenLevel → ℕ → Now → ℕ → Made → ℕ → Type 0
Reaches code hs cs ls operation n steps m end =
    Runs code (at operation n ls (frames_held hs cs n.blocks)) steps (heard ls m.marks)
    (at end m.after ls (frames_held hs cs m.after.blocks))

-- ---- a note, drawn one after the other

-- with all of it drawn
abbrev note_done : Standing → ℕ → List ℕ → ℕ → ℕ → ℕ → Standing → Stepped
note_done s ch keys lasts part velocity behind =
    let ons = map (λ key. On ch key velocity) keys in
    let offs = map (Off ch) keys in
    silent (record behind {
      operation = s.operation + 1;
      position = s.position + lasts;
      index = s.index + length (ons ++ offs);
      due = marks_of s.process s.index s.position (note_end s.position lasts part) (ons ++ offs);
    })

-- from the velocity on
abbrev note_velocity : Standing → ℕ → List ℕ → ℕ → ℕ → Draught ℕ → Stepped
note_velocity s ch keys lasts part velocity = note_done s ch keys lasts part velocity.value velocity.after

-- from the articulation on
abbrev note_part : Standing → ℕ → Turn → List ℕ → ℕ → Draught ℕ → Stepped
note_part s ch loud keys lasts part = note_velocity s ch keys lasts part.value (turn_drawn loud part.after)

-- from the duration on
abbrev note_length : Standing → ℕ → Turn → Turn → List ℕ → Draught ℕ → Stepped
note_length s ch gate loud keys lasts = note_part s ch loud keys lasts.value (turn_drawn gate lasts.after)

-- from the keys on
abbrev note_keys : Standing → ℕ → SpanLength → Turn → Turn → List Slot → Draught (List ℕ) → Stepped
note_keys s ch span gate loud slots keys = note_length s ch gate loud keys.value
    (duration_drawn span slots keys.after)

module _ (t : Tables) (scopes : List (List Slot)) (code : List Action) where
  -- no more is open than there may be
  pub room : (d : Depths) (i : Inside) (ls : List OpenLevel) (cs : List Counter) (n : Now)
      → Setting scopes d i ls
      → Held t i.homes cs n.blocks → (length (frames_held i.homes cs n.blocks) ≤ MAX_FRAMES)
      × (length ls ≤ MAX_LEVELS)
  room d i ls cs n setting held = (
    omega (arith, held_length t i.homes cs n.blocks held, setting.frames, setting.few),
    omega (arith, setting.levels, setting.flat),
  )

  -- a note
  pub note_runs : (chord : ℕ) (lasting : Lasting) (d : Depths) (i : Inside) (seed operation : ℕ) (n : Now)
      (ls : List OpenLevel)
      (cs : List Counter) → Setting scopes d i ls → Held t i.homes cs n.blocks
      → levels_hold ls (note_plays (map (source_of t) (chord_in t chord)) (length_of t lasting)
      (around seed i) n).after.position ≡ true
      → slice_get code operation ≡ Some (action_of (stock_with t scopes)
      (op.Note chord (span_for lasting i.homes) i.channel
      (turn_for articulation usual_gate i.homes) (turn_for loudness usual_velocity i.homes) i.scope))
      → Reaches code i.homes cs ls operation n (2 * length (map (source_of t) (chord_in t chord)) + 1)
      (note_plays (map (source_of t) (chord_in t chord)) (length_of t lasting) (around seed i) n) (operation + 1)
  note_runs chord lasting d i seed operation n ls cs setting held fits here =
      let hs = i.homes in
      let a = around seed i in
      let ch = i.channel in
      let slots = slots_of hs in
      let stock = stock_with t scopes in
      let ds = chord_in t chord in
      let draws = map (source_of t) ds in
      let span = length_of t lasting in
      let op_span = duration_of stock (span_for lasting hs) in
      let op_gate = turn_for articulation usual_gate hs in
      let op_loud = turn_for loudness usual_velocity hs in
      let s = at operation n ls (frames_held hs cs n.blocks) in
      let keys = keys_drawn draws n in
      let n1 = keys.after in
      let lasts = span_drawn span n1 in
      let n2 = lasts.after in
      let gate = taken articulation usual_gate n2 in
      let n3 = gate.after in
      let velocity = taken loudness usual_velocity n3 in
      let n4 = velocity.after in
      let m = note_plays draws span a n in
      let b1 = ap Now.blocks (keys_after draws n) in
      let held1 = subst (λ b. Held t hs cs b) (sym b1) held in
      let held2 = held_alike t hs cs n1.blocks n2.blocks (span_kept span n1) held1 in
      let held3 = held_alike t hs cs n2.blocks n3.blocks (moved_kept articulation n2.blocks) held2 in
      let held4 = held_alike t hs cs n3.blocks n4.blocks (moved_kept loudness n3.blocks) held3 in
      let pitches = pitches_are t scopes ds operation n ls (frames_held hs cs n.blocks) slots
      (slots_give t hs cs n.blocks held)
      ∙ ap (λ b. draught keys.value (at operation n1 ls (frames_held hs cs b))) (sym b1) in
      let drawn_all = ap (note_keys s ch op_span op_gate op_loud slots) pitches
      ∙ ap (note_length s ch op_gate op_loud keys.value)
      (span_is t scopes lasting operation n1 ls hs cs slots (slots_give t hs cs n1.blocks held1) held1)
      ∙ ap (note_part s ch op_loud keys.value lasts.value)
      (turn_gives t scopes articulation usual_gate operation n2 ls hs cs held2)
      ∙ ap (note_velocity s ch keys.value lasts.value gate.value)
      (turn_gives t scopes loudness usual_velocity operation n3 ls hs cs held3) in
      let ons = note_ons draws span a n in
      let offs = note_offs draws a n in
      let ms = marks_of n.process n.index n.position (note_end n.position lasts.value gate.value)
      (ons ++ offs) in
      let mid : Standing = record {
        operation = operation + 1;
        position = n.position + lasts.value;
        process = n4.process;
        index = n.index + length (ons ++ offs);
        registers = n4.registers;
        dice = n4.dice;
        levels = ls;
        frames = frames_held hs cs n4.blocks;
        due = ms;
      } in
      let pitched = map (amount_of stock) ds in
      let named = here ∙ ap (λ k. Some (note pitched op_span ch op_gate op_loud k)) setting.scope in
      let fs = frames_held hs cs n.blocks in
      let opened = and_from (list_all (slot_open fs) slots && duration_open op_span fs && turn_open 0
      MAX_PERCENT op_gate fs)
      (turn_open 1 (DATA_VALUES - 1) op_loud fs)
      (and_from (list_all (slot_open fs) slots && duration_open op_span fs)
      (turn_open 0 MAX_PERCENT op_gate fs)
      (and_from (list_all (slot_open fs) slots) (duration_open op_span fs)
      (slots_open t hs cs n.blocks held)
      (span_opened t scopes lasting n hs cs held))
      (turns t articulation usual_gate hs cs n.blocks held).opened)
      (turns t loudness usual_velocity hs cs n.blocks held).opened in
      let x = begun_position draws span n in
      let j = ap Now.process (span_after span n1) ∙ ap Now.process (keys_after draws n) in
      let k = ap Now.index (span_after span n1) ∙ ap Now.index (keys_after draws n) in
      let small = room d i ls cs n4 setting held4 in
      let held_mid = holds_by mid small.0 small.1
      (subst (λ p. levels_hold ls (p + lasts.value) ≡ true) x fits) in
      let first = one_silent code s mid
      (step_silent code s mid (note pitched op_span ch op_gate op_loud slots) refl named opened
      drawn_all held_mid) in
      let marks_by : ℕ → ℕ → ℕ → List Mark = λ p q y. marks_of p q y (note_end y lasts.value gate.value)
      (ons ++ offs) in
      let heard_all = ap (λ p. heard ls (marks_by p n.index n.position)) (sym j)
      ∙ ap (λ q. heard ls (marks_by n4.process q n.position)) (sym k)
      ∙ ap (λ y. heard ls (marks_by n4.process n4.index y)) (sym x)
      ∙ note_heard ls n4 ch velocity.value (note_end n4.position lasts.value gate.value) keys.value in
      let mid_at : ℕ → ℕ → Standing = λ p q. record mid { position = p; index = q; due = [] } in
      let steps : 1 + length ms ≡ 2 * length draws + 1 = omega (
        arith,
        marks_length n.process n.index n.position (note_end n.position lasts.value gate.value) (ons ++ offs),
        length-append ons offs,
        length-map keys.value (λ key. On ch key velocity.value),
        length-map keys.value (Off ch),
        keys_count draws n,
      ) in
      let indexed : n.index + length (ons ++ offs) ≡ n4.index + length ons + length offs = omega
      (arith, length-append ons offs, k) in
      become code s _ _ _ _ _ _ steps heard_all
      (ap₂ mid_at (ap (λ p. p + lasts.value) (sym x)) indexed
      ∙ ap (λ q. at (operation + 1) q ls (frames_held hs cs q.blocks)) (sym (note_after draws span a n)))
      (after code s mid _ 1 (length ms) [] (heard ls ms) first (due_runs code mid ms))

  -- a rest
  pub rest_runs : (lasting : Lasting) (d : Depths) (i : Inside) (seed operation : ℕ) (n : Now)
      (ls : List OpenLevel) (cs : List Counter)
      → Setting scopes d i ls → Held t i.homes cs n.blocks
      → levels_hold ls (plays (meaning.rest (length_of t lasting)) (around seed i) n).after.position ≡ true
      → slice_get code operation ≡ Some (action_of (stock_with t scopes)
      (op.Rest (span_for lasting i.homes) i.scope))
      → Reaches code i.homes cs ls operation n 1 (plays (meaning.rest (length_of t lasting)) (around seed i)
      n) (operation + 1)
  rest_runs lasting d i seed operation n ls cs setting held fits here =
      let hs = i.homes in
      let slots = slots_of hs in
      let span = length_of t lasting in
      let op_span = duration_of (stock_with t scopes) (span_for lasting hs) in
      let fs = frames_held hs cs n.blocks in
      let s = at operation n ls fs in
      let lasts = span_drawn span n in
      let n1 = lasts.after in
      let held1 = held_alike t hs cs n.blocks n1.blocks (span_kept span n) held in
      let x = ap Now.position (span_after span n) in
      let end_at : ℕ → Standing = λ p. at (operation + 1) (record n1 { position = p + lasts.value }) ls
      (frames_held hs cs n1.blocks) in
      let rested : Draught ℕ → Stepped = λ v. silent
      (record v.after { operation = operation + 1; position = n.position + v.value }) in
      let drawn_all = ap rested (span_is t scopes lasting operation n ls hs cs slots
      (slots_give t hs cs n.blocks held) held)
      ∙ ap (λ p. silent (end_at p)) (sym x) in
      let small = room d i ls cs n1 setting held1 in
      one_silent code s (end_at n1.position)
      (step_silent code s (end_at n1.position) (rest op_span slots) refl
      (here ∙ ap (λ k. Some (rest op_span k)) setting.scope)
      (and_from (list_all (slot_open fs) slots) (duration_open op_span fs) (slots_open t hs cs n.blocks held)
      (span_opened t scopes lasting n hs cs held))
      drawn_all (holds_by (end_at n1.position) small.0 small.1 fits))

  -- the message of a point
  point_is : (p : Point) (ch : ℕ) (v : ℤ) → point_msg p ch v ≡ point_message (kind_of p) ch v
  point_is (point.Control c) ch v = ap (λ x. Control ch c x) (nearest_is most_data v)
  point_is point.Program ch v = ap (λ x. Program ch x) (nearest_is most_data v)
  point_is point.Bend ch v = ap (λ x. Bend ch x) (nearest_is most_bend (v +ℤ pos bend_centre))

  -- a message without a length
  pub send_runs : (p : Point) (w : Draw) (d : Depths) (i : Inside) (seed operation : ℕ) (n : Now)
      (ls : List OpenLevel)
      (cs : List Counter) → Setting scopes d i ls → Held t i.homes cs n.blocks
      → levels_hold ls (plays (meaning.send (kind_of p) (source_of t w)) (around seed i)
      n).after.position ≡ true
      → slice_get code operation ≡ Some (action_of (stock_with t scopes) (op.Send p i.channel w i.scope))
      → Reaches code i.homes cs ls operation n 1 (plays (meaning.send (kind_of p) (source_of t w))
      (around seed i) n) (operation + 1)
  send_runs p w d i seed operation n ls cs setting held fits here =
      let hs = i.homes in
      let ch = i.channel in
      let slots = slots_of hs in
      let amount = amount_of (stock_with t scopes) w in
      let fs = frames_held hs cs n.blocks in
      let s = at operation n ls fs in
      let v = amount_drawn (source_of t w) n in
      let is = amount_after (source_of t w) n in
      let mark_by : Msg → Mark = λ x. record {
        process = n.process;
        index = n.index;
        msg = Some x;
        onset = n.position;
        ending = n.position;
      } in
      let sent_by : Draught ℤ → Stepped = λ u. sounding (put_out ls (mark_by (point_msg p ch u.value)))
      (record u.after { operation = operation + 1; index = n.index + 1 }) in
      let there : Standing = at (operation + 1) (record v.after { index = n.index + 1 }) ls fs in
      let drawn_all = ap sent_by (number_is t scopes w operation n ls fs slots
      (slots_give t hs cs n.blocks held)) in
      let small = room d i ls cs n setting held in
      let x = ap Now.position is in
      let mark_from : Now → Mark = λ m. mark_at m (Some (point_message (kind_of p) ch v.value)) m.position in
      become code s _ _ _ _ _ _ refl
      (ap (λ y. heard ls (mark_by y ∷ [])) (point_is p ch v.value)
      ∙ ap (λ m. heard ls (mark_from m ∷ [])) (sym is))
      (ap (λ k. at (operation + 1) (record v.after { index = k + 1 }) ls fs) (sym (ap Now.index is))
      ∙ ap (λ b. at (operation + 1) (record v.after { index = v.after.index + 1 }) ls (frames_held hs cs b))
      (sym (ap Now.blocks is)))
      (one_sounding code s there (put_out ls (mark_by (point_msg p ch v.value)))
      (step_sounding code s there (send p ch amount slots)
      (put_out ls (mark_by (point_msg p ch v.value))) refl
      (here ∙ ap (λ k. Some (send p ch amount k)) setting.scope) (slots_open t hs cs n.blocks held) drawn_all
      (holds_by there small.0 small.1 fits)))

  -- a register
  pub assign_runs : (register expr : ℕ) (d : Depths) (i : Inside) (seed operation : ℕ) (n : Now)
      (ls : List OpenLevel)
      (cs : List Counter) → Setting scopes d i ls → Held t i.homes cs n.blocks
      → levels_hold ls n.position ≡ true
      → slice_get code operation ≡ Some (action_of (stock_with t scopes) (op.Set register expr i.scope))
      → Reaches code i.homes cs ls operation n 1 (plays (meaning.assign register (expr_in t expr))
      (around seed i) n) (operation + 1)
  assign_runs register expr d i seed operation n ls cs setting held fits here =
      let hs = i.homes in
      let slots = slots_of hs in
      let nodes = expr_in t expr in
      let fs = frames_held hs cs n.blocks in
      let s = at operation n ls fs in
      let there : Standing = at (operation + 1) (plays (meaning.assign register nodes) (around seed i)
      n).after ls fs in
      let set_by : Draught ℤ → Stepped = λ v. silent (record v.after {
        operation = operation + 1;
        registers = slice_set n.registers register v.value;
      }) in
      let small = room d i ls cs n setting held in
      one_silent code s there
      (step_silent code s there (assign register nodes slots) refl
      (here ∙ ap (λ k. Some (assign register nodes k)) setting.scope)
      (slots_open t hs cs n.blocks held) (ap set_by
      (expr_is nodes operation n ls fs slots (slots_give t hs cs n.blocks held)))
      (holds_by there small.0 small.1 fits))
