use Rattle.std.proofs.Common.{◌≡◌, ◌<◌, List, All, length, map, arith, sym, ◌∙◌, ap, subst, vec_items, Global, []}
use Rattle.std.proofs.lemmas.List.{length-map}
use Rattle.fm_program.specs.declared.op.Draw.{Draw}
use Rattle.fm_program.specs.Parts.{stock_parts}
use Rattle.fm_program.specs.Action.{amount_of, chord_at, scope_at}
use Rattle.fm_program.specs.State.{pitches_drawn}
use Rattle.fm_program.specs.Fit.{loops_of}
use Rattle.fm_player.specs.Drawing.{DrawsTo, IsNumber, note_keys, note_lasts, note_part}
use Rattle.fm_player.proofs.StockLemmas.{chord-fits, looked_up, numbers-fit}
use Rattle.fm_player.proofs.draws.Draws.note.Goals as goal

pub keys-keys-requires-clause-pitches : goal.keys-keys-requires-clause-pitches
keys-keys-requires-clause-pitches c =
    let t = stock_parts c.args.stock.now in
    let there : c.args.chord < length c.args.stock.now.chords.items =
    omega (arith, c.requires.chord, length-map c.args.stock.now.chords.items (vec_items {X = Draw} {Z = Global})) in
    let read : c.as_slice.result.now ≡ chord_at t c.args.chord =
    c.as_slice.ensures.value ∙ looked_up vec_items _ c.args.chord _ [] c.index.ensures there in
    subst (All (IsNumber t (loops_of t c.args.scope))) (sym read)
    (numbers-fit t (loops_of t c.args.scope) (chord_at t c.args.chord) c.requires.keys)

pub keys-keys-requires-clause-few : goal.keys-keys-requires-clause-few
keys-keys-requires-clause-few c =
    let t = stock_parts c.args.stock.now in
    let there : c.args.chord < length c.args.stock.now.chords.items =
    omega (arith, c.requires.chord, length-map c.args.stock.now.chords.items (vec_items {X = Draw} {Z = Global})) in
    let read : c.as_slice.result.now ≡ chord_at t c.args.chord =
    c.as_slice.ensures.value ∙ looked_up vec_items _ c.args.chord _ [] c.index.ensures there in
    omega (arith, ap length read, chord-fits t c.args.chord c.requires.stock c.requires.chord)

pub returns-clause-drawn : goal.returns-clause-drawn
returns-clause-drawn c =
    let t = stock_parts c.args.stock.now in
    let there : c.args.chord < length c.args.stock.now.chords.items =
    omega (arith, c.requires.chord, length-map c.args.stock.now.chords.items (vec_items {X = Draw} {Z = Global})) in
    let read : c.as_slice.result.now ≡ chord_at t c.args.chord =
    c.as_slice.ensures.value ∙ looked_up vec_items _ c.args.chord _ [] c.index.ensures there in
    let keys : DrawsTo t c.args.self.now c.keys-keys.new.self c.keys-keys.result.items
    (pitches_drawn (map (amount_of t) (chord_at t c.args.chord)) (scope_at t c.args.scope)) =
    subst (λ (ps : List Draw). DrawsTo t c.args.self.now c.keys-keys.new.self c.keys-keys.result.items
    (pitches_drawn (map (amount_of t) ps) (scope_at t c.args.scope))) read c.keys-keys.ensures.draws in
    record {
      keys = keys.value;
      ticks = λ s stands. c.duration-ticks.ensures.draws.value (note_keys t c.args.chord c.args.scope s).after (keys.after s stands);
      percent = λ s stands. c.turn-percent.ensures.draws.value (note_lasts t c.args.chord c.args.span c.args.scope s).after
          (c.duration-ticks.ensures.draws.after (note_keys t c.args.chord c.args.scope s).after (keys.after s stands));
      velocity = λ s stands. c.turn-velocity.ensures.draws.value (note_part t c.args.chord c.args.span c.args.gate c.args.scope s).after
          (c.turn-percent.ensures.draws.after (note_lasts t c.args.chord c.args.span c.args.scope s).after
          (c.duration-ticks.ensures.draws.after (note_keys t c.args.chord c.args.scope s).after (keys.after s stands)));
      after = λ s stands. c.turn-velocity.ensures.draws.after (note_part t c.args.chord c.args.span c.args.gate c.args.scope s).after
          (c.turn-percent.ensures.draws.after (note_lasts t c.args.chord c.args.span c.args.scope s).after
          (c.duration-ticks.ensures.draws.after (note_keys t c.args.chord c.args.scope s).after (keys.after s stands)));
    }
