use Rattle.fm_player.specs.declared.pending.Pending.{Pending}
use Rattle.std.proofs.Common.{◌≤◌, ◌∙◌, ℕ, List, ap, arith, max}
use Rattle.fm_pattern.specs.NoteEnd.{note_end}
use Rattle.fm_warp.specs.declared.part.Part.{Part}
use Rattle.fm_warp.specs.declared.side.Side.TheVariants.{Onset}
use Rattle.fm_nest.specs.Nesting.{far_composed, frames_of}
use Rattle.fm_nest.proofs.NestingLemmas.{FitsLevels-limited}
use Rattle.fm_player.proofs.NoteLemmas.{note-does, note-fits, note-behind, note-loud, note-percent, note-short}
use Rattle.fm_player.proofs.player.Player.play.Goals as goal

pub overflow_cast-velocity : goal.overflow_cast-velocity
overflow_cast-velocity g c =
    omega (
      arith,
      note-loud c.args.plan.now c.args.self.now g.state c.args.chord c.args.span c.args.channel c.args.gate c.args.loud c.args.scope
          _ c.note-note.new.self c.note-note.result c.requires.0 c.stock-stock.ensures.value c.note-note.ensures.drawn
          c.requires.1.1.1.1.1.1.1,
    )

pub end_of-end-requires-clause-on : goal.end_of-end-requires-clause-on
end_of-end-requires-clause-on g c =
    omega (
      arith,
      c.position.ensures,
      FitsLevels-limited Onset c.args.plan.now.stock.warps (frames_of c.args.self.now.time.nest) c.args.self.now.time.position
          c.requires.0.ready.time.fits.fits,
    )

pub end_of-end-requires-clause-gate : goal.end_of-end-requires-clause-gate
end_of-end-requires-clause-gate g c =
    omega (
      arith,
      note-percent c.args.plan.now c.args.self.now g.state c.args.chord c.args.span c.args.channel c.args.gate c.args.loud
          c.args.scope _ c.note-note.new.self c.note-note.result c.requires.0 c.stock-stock.ensures.value c.note-note.ensures.drawn
          c.requires.1.1.1.1.1.1.0,
    )

pub sound-requires-clause-to : goal.sound-requires-clause-to
sound-requires-clause-to g c =
    let most : c.note-note.result.percent ≤ 400 =
    omega (
      arith,
      note-percent c.args.plan.now c.args.self.now g.state c.args.chord c.args.span c.args.channel c.args.gate c.args.loud
          c.args.scope _ c.note-note.new.self c.note-note.result c.requires.0 c.stock-stock.ensures.value c.note-note.ensures.drawn
          c.requires.1.1.1.1.1.1.0,
    ) in
    omega (
      arith,
      c.end_of-end.ensures,
      c.position.ensures,
      note-behind c.position.result c.note-note.result.ticks c.note-note.result.percent most,
    )

pub sound-requires-clause-short : goal.sound-requires-clause-short
sound-requires-clause-short g c =
    note-short c.args.plan.now c.args.self.now g.state c.args.chord c.args.span c.args.channel c.args.gate c.args.loud
    c.args.scope _ c.note-note.new.self c.note-note.result c.requires.0 c.stock-stock.ensures.value c.note-note.ensures.drawn
    c.requires.1.1.1.1.0

pub sound-requires-clause-fits : goal.sound-requires-clause-fits
sound-requires-clause-fits g c =
    rw c.warps.ensures
    (note-fits c.args.plan.now c.args.self.now g.state c.args.chord c.args.span c.args.channel c.args.gate c.args.loud c.args.scope _
    c.note-note.new.self c.note-note.result c.requires.0 c.stock-stock.ensures.value c.note-note.ensures.drawn)

pub note-self-requires-clause-velocity : goal.note-self-requires-clause-velocity
note-self-requires-clause-velocity g c =
    omega (
      arith,
      note-loud c.args.plan.now c.args.self.now g.state c.args.chord c.args.span c.args.channel c.args.gate c.args.loud c.args.scope
          _ c.note-note.new.self c.note-note.result c.requires.0 c.stock-stock.ensures.value c.note-note.ensures.drawn
          c.requires.1.1.1.1.1.1.1,
    )

pub returns : goal.returns
returns g c = record {
  does = note-does c.args.plan.now c.args.self.now g.state c.args.chord c.args.span c.args.channel c.args.gate c.args.loud c.args.scope _
      c.note-note.new.self c.note-note.result c.sound.new.self c.tick-onset.result c.max-ending.result c.len.result c.note-self.result
      c.requires.0 c.stock-stock.ensures.value c.note-note.ensures.drawn c.note-note.ensures.frames
      (rw (← c.warps.ensures) c.sound.ensures.timed) c.sound.ensures.frames c.sound.ensures.position c.tick-onset.ensures
      (c.max-ending.ensures
      ∙ ap (max c.tick-onset.result)
      (c.sound.ensures.ending
      ∙ ap (λ (ws : List (List Part)). far_composed ws (frames_of c.args.self.now.time.nest) c.end_of-end.result) c.warps.ensures
      ∙ ap (far_composed c.args.plan.now.stock.warps (frames_of c.args.self.now.time.nest))
      (c.end_of-end.ensures ∙ ap (λ (x : ℕ). note_end x c.note-note.result.ticks c.note-note.result.percent) c.position.ensures)))
      c.note-self.ensures.pending c.note-self.ensures.is c.len.ensures.value c.note-note.ensures.count;
  note = ap (λ (n : Pending). n.given) c.note-self.ensures.is;
}
