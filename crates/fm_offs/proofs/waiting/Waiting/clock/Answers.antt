use Rattle.std.proofs.Common.{◌∙◌, sym, ap, subst, List}
use Rattle.std.specs.Prelude.{min}
use Rattle.fm_line.specs.Sounds.{clock_with}
use Rattle.fm_offs.specs.declared.note_off.NoteOff.{NoteOff}
use Rattle.fm_offs.specs.Stack.{IsEarliest, tick_at}
use Rattle.fm_offs.proofs.StackLemmas.{clock_is}
use Rattle.fm_offs.proofs.waiting.Waiting.clock.Goals as goal

pub returns : goal.returns
returns c =
    let xs = c.self.inside.offs.items in
    let first = c.earliest-first.result in
    let early : IsEarliest xs first
    = subst (λ (ys : List NoteOff). IsEarliest ys first) c.as_slice.ensures.value c.earliest-first.ensures in
    c.min.ensures
    ∙ ap (λ (ys : List NoteOff). min c.args.tick (tick_at ys first)) c.deref.ensures.0
    ∙ sym (clock_is c.args.tick first xs early)
    ∙ ap (clock_with c.args.tick) c.self.view_is
