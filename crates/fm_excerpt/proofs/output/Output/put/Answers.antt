use Rattle.std.proofs.Common.{rules, ◌≡◌}
use Rattle.fm_smf.specs.Writing.{after_event}
use Rattle.fm_excerpt.specs.Excerpt.{as_event}
use Rattle.fm_excerpt.proofs.OutputLemmas.{space_for, short_after}
use Rattle.fm_excerpt.proofs.output.Output.put.Goals as goal

pub event-requires-clause-fits : goal.event-requires-clause-fits
event-requires-clause-fits g c =
    rw c.new.ensures (space_for (record { written = c.self.inside.writer; count = c.self.inside.count }) (as_event
    (c.args.tick, c.args.msg))
    c.self.invariant (search rules) (search rules) (search rules))

pub invariant_of-self-2 : goal.invariant_of-self-2
invariant_of-self-2 g c =
    let after : c.event.new.self ≡ after_event c.self.inside.writer (as_event (c.args.tick, c.args.msg)) =
    rw c.new.ensures at c.in_ok-event.ensures.writer in
    rw after (short_after (record { written = c.self.inside.writer; count = c.self.inside.count }) (as_event (c.args.tick, c.args.msg))
    c.self.invariant (search rules))
