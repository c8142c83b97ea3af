use Rattle.std.proofs.Common.{rules}
use Rattle.fm_excerpt.proofs.OutputLemmas.{space_for_end}
use Rattle.fm_excerpt.proofs.output.Output.finish.Goals as goal

pub finish-requires-clause-fits : goal.finish-requires-clause-fits
finish-requires-clause-fits g c =
    space_for_end (record { written = c.self.inside.writer; count = c.self.inside.count }) c.args.end
    c.self.invariant (search rules) (search rules) (search rules)
