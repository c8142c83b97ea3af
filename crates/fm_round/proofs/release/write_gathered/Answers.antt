use Rattle.std.proofs.Common.{ap, ◌∙◌, length}
use Rattle.fm_buffer.specs.Gather.{EventGather}
use Rattle.fm_line.proofs.Sorting.{length-sorted}
use Rattle.fm_round.proofs.release.write_gathered.Goals as goal

pub returns-clause-count : goal.returns-clause-count
returns-clause-count g c =
    ap length (c.events-2.ensures ∙ ap (λ (x : EventGather). x.events) c.settle.ensures)
    ∙ length-sorted c.args.gather.now.events
