use Rattle.std.proofs.Common.{◌+◌, ap, ◌∙◌}
use Rattle.fm_record.specs.Head.{head_bytes}
use Rattle.fm_record.specs.Recording.{Recording}
use Rattle.fm_top.proofs.Lefts.{puts_record}
use Rattle.fm_top.proofs.taping.record_left.Goals as goal

pub returns-in-Ok-clause-puts : goal.returns-in-Ok-clause-puts
returns-in-Ok-clause-puts g c =
    let setup = c.args.recording.setup in
    let same = ap (λ (h : Recording). h.head) c.in_ok-recorded.ensures.head
    ∙ ap (head_bytes (setup.workers + 1) setup.room setup.lead) c.deref.ensures.value in
    puts_record {K = g.row.K.Denot} g.K.Append.seen _ _ _ _ _ _ same c.put_record.ensures.steps c.in-Ok.ensures.ok
