-- No more events are gathered than there are.
use Rattle.std.proofs.Common.{arith}
use Rattle.fm_progress.proofs.Claims.{taken_all}
use Rattle.fm_hall.proofs.choices.releasing.Goals as goal

pub overflow_cast-result : goal.overflow_cast-result
overflow_cast-result c =
    let most = taken_all c.args.rules.now c.args.tables.now.state c.requires.valid c.requires.sound in
    let few = c.requires.valid.lines.events in let count = c.gathered-count.ensures in omega arith
