-- What waits in an outbox is no more than its room.
use Rattle.std.proofs.Common.{◌-◌, ap, drop, arith}
use Rattle.fm_state.proofs.Waiting.{length-take_le}
use Rattle.fm_state.proofs.dues.waiting_events.Goals as goal

pub returns-clause-few : goal.returns-clause-few
returns-clause-few c =
    let from = c.cell-from.result in
    let few = length-take_le (from.computed - from.taken) (drop from.taken c.as_slice-events.result.now) in
    let fits = c.requires.sound.fits c.args.process c.requires.process in
    let boxed = fits.boxed in
    let computed = ap (λ x. x.computed) c.cell-from.ensures in
    let taken = ap (λ x. x.taken) c.cell-from.ensures in
    let room = c.line.ensures.setting.room in omega arith
