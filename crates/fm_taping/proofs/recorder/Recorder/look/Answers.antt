use Rattle.std.proofs.Common.{Option, ap, subst}
use Rattle.fm_core.specs.declared.step.Step.{Step}
use Rattle.fm_board.specs.Seats.{SeatState}
use Rattle.fm_taping.specs.Keeping.{Keeps}
use Rattle.fm_taping.proofs.LookedAt.{keeps_look}
use Rattle.fm_taping.proofs.recorder.Recorder.look.Goals as goal

pub returns-clause-kept : goal.returns-clause-kept
returns-clause-kept c =
    let before = c.latest-before.ensures in
    let now = c.latest.ensures in
    keeps_look c.number-number.result c.args.process c.look-seen.result.clock c.look-seen.result.tag c.args.seat.now.mind.view
    c.look-seen.new.seat.mind.view c.latest-before.result c.latest.result c.number-number.ensures.value c.requires.turn
    (ap (λ (x : SeatState). x.mind.view) c.look-seen.ensures.sight) before.looks before.last before.idle now.looks now.last
    c.args.seat.now.mind.log.idle before.found
    c.args.self.now.tape c.keep.new.tape
    (subst (λ (o : Option Step). Keeps c.args.self.now.tape o c.keep.new.tape) c.step_of_look-step.ensures.step c.keep.ensures)
