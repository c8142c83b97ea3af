use Rattle.std.proofs.Common.{sym, arith}
use Rattle.fm_player.proofs.AheadLemmas.{takes-off}
use Rattle.fm_player.proofs.CourseLemmas.{steps-most}
use Rattle.fm_player.proofs.player.Player.take_off.Goals as goal

pub overflow_add-self : goal.overflow_add-self
overflow_add-self c =
    omega (arith, c.requires.within, steps-most c.args.plan.now c.args.self.now.process c.requires.fits c.requires.process)

pub returns-clause-some : goal.returns-clause-some
returns-clause-some c =
    takes-off c.args.plan.now c.args.self.now c.take_off-off.new.self c.take_off-off.result c.requires (sym c.if-not-is_at_off.ensures)
    c.take_off-off.ensures.given c.take_off-off.ensures.sound

pub returns-clause-course : goal.returns-clause-course
returns-clause-course c =
    (takes-off c.args.plan.now c.args.self.now c.take_off-off.new.self c.take_off-off.result c.requires (sym c.if-not-is_at_off.ensures)
    c.take_off-off.ensures.given c.take_off-off.ensures.sound).step.course
