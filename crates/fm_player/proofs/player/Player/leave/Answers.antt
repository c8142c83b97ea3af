use Rattle.std.proofs.Common.{refl}
use Rattle.fm_player.proofs.OperationLemmas.{leave-does, leave-some}
use Rattle.fm_player.proofs.player.Player.leave.Goals as goal

pub returns : goal.returns
returns g c = record {
  does = leave-does c.args.plan.now c.args.self.now g.state c.leave.new.self c.requires (rw (← c.warps.ensures) c.leave.ensures.timed)
      c.leave.ensures.frames
      (λ outer inner split. rw (← c.warps.ensures) (c.leave.ensures.position outer inner split))
      (leave-some c.args.plan.now c.args.self.now g.state c.requires);
  note = refl;
}
