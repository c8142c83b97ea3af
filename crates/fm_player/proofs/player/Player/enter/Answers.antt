use Rattle.std.proofs.Common.{refl}
use Rattle.fm_player.proofs.OperationLemmas.{enter-room, enter-fits, enter-does}
use Rattle.fm_player.proofs.player.Player.enter.Goals as goal

pub enter-requires-clause-room : goal.enter-requires-clause-room
enter-requires-clause-room g c = enter-room c.args.plan.now c.args.self.now g.state c.args.warp c.requires.0

pub enter-requires-clause-fits : goal.enter-requires-clause-fits
enter-requires-clause-fits g c =
    rw c.warps.ensures (enter-fits c.args.plan.now c.args.self.now g.state c.args.warp c.requires.0 c.requires.1)

pub returns : goal.returns
returns g c = record {
  does = enter-does c.args.plan.now c.args.self.now g.state c.args.warp c.enter.new.self c.requires.0
      (rw (← c.warps.ensures) c.enter.ensures.timed) c.enter.ensures.frames c.enter.ensures.position;
  note = refl;
}
