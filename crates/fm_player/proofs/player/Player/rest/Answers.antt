use Rattle.fm_player.proofs.OperationLemmas.{rest-fits}
use Rattle.fm_player.proofs.player.Player.rest.Goals as goal

pub advance-requires-clause-fits : goal.advance-requires-clause-fits
advance-requires-clause-fits g c =
    rw c.warps.ensures
    (rest-fits c.args.plan.now c.args.self.now g.state c.args.span c.args.scope _ c.duration-ticks.new.self c.duration-ticks.result
    c.requires.0 c.stock.ensures.value c.duration-ticks.ensures.draws)
