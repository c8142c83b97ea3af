use Rattle.fm_player.specs.Course.{standing}
use Rattle.fm_player.proofs.player.Player.step.Given as goal

abbrev pub ghost-operate : goal.ghost-operate
ghost-operate a = standing a.plan.now a.self.now.process a.self.now.made
