use Rattle.fm_player.proofs.ReadLemmas.{place-is}
use Rattle.fm_player.proofs.player.Player.place.Goals as goal

pub returns : goal.returns
returns c = λ p course. place-is p c.args.self.now c.place.result course c.place.ensures.depth c.place.ensures.origins
    c.place.ensures.position
