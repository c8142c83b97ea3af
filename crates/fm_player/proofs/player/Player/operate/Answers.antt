use Rattle.fm_player.proofs.NoteLemmas.{play-can}
use Rattle.fm_player.proofs.player.Player.operate.Goals as goal

pub play-requires : goal.play-requires
play-requires g c =
    play-can c.args.plan.now c.args.self.now g.state _ c.args.op.now c.in-Note.chord c.in-Note.span c.in-Note.channel
    c.in-Note.gate c.in-Note.loud
    c.in-Note.scope c.requires.0 c.requires.1 c.in-Note.is
