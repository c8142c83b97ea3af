use Rattle.std.proofs.Common.{sym, ◌∙◌}
use Rattle.fm_player.proofs.ReadLemmas.{clock-pending, clock-now}
use Rattle.fm_player.proofs.SoundLemmas.{starts-on}
use Rattle.fm_player.proofs.player.Player.clock.Goals as goal

pub returns-in-Some : goal.returns-in-Some
returns-in-Some c = λ p course free.
    let s = c.args.self.now in
    let starts = c.in-Some.ensures.some s.process in
    sym (clock-pending p s c.in-Some.time course starts (starts-on s.process s.note c.in-Some.time starts c.in-Some.ensures.left free))

pub returns-in-None : goal.returns-in-None
returns-in-None c = λ p course free.
    c.tick.ensures ∙ sym (clock-now p c.args.self.now course (c.time.ensures.none c.in-None.is c.args.self.now.process))
