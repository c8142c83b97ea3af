use Rattle.std.proofs.Common.{refl}
use Rattle.fm_player.proofs.OperationLemmas.{frames-same, loop-does, loop-skips}
use Rattle.fm_player.proofs.player.Player.open_loop.Goals as goal

pub open_loop-requires-clause-frames : goal.open_loop-requires-clause-frames
open_loop-requires-clause-frames g c =
    frames-same c.args.plan.now c.args.self.now c.count-rounds.new.self _ c.requires.0.ready c.count-rounds.ensures.frames
    c.stock-else-rounds-eq0.ensures.value

pub returns-else-rounds-eq0 : goal.returns-else-rounds-eq0
returns-else-rounds-eq0 g c = record {
  does = loop-does c.args.plan.now c.args.self.now g.state c.args.count c.args.scope c.args.past _ _ c.count-rounds.new.self
      c.open_loop.new.self
      c.count-rounds.result c.requires.0 c.stock.ensures.value c.stock-else-rounds-eq0.ensures.value c.count-rounds.ensures.draws
      c.if-rounds-eq0.false c.open_loop.ensures.stands c.open_loop.ensures.frames;
  note = refl;
}

pub returns-then-rounds-eq0 : goal.returns-then-rounds-eq0
returns-then-rounds-eq0 g c = record {
  does = loop-skips c.args.plan.now c.args.self.now g.state c.args.count c.args.scope c.args.past _ c.count-rounds.new.self
      c.count-rounds.result c.requires.0 c.stock.ensures.value c.count-rounds.ensures.draws c.count-rounds.ensures.frames
      c.if-rounds-eq0.true;
  note = refl;
}
