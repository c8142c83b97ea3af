use Rattle.std.proofs.Common.{arith, sym, subst}
use Rattle.fm_player.specs.declared.player.Player.{Player}
use Rattle.fm_strand.specs.Strand.{TakesOffs}
use Rattle.fm_strand.proofs.TakingLemmas.{offs-some, taking-all, taking-more, taking-none}
use Rattle.fm_strand.proofs.strand.Strand.take_offs.Goals as goal

pub loop-off-init : goal.loop-off-init
loop-off-init c = taking-none c.args.plan.now c.args.self.now c.requires.course c.requires.room

pub take_off-requires : goal.take_off-requires
take_off-requires c = c.loop-off.invariant.course

pub push-requires-clause-room : goal.push-requires-clause-room
push-requires-clause-room c =
    let takes = c.in-Some.ensures.some in
    let few = c.loop-off.invariant.few takes.at_off in
    let some = offs-some c.loop-off.self.player.note takes.at_off in
    omega arith

pub loop-off-preserved : goal.loop-off-preserved
loop-off-preserved c =
    taking-more c.args.plan.now c.args.self.now c.loop-off.self c.in-Some.off c.take_off.new.self c.push.new.self
    c.loop-off.invariant c.in-Some.ensures.some c.push.ensures

pub loop-off-smaller : goal.loop-off-smaller
loop-off-smaller c = let made = c.in-Some.ensures.some.step.is.0 in omega arith

pub returns : goal.returns
returns c =
    let same = c.in_default.ensures.same in
    subst (λ (pl : Player). TakesOffs c.args.plan.now c.args.self.now (record c.loop-off.self { player = pl })) (sym same)
    (taking-all c.args.plan.now c.args.self.now c.loop-off.self c.loop-off.invariant c.in_default.ensures.none)
