use Rattle.std.proofs.Common.{◌≤◌, ◌*◌, ◌/◌, arith}
use Rattle.std.proofs.Math.Nat.{div-le_of_le-mul, mul-le-mul_left, mul_comm}
use Rattle.std.proofs.lemmas.Nat.{div-add-mod', mod_below}
use Rattle.fm_round.proofs.run.part.Goals as goal

pub returns-clause-within : goal.returns-clause-within
returns-clause-within c =
    let more : c.args.all * c.args.low ≤ c.args.all * c.args.workers = mul-le-mul_left c.args.all (omega arith) in
    div-le_of_le-mul c.args.workers (omega arith)

pub returns-clause-share : goal.returns-clause-share
returns-clause-share c =
    let whole = div-add-mod' (c.args.all * c.args.low) c.args.workers in
    let less = mod_below (c.args.all * c.args.low) c.args.workers (omega arith) in
    let turned = mul_comm c.args.workers (c.args.all * c.args.low / c.args.workers) in
    (omega arith, omega arith)
