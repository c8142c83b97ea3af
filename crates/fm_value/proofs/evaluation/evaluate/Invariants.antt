use Rattle.std.proofs.Common.{◌≤◌, All}
use Rattle.arrayvec.specs.ArrayVec.{array_vec_len}
use Rattle.fm_value.specs.Operation.{IsWithin}
use Rattle.fm_value.specs.Value.{readable}
use Rattle.fm_value.proofs.Evaluations.{Evaluating}
use Rattle.fm_value.proofs.evaluation.evaluate.Given as goal

abbrev pub invariant-loop-node : goal.invariant-loop-node
invariant-loop-node g l = record {
  evaluating :
      Evaluating (readable l.registers l.indices) l.expr.nodes.items l.initial.dice l.node-index l.operands.items l.dice;
  within : All IsWithin l.operands.items;
  short : array_vec_len l.operands ≤ l.node-index;
}
