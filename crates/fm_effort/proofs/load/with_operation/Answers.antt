use Rattle.std.proofs.Common.{◌≡◌, ◌∙◌, ◌*◌, cond, min}
use Rattle.fm_effort.specs.Effort.{largest}
use Rattle.fm_effort.proofs.FoldLemmas.{operation_added}
use Rattle.fm_effort.proofs.load.with_operation.Goals as goal
use Rattle.fm_effort.proofs.load.with_operation.Goals.{then-is_left_out, else-is_left_out}

pub returns : goal.returns
returns c = λ a kept.
    let one = c.load_of_one-one.result in
    let rounds = c.rounds-rounds.result in
    let sure : c.if-is_left_out.events ≡ cond c.args.is_left_out 0 (min (one.events * rounds) largest) =
    elim c.if-is_left_out.branch [
      | then-is_left_out w ↦ rw w.if-is_left_out.true w.events-is
      | else-is_left_out w ↦ rw w.if-is_left_out.false (w.events-is ∙ w.saturating_mul-events.ensures)
    ] in
    operation_added c.args.load one c.args.is_left_out c.args.enclosing.now.levels a c.args.op.now rounds
    c.if-is_left_out.events c.saturating_add.result c.saturating_add-2.result c.load_of_one-one.ensures kept.levels
    (c.rounds-rounds.ensures a kept) sure (rw c.saturating_mul.ensures at c.saturating_add.ensures)
    c.saturating_add-2.ensures
