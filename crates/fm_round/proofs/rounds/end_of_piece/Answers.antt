use Rattle.std.proofs.Common.{◌-◌, sym, ap, ◌∙◌}
use Rattle.fm_line.specs.Line.{line}
use Rattle.fm_program.specs.Process.{plan_lines}
use Rattle.fm_program.proofs.Lines.{plan-lines-length}
use Rattle.fm_round.proofs.rounds.end_of_piece.Goals as goal

pub returns : goal.returns
returns c =
    c.end_of_process.ensures
    ∙ ap (λ n. (line (plan_lines c.args.plan.now) (n - 1)).end) (c.requires.count ∙ sym (plan-lines-length c.args.plan.now))
