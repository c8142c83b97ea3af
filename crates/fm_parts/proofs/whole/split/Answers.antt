use Rattle.std.proofs.Common.{◌∙◌, ap, length}
use Rattle.fm_edge.proofs.Chains.{on_err}
use Rattle.fm_parts.proofs.SplitLemmas.{written_split, written_has_one}
use Rattle.fm_parts.proofs.whole.split.Goals as goal

pub split_first-requires : goal.split_first-requires
split_first-requires g c = written_has_one _ c.requires.written

pub returns-in_err-count-clause-err : goal.returns-in_err-count-clause-err
returns-in_err-count-clause-err g c = λ profile events end is.
    on_err c.from_residual.result (rw (written_split profile events end _ is) at c.in_err-count.ensures.err)

pub returns-clause-count : goal.returns-clause-count
returns-clause-count g c = λ profile events end is. c.in_ok-count.ensures.count ∙ ap length (written_split profile events end _ is)

pub returns-clause-ok : goal.returns-clause-ok
returns-clause-ok g c = λ profile events end is. rw (written_split profile events end _ is) at c.in_ok-count.ensures.ok
