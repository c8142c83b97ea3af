use Rattle.fm_fidelity.proofs.Texts.{text_fitted, text_steps}
use Rattle.fm_fidelity.proofs.laws.plans_fit.Goals as goal

pub returns-clause-fit : goal.returns-clause-fit
returns-clause-fit c = text_fitted (record {
  valid = c.accepted_lines_are_valid.ensures.valid;
  kept = c.accepted_statements_keep_limits.ensures;
  lists = c.accepted_lists_have_entries.ensures;
  levels = c.every_level_is_in_time.ensures;
  limits = c.totals_are_kept.ensures.limits;
  end = c.totals_are_kept.ensures.end;
})

pub returns-clause-steps : goal.returns-clause-steps
returns-clause-steps c = text_steps (record {
  valid = c.accepted_lines_are_valid.ensures.valid;
  kept = c.accepted_statements_keep_limits.ensures;
  lists = c.accepted_lists_have_entries.ensures;
  levels = c.every_level_is_in_time.ensures;
  limits = c.totals_are_kept.ensures.limits;
  end = c.totals_are_kept.ensures.end;
})
