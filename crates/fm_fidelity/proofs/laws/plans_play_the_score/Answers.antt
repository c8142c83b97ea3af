use Rattle.fm_fidelity.proofs.Texts.{text_lines}
use Rattle.fm_fidelity.proofs.laws.plans_play_the_score.Goals as goal

pub returns : goal.returns
returns c = text_lines (record {
  valid = c.accepted_lines_are_valid.ensures.valid;
  kept = c.accepted_statements_keep_limits.ensures;
  lists = c.accepted_lists_have_entries.ensures;
  levels = c.every_level_is_in_time.ensures;
  limits = c.totals_are_kept.ensures.limits;
  end = c.totals_are_kept.ensures.end;
})
