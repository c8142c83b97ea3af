use Rattle.fm_large.proofs.Performance.{performed}
use Rattle.fm_large.proofs.laws.large_scores_are_performed.Goals as goal

pub returns : goal.returns
returns c = λ number within. performed number within (record {
  processes = c.totals_are_kept.ensures.processes;
  lines = c.notes_end_in_their_turn.ensures.lines;
  marks = c.notes_end_in_their_turn.ensures.marks;
  piece = c.piece_has_all.ensures;
})
