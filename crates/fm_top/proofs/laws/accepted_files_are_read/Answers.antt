use Rattle.fm_top.proofs.ReadBack.{read_back}
use Rattle.fm_top.proofs.laws.accepted_files_are_read.Goals as goal

pub returns : goal.returns
returns c = read_back (record {
  valid = c.accepted_lines_are_valid.ensures.valid;
  in_range = c.accepted_lines_are_valid.ensures.in_range;
  limits = c.totals_are_kept.ensures.limits;
  few = c.totals_are_kept.ensures.piece;
  soon = c.totals_are_kept.ensures.end;
  order = c.accepted_pieces_can_be_written.ensures.order;
  last = c.accepted_pieces_can_be_written.ensures.last;
}) c.files_read_back.ensures.read
