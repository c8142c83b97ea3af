use Rattle.fm_board.proofs.Played.{done_whole}
use Rattle.fm_board.proofs.laws.done_tables_are_at_their_end.Goals as goal

pub returns : goal.returns
returns c = done_whole
