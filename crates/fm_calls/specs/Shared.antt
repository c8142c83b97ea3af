-- What the seats of a board share.
use Rattle.atomic_table.specs.Seated.{TableId}
use Rattle.fm_board.specs.declared.about.About.{About}
use Rattle.fm_board.specs.declared.board.Board.{Board}

-- the table of their words, and what is played over it: a plan, with a room and a lead
pub record Shared : Type 0 where
  pub table : TableId
  pub about : About

-- that of a board
abbrev pub of_board : Board → Shared
of_board board = record { table = board.table.shared.table_id; about = board.about }
