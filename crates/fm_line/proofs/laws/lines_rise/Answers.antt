use Rattle.fm_line.proofs.Pieces.{line_rises}
use Rattle.fm_line.proofs.Rising.{rises_part}
use Rattle.fm_line.proofs.laws.lines_rise.Goals as goal

pub returns-clause-lines : goal.returns-clause-lines
returns-clause-lines c = line_rises

pub returns-clause-parts : goal.returns-clause-parts
returns-clause-parts c = λ xs from count. rises_part from count xs
