use Rattle.fm_play_tests.proofs.shapes.steady.Goals as goal

pub returns-clause-is : goal.returns-clause-is
returns-clause-is c = (c.stretch.result, c.in_ok-warp.ensures.is, c.stretch.ensures)
