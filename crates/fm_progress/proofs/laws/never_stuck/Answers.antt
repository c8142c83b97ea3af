use Rattle.fm_progress.proofs.ComesToEnd.{comes_to_end}
use Rattle.fm_progress.proofs.NeverStuck.{goes_on, ends_there}
use Rattle.fm_progress.proofs.laws.never_stuck.Goals as goal

pub returns : goal.returns
returns c = record { goes_on = goes_on; ends_there = ends_there; comes_to_end = comes_to_end }
