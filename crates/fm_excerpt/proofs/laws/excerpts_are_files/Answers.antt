use Rattle.fm_excerpt.proofs.FileLemmas.{excerpt_in_range, excerpt_in_time, excerpt_last, excerpt_file, excerpt_again}
use Rattle.fm_excerpt.proofs.laws.excerpts_are_files.Goals as goal

pub returns-clause-range : goal.returns-clause-range
returns-clause-range c = excerpt_in_range

pub returns-clause-order : goal.returns-clause-order
returns-clause-order c = excerpt_in_time

pub returns-clause-last : goal.returns-clause-last
returns-clause-last c = excerpt_last

pub returns-clause-read : goal.returns-clause-read
returns-clause-read c = excerpt_file

pub returns-clause-again : goal.returns-clause-again
returns-clause-again c = excerpt_again
