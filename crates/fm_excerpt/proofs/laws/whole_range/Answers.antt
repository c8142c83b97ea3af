use Rattle.fm_excerpt.proofs.RangeLemmas.{whole_list, whole_end, whole_file}
use Rattle.fm_excerpt.proofs.laws.whole_range.Goals as goal

pub returns-clause-own : goal.returns-clause-own
returns-clause-own c = whole_list

pub returns-clause-end : goal.returns-clause-end
returns-clause-end c = whole_end

pub returns-clause-file : goal.returns-clause-file
returns-clause-file c = whole_file
