use Rattle.fm_top.proofs.Listed.{found_fault}
use Rattle.fm_top.proofs.listing.read_file.Goals as goal

pub returns-in-Err-clause-err : goal.returns-in-Err-clause-err
returns-in-Err-clause-err c = found_fault _ _ _ _ c.requires c.number.ensures c.in-Err.ensures.err
