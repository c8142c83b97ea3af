use Rattle.fm_spelling.proofs.Files.{one_file}
use Rattle.fm_spelling.proofs.laws.each_text_is_one_file.Goals as goal

pub returns : goal.returns
returns c = one_file
