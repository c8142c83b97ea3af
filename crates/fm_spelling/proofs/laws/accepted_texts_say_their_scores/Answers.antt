use Rattle.fm_spelling.proofs.Files.{file_is, is_file, says_score}
use Rattle.fm_spelling.proofs.laws.accepted_texts_say_their_scores.Goals as goal

pub returns-clause-says : goal.returns-clause-says
returns-clause-says c = says_score

pub returns-clause-whole : goal.returns-clause-whole
returns-clause-whole c = λ text bytes score means. (file_is text bytes score means, is_file text bytes score means)
