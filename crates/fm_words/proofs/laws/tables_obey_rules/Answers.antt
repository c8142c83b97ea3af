use Rattle.fm_words.proofs.CommandRules.{follows}
use Rattle.fm_words.proofs.SettingsRules.{all_texts}
use Rattle.fm_words.proofs.laws.tables_obey_rules.Goals as goal

pub returns : goal.returns
returns c = λ table ok. follows table _ ok (all_texts c.args.words.now)
