use Rattle.std.proofs.Common.{◌∙◌, sym}
use Rattle.fm_words.proofs.SettingsRules.{all_texts, broken_where_none, none_where_broken, settings_are}
use Rattle.fm_words.proofs.laws.words_obey_rules.Goals as goal

pub returns-clause-settings : goal.returns-clause-settings
returns-clause-settings c = settings_are _ (all_texts c.args.words.now)

pub returns-clause-refused : goal.returns-clause-refused
returns-clause-refused c = λ none. broken_where_none _ (sym (settings_are _ (all_texts c.args.words.now)) ∙ none)

pub returns-clause-taken : goal.returns-clause-taken
returns-clause-taken c = λ broken. settings_are _ (all_texts c.args.words.now) ∙ none_where_broken _ broken
