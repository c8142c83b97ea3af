-- The rules of a version as the meaning of a score has them.
use Rattle.fm_meaning.specs.Rules.{VersionRules}
use Rattle.fm_rules.specs.declared.rules.Rules as code

-- the rules
abbrev pub rules_view : code.Rules → VersionRules
rules_view r = record { profile = r.profile; whole_note = r.whole_note; most_processes = r.most_processes }
