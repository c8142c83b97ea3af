use Rattle.fm_meaning.proofs.Versions.{first_version_fixes, last_version_fixes, division_in_range}
use Rattle.fm_meaning.proofs.laws.versions_fix_their_rules.Goals as goal

pub returns-clause-first : goal.returns-clause-first
returns-clause-first c = first_version_fixes

pub returns-clause-last : goal.returns-clause-last
returns-clause-last c = last_version_fixes

pub returns-clause-least : goal.returns-clause-least
returns-clause-least c = λ s. (division_in_range s).least

pub returns-clause-most : goal.returns-clause-most
returns-clause-most c = λ s. (division_in_range s).most
