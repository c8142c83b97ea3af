-- What each version fixes, in numbers.
use Rattle.std.proofs.Common.{◌≡◌, true, false, refl}
use Rattle.fm_meaning.specs.Rules.{first_version, last_version, first_rules, last_rules}
use Rattle.fm_rules.specs.declared.rules.TheConstants.{FIRST_VERSION, LAST_VERSION}

first : FIRST_VERSION ≡ first_version
first = refl

last : LAST_VERSION ≡ last_version
last = refl

-- in version 1 a whole note has 1,920 ticks
first_rules_are : first_rules ≡ record { profile = record { running = false; division = 480 }; whole_note = 1920; most_processes = 4096 }
first_rules_are = refl

-- in version 2 it has four times the ticks that the score states
last_rules_are : last_rules 96 ≡ record { profile = record { running = true; division = 96 }; whole_note = 384; most_processes = 16384 }
last_rules_are = refl
