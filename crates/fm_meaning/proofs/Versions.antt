-- What every version keeps, and what each one fixes in numbers.
use Rattle.std.proofs.Common.{◌≡◌, ℕ, ◌≤◌, ◌==◌, Bool, true, false, Option, None, Some, refl, arith}
use Rattle.std.specs.Prelude.{if◌then◌else◌}
use Rattle.fm_grammar.specs.declared.number.Number.{Number}
use Rattle.fm_grammar.specs.Score.{Score}
use Rattle.fm_meaning.specs.Rules.{first_rules, last_rules, last_version, division_of, score_rules}

-- a score has at most 16,384 processes
pub few_processes : (s : Score) → (score_rules s).most_processes ≤ 16384
few_processes s = by (s.version.value == last_version)
  where
    by : (b : Bool) → (if b then last_rules (division_of s.division) else first_rules).most_processes ≤ 16384
    by true = omega arith
    by false = omega arith

-- and may have one
pub some_processes : (s : Score) → 1 ≤ (score_rules s).most_processes
some_processes s = by (s.version.value == last_version)
  where
    by : (b : Bool) → 1 ≤ (if b then last_rules (division_of s.division) else first_rules).most_processes
    by true = omega arith
    by false = omega arith

-- the ticks of a quarter note that a score may state
pub record InDivisions (n : ℕ) : Type 0 where
  pub least : 24 ≤ n
  pub most : n ≤ 960

in_divisions : (stated : Option Number) → InDivisions (division_of stated)
in_divisions None = record { least = omega arith; most = omega arith }
in_divisions (Some n) = record { least = omega arith; most = omega arith }

-- a quarter note has 24 to 960 ticks
pub division_in_range : (s : Score) → InDivisions (score_rules s).profile.division
division_in_range s = by (s.version.value == last_version)
  where
    by : (b : Bool) → InDivisions (if b then last_rules (division_of s.division) else first_rules).profile.division
    by true = in_divisions s.division
    by false = record { least = omega arith; most = omega arith }

-- in version 1 nothing depends on the score
pub first_version_fixes : (s : Score) → s.version.value ≡ 1 → score_rules s ≡ first_rules
first_version_fixes s is = rw is refl

-- in version 2 the score states the ticks of a quarter note, else they are 480
pub last_version_fixes : (s : Score) → s.version.value ≡ 2 → score_rules s ≡ last_rules (division_of s.division)
last_version_fixes s is = rw is refl

none_stated : division_of None ≡ 480
none_stated = refl
