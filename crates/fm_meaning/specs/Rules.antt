-- What a version of the language fixes, and the ranges of its numbers.
use Rattle.std.specs.Prelude.{ℕ, ◌*◌, max, min, true, false, ◌==◌, if◌then◌else◌, Option, Some, None}
use Rattle.fm_line.specs.declared.limits.TheConstants.{MAX_PROCESSES}
use Rattle.fm_msg.specs.declared.profile.Profile.{Profile}
use Rattle.fm_msg.specs.declared.profile.TheConstants.{DIVISION}
use Rattle.fm_msg.specs.declared.running.TheConstants.{LEAST_DIVISION, MOST_DIVISION}
use Rattle.fm_grammar.specs.declared.number.Number.{Number}
use Rattle.fm_grammar.specs.Score.{Score}

-- what depends on the head of a score: how its file is written, the ticks of a whole note, and how many processes it
-- may have
pub record VersionRules : Type 0 where
  pub profile : Profile
  pub whole_note : ℕ
  pub most_processes : ℕ

-- the first version of the language
abbrev pub first_version : ℕ
first_version = 1

-- the last version of the language
abbrev pub last_version : ℕ
last_version = 2

-- what the first version fixes: each status byte is written
abbrev pub first_rules : VersionRules
first_rules = record {
  profile = record { running = false; division = DIVISION };
  whole_note = 4 * DIVISION;
  most_processes = 4096;
}

-- what the last version fixes, by the ticks of a quarter note: status bytes are left out
abbrev pub last_rules : ℕ → VersionRules
last_rules division = record {
  profile = record { running = true; division = division };
  whole_note = 4 * division;
  most_processes = MAX_PROCESSES;
}

-- the ticks of a quarter note in the last version: as the score states them, within their range
abbrev pub division_of : Option Number → ℕ
division_of None = DIVISION
division_of (Some n) = min (max n.value LEAST_DIVISION) MOST_DIVISION

-- the rules of a score, which its version fixes
abbrev pub score_rules : Score → VersionRules
score_rules score =
    if score.version.value == last_version then last_rules (division_of score.division) else first_rules

-- how the file of a score is written
unfoldable pub profile_of : Score → Profile
profile_of score = (score_rules score).profile

-- ---- ranges of numbers

-- the most ticks of a length, and of the bound of a computed one
abbrev pub most_ticks : ℕ
most_ticks = 1000000

-- the greatest count of a loop
abbrev pub most_rounds : ℕ
most_rounds = 1000000

-- the greatest key, controller, control value, program and velocity
abbrev pub most_data : ℕ
most_data = 127

-- the greatest channel
abbrev pub most_channel : ℕ
most_channel = 15

-- the greatest articulation, in percent of the duration
abbrev pub most_gate : ℕ
most_gate = 400

-- how far a bend goes below 0, and how far above
abbrev pub bend_centre : ℕ
bend_centre = 8192

-- the greatest bend, counted from the lowest one
abbrev pub most_bend : ℕ
most_bend = 16383

-- how many pitches one statement has at most
abbrev pub most_pitches : ℕ
most_pitches = 16

-- ---- limits of depth

-- how many warps lie inside one another at most
abbrev pub most_warps : ℕ
most_warps = 8

-- how many loops and lists lie inside one another at most
abbrev pub most_frames : ℕ
most_frames = 16

-- how many blocks of any kind lie inside one another at most
abbrev pub most_blocks : ℕ
most_blocks = 64

-- ---- limits of a score

-- the most operations, once phrases and loops that fork are written out
abbrev pub most_operations : ℕ
most_operations = 262144

-- the most steps of all processes
abbrev pub most_steps : ℕ
most_steps = 16777216

-- ---- what stands where nothing is written

-- the articulation of notes outside all lists of articulation
abbrev pub usual_gate : ℕ
usual_gate = 90

-- the velocity of notes outside all lists of loudness
abbrev pub usual_velocity : ℕ
usual_velocity = 64
