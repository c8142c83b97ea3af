-- How long a worker rests.
use Rattle.std.specs.Prelude.{ℕ, nat_lt, if◌then◌else◌}
use Rattle.fm_rest.specs.declared.idle.TheConstants.{LONGEST_REST, LONGEST_WAIT, VAIN_TURNS}

-- the longest wait after so many turns in a row that found nothing, in microseconds
abbrev pub longest_wait : ℕ → ℕ
longest_wait vain = if nat_lt vain VAIN_TURNS then LONGEST_WAIT else LONGEST_REST
