-- Where a note ends.
use Rattle.std.specs.Prelude.{ℕ, ◌+◌, ◌*◌, ◌/◌}

-- the onset and a percentage of the duration, rounded down to a tick
abbrev pub note_end : ℕ → ℕ → ℕ → ℕ
note_end on duration gate = on + duration * gate / 100
