-- What is set on a channel at a tick: the value of the last message up to it.
use Rattle.std.specs.Prelude.{ℕ, nat_le, if◌then◌else◌, List, [], ◌∷◌, ◌++◌, Option}
use Rattle.fm_msg.specs.declared.msg.Msg.{Msg}
use Rattle.fm_excerpt.specs.Last.{last_value, program_of, bend_of, control_of}

-- the messages up to a tick, those at it too
abbrev pub up_to : ℕ → List (ℕ × Msg) → List Msg
up_to tick [] = []
up_to tick (x ∷ xs) = (if nat_le x.0 tick then x.1 ∷ [] else []) ++ up_to tick xs

-- the program of a channel at a tick, where one was set
abbrev pub program_at : ℕ → ℕ → List (ℕ × Msg) → Option ℕ
program_at c tick list = last_value (program_of c) (up_to tick list)

-- the value of a controller
abbrev pub control_at : ℕ → ℕ → ℕ → List (ℕ × Msg) → Option ℕ
control_at c k tick list = last_value (control_of c k) (up_to tick list)

-- the bend
abbrev pub bend_at : ℕ → ℕ → List (ℕ × Msg) → Option ℕ
bend_at c tick list = last_value (bend_of c) (up_to tick list)
