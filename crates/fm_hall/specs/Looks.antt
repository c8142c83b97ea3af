-- What a look enters in a sweep.
use Rattle.std.specs.Prelude.{ℕ}
use Rattle.fm_core.specs.Effects.{with_desk}
use Rattle.fm_core.specs.State.{Setting, State, desk}
use Rattle.fm_core.specs.Sweep.{sighted, swept}

-- a state in whose sweep of this seat a look at this process was entered
abbrev pub entered : Setting → State → ℕ → ℕ → State
entered g h s p = with_desk h s
    (record (desk h s) { sweep = swept (desk h s).sweep p (sighted g h (desk h s).sweep p) })
