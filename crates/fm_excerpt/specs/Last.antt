-- What the last messages of their kinds set on a channel.
use Rattle.std.specs.Prelude.{ℕ, ◌&&◌, ◌==◌, if◌then◌else◌, List, [], ◌∷◌, Option, Some, None}
use Rattle.fm_msg.specs.declared.msg.Msg.{Msg}
use Rattle.fm_msg.specs.declared.msg.Msg.TheVariants.{On, Off, Control, Program, Bend}

-- the first value, or where there is none the second
abbrev pub or_else : {A : Type 0} → Option A → Option A → Option A
or_else (Some x) y = Some x
or_else None y = y

-- the value of the last message that has one
abbrev pub last_value : {A : Type 0} → (Msg → Option A) → List Msg → Option A
last_value f [] = None
last_value f (m ∷ ms) = or_else (last_value f ms) (f m)

-- the program that a message sets on a channel
abbrev pub program_of : ℕ → Msg → Option ℕ
program_of c (On channel key velocity) = None
program_of c (Off channel key) = None
program_of c (Control channel controller value) = None
program_of c (Program channel program) = if channel == c then Some program else None
program_of c (Bend channel bend) = None

-- the bend that it sets
abbrev pub bend_of : ℕ → Msg → Option ℕ
bend_of c (On channel key velocity) = None
bend_of c (Off channel key) = None
bend_of c (Control channel controller value) = None
bend_of c (Program channel program) = None
bend_of c (Bend channel bend) = if channel == c then Some bend else None

-- the value of a controller that it sets
abbrev pub control_of : ℕ → ℕ → Msg → Option ℕ
control_of c k (On channel key velocity) = None
control_of c k (Off channel key) = None
control_of c k (Control channel controller value) =
    if (channel == c) && (controller == k) then Some value else None
control_of c k (Program channel program) = None
control_of c k (Bend channel bend) = None
