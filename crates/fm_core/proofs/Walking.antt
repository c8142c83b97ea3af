-- Walks of the core in which a refused step changes nothing, and short words for what they leave.
use Rattle.std.proofs.Common.{ℕ, List, [], ◌∷◌, Bool, Option, Some, None}
use Rattle.fm_msg.specs.Event.{TimedMessage}
use Rattle.fm_msg.specs.declared.msg.Msg.TheVariants.{Off}
use Rattle.fm_core.specs.Effects.{after}
use Rattle.fm_core.specs.State.{Setting, State}
use Rattle.fm_core.specs.Steps.{reason}
use Rattle.fm_core.specs.declared.cell.Cell.{Cell}
use Rattle.fm_core.specs.declared.reason.Reason.{Reason}
use Rattle.fm_core.specs.declared.sight.Sight.{Sight}
use Rattle.fm_core.specs.declared.step.Step.{Step}
use Rattle.fm_core.specs.declared.tag.Tag.{Tag}

-- an event at this time of this process, with its index
abbrev pub on_at : ℕ → ℕ → ℕ → TimedMessage
on_at time process index = record { time = time; process = process; index = index; msg = Off 0 0 }

-- a process with this tag, clock, seat, events computed and taken, and whether it was recorded
abbrev pub at : Tag → ℕ → ℕ → ℕ → ℕ → Bool → Cell
at tag clock seat computed taken recorded =
    record { tag = tag; clock = clock; seat = seat; computed = computed; taken = taken; recorded = recorded }

-- a look that saw this clock, and whether the process was ended
abbrev pub seen : ℕ → Bool → Sight
seen clock ended = record { clock = clock; ended = ended }

-- what a step leaves, by what refuses it
abbrev pub next : Setting → State → Step → Option Reason → State
next g h s None = after g h s
next g h s (Some r) = h

-- what a list of steps leaves
abbrev pub result : Setting → State → List Step → State
result g h [] = h
result g h (s ∷ ss) = result g (next g h s (reason g h s)) ss

-- what refuses each of a list of steps
abbrev pub answers : Setting → State → List Step → List (Option Reason)
answers g h [] = []
answers g h (s ∷ ss) = reason g h s ∷ answers g (next g h s (reason g h s)) ss
