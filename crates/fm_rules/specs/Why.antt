-- The numbers of the faults of a score, and how they are written.
use Rattle.std.specs.Prelude.{ℕ, List, ◌++◌, codes}
use Rattle.std.specs.Fmt as written
use Rattle.fm_lex.specs.declared.spot.Spot.{Spot}
use Rattle.fm_meaning.specs.Fault.{NumberedFault, double_name, unknown_name, out_of_range, not_ticks, fork_in_choice, play_outside_rhythm, index_outside_loop, too_deep, too_many_processes, too_many_operations, too_long, too_many_events, too_many_steps}
use Rattle.fm_rules.specs.declared.why.Why as reasons
use Rattle.fm_rules.specs.declared.why.Why.TheVariants.{DoubleName, UnknownName, OutOfRange, NotTicks, ForkInChoice, PlayOutsideRhythm, IndexOutsideLoop, TooDeep, TooManyProcesses, TooManyOperations, TooLong, TooManyEvents, TooManySteps}

-- the number of a fault
abbrev pub why_number : reasons.Why → ℕ
why_number DoubleName = double_name
why_number UnknownName = unknown_name
why_number OutOfRange = out_of_range
why_number NotTicks = not_ticks
why_number ForkInChoice = fork_in_choice
why_number PlayOutsideRhythm = play_outside_rhythm
why_number IndexOutsideLoop = index_outside_loop
why_number TooDeep = too_deep
why_number TooManyProcesses = too_many_processes
why_number TooManyOperations = too_many_operations
why_number TooLong = too_long
why_number TooManyEvents = too_many_events
why_number TooManySteps = too_many_steps

-- how a fault is written
abbrev pub why_text : reasons.Why → List ℕ
why_text why = codes "fault " ++ written.decimal (why_number why)

-- the fault at a spot
abbrev pub fault_at : Spot → reasons.Why → NumberedFault
fault_at spot why = record { spot = spot; number = why_number why }
