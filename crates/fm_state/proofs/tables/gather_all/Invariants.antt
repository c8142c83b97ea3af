-- So many events were appended.
use Rattle.std.proofs.Common.{◌≡◌, ◌++◌, take}
use Rattle.fm_state.proofs.tables.gather_all.Given as goal

abbrev pub invariant-loop-event : goal.invariant-loop-event
invariant-loop-event l =
    l.gather ≡ record l.initial.gather { events = l.initial.gather.events ++ take l.event-index l.events }
