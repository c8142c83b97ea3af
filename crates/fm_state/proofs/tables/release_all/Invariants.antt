-- So many events were appended.
use Rattle.std.proofs.Common.{◌≡◌, ◌++◌, take, vec_capacity}
use Rattle.fm_state.proofs.tables.release_all.Given as goal

abbrev pub invariant-loop-event : goal.invariant-loop-event
invariant-loop-event l =
    (l.released.items ≡ l.initial.released.items ++ take l.event-index l.events)
    × (vec_capacity l.released ≡ vec_capacity l.initial.released)
