-- So many empty sweeps, each with memory for all processes.
use Rattle.std.proofs.Common.{◌≡◌, map, replicate}
use Rattle.fm_core.specs.State.{no_desk}
use Rattle.fm_state.specs.Stored.{desk_of, AreDesks}
use Rattle.fm_state.proofs.tables.empty_desks.Given as goal

abbrev pub invariant-loop : goal.invariant-loop
invariant-loop l = (map desk_of l.desks.items ≡ replicate l.counter no_desk) × AreDesks l.processes l.desks.items
