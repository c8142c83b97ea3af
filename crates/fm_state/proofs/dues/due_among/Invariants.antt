-- What was counted and what is due of the rest is all that is due.
use Rattle.std.proofs.Common.{◌≡◌, ◌+◌, ◌≤◌, drop}
use Rattle.fm_core.specs.Taking.{count_due}
use Rattle.fm_state.proofs.dues.due_among.Given as goal

abbrev pub invariant-loop-event : goal.invariant-loop-event
invariant-loop-event l =
    (l.count ≤ l.event-index) × (l.count + count_due l.due (drop l.event-index l.events) ≡ count_due l.due l.events)
