-- What every state that can be reached promises whoever plays it.
use Rattle.std.specs.Prelude.{◌≡◌, ℕ, ◌+◌, ◌*◌, ◌<◌, ◌≤◌, length, false}
use Rattle.fm_line.specs.Line.{line, upper}
use Rattle.fm_line.specs.Piece.{IsPrefix, piece}
use Rattle.fm_core.specs.State.{Setting, State, cell}
use Rattle.fm_core.specs.Sweep.{bound}
use Rattle.fm_core.specs.Tags.{is_ended}
use Rattle.fm_core.specs.Taking.{outbox}

-- the event j of the process q is still to be computed
pub record IsToCome (g : Setting) (h : State) (q j : ℕ) : Type 0 where
  pub process : q < length h.cells
  pub behind : (cell h q).computed ≤ j
  pub there : j < length (line g.lines q).events

-- what is released is a beginning of the piece, no outbox passes its room, the gather holds at most processes times room,
-- and no computed event is more than the lead past an event that is still to be computed, nor past the bound below which
-- a process that is not ended gives no event
pub record IsOrderly (g : Setting) (h : State) : Type 0 where
  pub released : IsPrefix h.released (piece g.lines)
  pub outboxes : (p : ℕ) → p < length h.cells → length (outbox (line g.lines p) (cell h p)) ≤ g.room
  pub gather : length h.gather ≤ length h.cells * g.room
  pub lead : (p k q j : ℕ) → p < length h.cells → k < (cell h p).computed → IsToCome g h q j
      → upper (line g.lines p) k ≤ upper (line g.lines q) j + g.lead
  pub bounds : (p k q : ℕ) → p < length h.cells → k < (cell h p).computed → q < length h.cells
      → is_ended (cell h q).tag ≡ false → upper (line g.lines p) k ≤ bound g h q + g.lead
