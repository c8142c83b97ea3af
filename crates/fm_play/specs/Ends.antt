-- Where a piece ends, and which lists of events a writer can still write.
use Rattle.std.specs.Prelude.{ℕ, ◌-◌, ◌≤◌, List, length}
use Rattle.fm_msg.specs.Event.{TimedMessage}
use Rattle.fm_line.specs.declared.line.Line.{Line}
use Rattle.fm_line.specs.Line.{line}
use Rattle.fm_smf.specs.Track.{events_bytes, last_time, NeverFalls}
use Rattle.fm_smf.specs.Writing.{Written, HasSpace}
use Rattle.fm_smf.specs.declared.limits.TheConstants.{MAX_TIME}

-- the end of the last line, at which no other line is still playing
abbrev pub piece_end : List Line → ℕ
piece_end ls = (line ls (length ls - 1)).end

-- the events follow the writer's last one, in time and within the track's greatest length
pub record CanFollow (w : Written) (events : List TimedMessage) : Type 0 where
  pub later : NeverFalls w.state.last events
  pub in_time : last_time w.state.last events ≤ MAX_TIME
  pub fits : HasSpace w.put (events_bytes w.state events)
