-- What holds between two rounds.
use Rattle.std.specs.Prelude.{◌≡◌, ℕ, ◌≤◌, List, [], ◌++◌, length, map, All, IfSome}
use Rattle.fm_edge.specs.Seen.{SinkSeen}
use Rattle.fm_msg.specs.Event.{TimedMessage}
use Rattle.fm_buffer.specs.Gather.{EventGather}
use Rattle.fm_line.specs.declared.line.Line.{Line}
use Rattle.fm_line.specs.Piece.{piece, sorted}
use Rattle.fm_program.specs.Parts.{PlanParts}
use Rattle.fm_program.specs.Process.{plan_lines}
use Rattle.fm_smf.specs.Writing.{Written, Writes}
use Rattle.fm_round.specs.Lefts.{OwnFrom, joined}
use Rattle.fm_round.specs.Lanes.{AllLanes, lefts, room_of, room_sum}
use Rattle.fm_round.specs.declared.lane.Lane.{Lane}

-- `done` was released of the lines, and these lists are left: what is left in its order is the rest of the piece
pub record Playing (ls : List Line) (done : List TimedMessage) (lefts : List (List TimedMessage)) : Type 0 where
  pub whole : done ++ sorted (joined lefts) ≡ piece ls
  pub own : OwnFrom 0 lefts

module _ {K : Type 0} (seen : SinkSeen K) where
  -- between two rounds: so many events of the piece are written since the sink was as in `begin`, and the rest is left;
  -- each outbox has this room
  pub record Between (p : PlanParts) (room : ℕ) (begin now : K) (first writer : Written) (ss : List Lane)
      (gather : EventGather) (events : ℕ) : Type 0 where
    pub done : List TimedMessage
    pub many : events ≡ length done
    pub playing : Playing (plan_lines p) done (lefts p (plan_lines p) ss)
    pub writes : Writes seen begin now done first writer
    pub at_end : IfSome (seen.content now) (λ c. length c ≡ writer.put)
    pub count : length ss ≡ length p.programs
    pub lanes : AllLanes p ss
    pub some : 1 ≤ room
    pub rooms : All (λ r. r ≡ room) (map room_of ss)
    pub empty : gather.events ≡ []
    pub space : room_sum (map room_of ss) ≤ gather.capacity
