-- The state of the core, and what is read from it.
use Rattle.std.specs.Prelude.{ℕ, ◌-◌, List, [], ◌∷◌, replicate, Bool, false, ◌&&◌, nat_eq, slice_index_or}
use Rattle.fm_line.specs.declared.line.Line.{Line}
use Rattle.fm_core.specs.Tags.{is_held}
use Rattle.fm_core.specs.declared.cell.Cell.{Cell}
use Rattle.fm_core.specs.declared.due.Due.{Due}
use Rattle.fm_core.specs.declared.due.Due.TheVariants.{Nothing}
use Rattle.fm_core.specs.declared.floor.Floor.{Floor}
use Rattle.fm_core.specs.declared.floor.Floor.TheVariants.{At}
use Rattle.fm_core.specs.declared.sight.Sight.{Sight}
use Rattle.fm_core.specs.declared.tag.Tag.TheVariants.{Unborn, Home}
use Rattle.fm_msg.specs.Event.{TimedMessage}

-- what never changes: the lines, the room of an outbox, and how far ahead of the floor events are computed
pub record Setting : Type 0 where
  pub lines : List Line
  pub room : ℕ
  pub lead : ℕ

-- what a seat keeps: the looks of its sweep, and the floor that it last paced
pub record Desk : Type 0 where
  pub sweep : List Sight
  pub paced : Floor

-- the whole state: the processes, the floor, the seats, and what seat 0 has due, visited, gathered and released
pub record State : Type 0 where
  pub cells : List Cell
  pub floor : Floor
  pub desks : List Desk
  pub due : Due
  pub visited : List Bool
  pub gather : List TimedMessage
  pub released : List TimedMessage

-- a process before its start
abbrev pub unborn : Cell
unborn = record { tag = Unborn; clock = 0; seat = 0; computed = 0; taken = 0; recorded = false }

-- process 0 at the opening
abbrev pub root : Cell
root = record { tag = Home; clock = 0; seat = 0; computed = 0; taken = 0; recorded = false }

-- what a seat keeps at the opening
abbrev pub no_desk : Desk
no_desk = record { sweep = []; paced = At 0 }

-- the process of this number in a list of processes
abbrev pub cell_in : List Cell → ℕ → Cell
cell_in cs p = slice_index_or cs p unborn

-- the process of this number
abbrev pub cell : State → ℕ → Cell
cell h p = cell_in h.cells p

-- what the seat of this number keeps
abbrev pub desk : State → ℕ → Desk
desk h s = slice_index_or h.desks s no_desk

-- whether the process was visited since the last publish
abbrev pub visited : State → ℕ → Bool
visited h p = slice_index_or h.visited p false

-- process 0 at home with clock 0, all others unborn, all sweeps empty, nothing due
abbrev pub opening : ℕ → ℕ → State
opening processes seats = record {
  cells = root ∷ replicate (processes - 1) unborn;
  floor = At 0;
  desks = replicate seats no_desk;
  due = Nothing;
  visited = replicate processes false;
  gather = [];
  released = [];
}

-- whether this seat holds the process
abbrev pub held_by : ℕ → Cell → Bool
held_by s c = is_held c.tag && nat_eq c.seat s
