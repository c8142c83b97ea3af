-- What holds of every state that can be reached.
use Rattle.std.specs.Prelude.{◌≡◌, ℕ, ◌+◌, ◌<◌, ◌≤◌, ◌⊎◌, List, [], ◌∷◌, ◌++◌, length, take, true, false, if◌then◌else◌, nat_eq, slice_index_or}
use Rattle.fm_line.specs.Line.{line, event_at, upper, start, ValidLines}
use Rattle.fm_line.specs.Piece.{IsPrefix, IsPiece}
use Rattle.fm_core.specs.Floors.{floor_le}
use Rattle.fm_core.specs.State.{Setting, State, cell, desk, visited}
use Rattle.fm_core.specs.Sweep.{sight, bound}
use Rattle.fm_core.specs.Tags.{is_unborn, is_ended, is_held, has_left}
use Rattle.fm_core.specs.Taking.{covers}
use Rattle.fm_core.specs.declared.cell.Cell.{Cell}
use Rattle.fm_core.specs.declared.due.Due.TheVariants.{Nothing, Pair, Everything}
use Rattle.fm_core.specs.declared.floor.Floor.TheVariants.{At, Done}
use Rattle.fm_core.specs.declared.tag.Tag.TheVariants.{Home, Full, EndedOut, Drained}
use Rattle.fm_msg.specs.Event.{TimedMessage}

-- valid lines, and outboxes that hold at least one event
pub record ValidSetting (g : Setting) : Type 0 where
  pub lines : ValidLines g.lines
  pub some_room : 0 < g.room

-- what holds of one process and its line
pub record Fits (g : Setting) (p : ℕ) (c : Cell) : Type 0 where
  -- no more taken than computed, no more computed than the line has, no more in the outbox than the room
  pub taken : c.taken ≤ c.computed
  pub computed : c.computed ≤ length (line g.lines p).events
  pub boxed : c.computed ≤ c.taken + g.room
  -- what the tag says
  pub unborn : is_unborn c.tag ≡ true → c.computed ≡ 0
  pub home : c.tag ≡ Home → c.computed < c.taken + g.room
  pub full : c.tag ≡ Full → c.computed ≡ c.taken + g.room
  pub recorded : is_ended c.tag ≡ true → c.recorded ≡ true
  pub whole : is_ended c.tag ≡ true → c.computed ≡ length (line g.lines p).events
  pub left : has_left c.tag ≡ true → c.taken < c.computed
  pub drained : c.tag ≡ Drained → c.taken ≡ c.computed
  -- a born clock lies from the line's start to the next event, or to the end
  pub begun : is_unborn c.tag ≡ false → start g.lines p ≤ c.clock
  pub timed : is_unborn c.tag ≡ false → c.clock ≤ upper (line g.lines p) c.computed
  pub at_end : is_ended c.tag ≡ true → c.clock ≡ (line g.lines p).end
  -- only seat 0 holds an ended process
  pub ended_out : c.tag ≡ EndedOut → c.seat ≡ 0

-- the pair (m, i) is at most the time t and process p of an event
abbrev pub NotBelow : ℕ → ℕ → ℕ → ℕ → Type 0
NotBelow m i t p = (m < t) ⊎ ((m ≡ t) × (i ≤ p))

-- the events of one process among these
abbrev pub of_process : ℕ → List TimedMessage → List TimedMessage
of_process p [] = []
of_process p (e ∷ es) = if nat_eq e.process p then e ∷ of_process p es else of_process p es

-- what holds of every state that can be reached
pub record Sound (g : Setting) (h : State) : Type 0 where
  -- the shape: one process a line, one mark a process, some seat, a born first process, no sweep that is too long,
  -- and no event of a process that is not there
  pub lined : length h.cells ≡ length g.lines
  pub marked : length h.visited ≡ length h.cells
  pub crew : 0 < length h.desks
  pub root : is_unborn (cell h 0).tag ≡ false
  pub short : (s : ℕ) → s < length h.desks → length (desk h s).sweep ≤ length h.cells
  pub named : (k : ℕ) → k < length (h.released ++ h.gather)
      → (slice_index_or (h.released ++ h.gather) k (event_at 0)).process < length h.cells
  -- each process fits its line
  pub fits : (p : ℕ) → p < length h.cells → Fits g p (cell h p)
  -- all predecessors of a born process are ended
  pub after_all : (p i : ℕ) → p < length h.cells → is_unborn (cell h p).tag ≡ false
      → i < length (line g.lines p).predecessors
      → is_ended (cell h (slice_index_or (line g.lines p).predecessors i 0)).tag ≡ true
  -- a held process has a seat that is there, and a seat holds at most one
  pub seated : (p : ℕ) → p < length h.cells → is_held (cell h p).tag ≡ true → (cell h p).seat < length h.desks
  pub alone : (p q : ℕ) → p < length h.cells → q < length h.cells → is_held (cell h p).tag ≡ true
      → is_held (cell h q).tag ≡ true → (cell h p).seat ≡ (cell h q).seat → p ≡ q
  -- a sweep is not ahead of the processes: no clock seen passes the bound, and who was seen ended is ended
  pub seen : (s i : ℕ) → s < length h.desks → i < length (desk h s).sweep
      → (sight (desk h s).sweep i).clock ≤ bound g h i
  pub seen_ended : (s i : ℕ) → s < length h.desks → i < length (desk h s).sweep
      → (sight (desk h s).sweep i).ended ≡ true
      → (is_ended (cell h i).tag ≡ true) × ((sight (desk h s).sweep i).clock ≡ (line g.lines i).end)
  -- the floor is right: no seat paced past it, who is not ended stays above it, nothing computed passes its lead
  pub paced : (s : ℕ) → s < length h.desks → floor_le (desk h s).paced h.floor ≡ true
  pub floored : (f p : ℕ) → h.floor ≡ At f → p < length h.cells → is_ended (cell h p).tag ≡ false → f ≤ bound g h p
  pub swept_high : (f i : ℕ) → h.floor ≡ At f → i < length (desk h 0).sweep → (sight (desk h 0).sweep i).ended ≡ false
      → f ≤ (sight (desk h 0).sweep i).clock
  pub led : (f p k : ℕ) → h.floor ≡ At f → p < length h.cells → k < (cell h p).computed
      → upper (line g.lines p) k ≤ f + g.lead
  pub done : (p : ℕ) → h.floor ≡ Done → p < length h.cells → is_ended (cell h p).tag ≡ true
  pub done_seen : (i : ℕ) → h.floor ≡ Done → i < length (desk h 0).sweep → (sight (desk h 0).sweep i).ended ≡ true
  -- what is due is the floor, and nothing that is still to be computed lies below it
  pub due_floor : (m i : ℕ) → h.due ≡ Pair m i → h.floor ≡ At m
  pub due_rest : (m i p k : ℕ) → h.due ≡ Pair m i → p < length h.cells → (cell h p).computed ≤ k
      → k < length (line g.lines p).events → NotBelow m i (upper (line g.lines p) k) p
  pub due_all : h.due ≡ Everything → h.floor ≡ Done
  -- what is released and gathered is what was taken; a visited process has given all that is due
  pub kept : (p : ℕ) → p < length h.cells
      → of_process p (h.released ++ h.gather) ≡ take (cell h p).taken (line g.lines p).events
  pub not_due : h.due ≡ Nothing → h.gather ≡ []
  pub gathered_due : (k : ℕ) → k < length h.gather → covers h.due (slice_index_or h.gather k (event_at 0)) ≡ true
  pub gathered : (p : ℕ) → p < length h.cells → length (of_process p h.gather) ≤ (if visited h p then g.room else 0)
  pub visited_below : (m i p k : ℕ) → h.due ≡ Pair m i → p < length h.cells → visited h p ≡ true
      → (cell h p).taken ≤ k → k < length (line g.lines p).events → NotBelow m i (upper (line g.lines p) k) p
  pub visited_all : (p : ℕ) → h.due ≡ Everything → p < length h.cells → visited h p ≡ true
      → (cell h p).taken ≡ length (line g.lines p).events
  -- what is released is a beginning of the piece
  pub prefix : (piece : List TimedMessage) → IsPiece g.lines piece → IsPrefix h.released piece
