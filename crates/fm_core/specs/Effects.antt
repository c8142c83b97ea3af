-- What an allowed step does.
use Rattle.std.specs.Prelude.{ℕ, ◌+◌, ◌-◌, List, [], ◌∷◌, ◌++◌, length, take, replicate, Bool, true, false, ◌&&◌, if◌then◌else◌, nat_eq, Option, slice_set}
use Rattle.fm_line.specs.Line.{line, start}
use Rattle.fm_line.specs.Piece.{sorted}
use Rattle.fm_core.specs.Floors.{floor_of}
use Rattle.fm_core.specs.State.{Setting, Desk, State, cell, desk}
use Rattle.fm_core.specs.Steps.{Allowed}
use Rattle.fm_core.specs.Sweep.{sighted, swept, least}
use Rattle.fm_core.specs.Tags.{has_nothing, claimed_tag, given_tag}
use Rattle.fm_core.specs.Taking.{is_due, outbox, due_of}
use Rattle.fm_core.specs.declared.cell.Cell.{Cell}
use Rattle.fm_core.specs.declared.due.Due.TheVariants.{Nothing}
use Rattle.fm_core.specs.declared.sight.Sight.{Sight}
use Rattle.fm_core.specs.declared.step.Step.{Step}
use Rattle.fm_core.specs.declared.step.Step.TheVariants.{Look, Claim, Start, Record, Recall, Give, Publish, Pace, Release}
use Rattle.fm_core.specs.declared.tag.Tag.TheVariants.{Out}

-- one process changes
abbrev pub with_cell : State → ℕ → Cell → State
with_cell h p c = record h { cells = slice_set h.cells p c }

-- what one seat keeps changes
abbrev pub with_desk : State → ℕ → Desk → State
with_desk h s d = record h { desks = slice_set h.desks s d }

-- a claim gives the process to the seat, with the same clock
abbrev pub claimed : Cell → ℕ → Cell
claimed c s = record c { tag = claimed_tag c.tag; seat = s }

-- a start gives the process to the seat, at the start of its line
abbrev pub begun : Setting → Cell → ℕ → ℕ → Cell
begun g c s p = record c { tag = Out; clock = start g.lines p; seat = s }

-- the process was recorded
abbrev pub noted : Cell → Cell
noted c = record c { recorded = true }

-- a process that comes home: so many events more taken and computed, with this clock
abbrev pub given : ℕ → Cell → ℕ → ℕ → ℕ → Bool → Cell
given room c t n now ends = record {
  tag = given_tag room ends (c.computed + n - (c.taken + t));
  clock = now;
  seat = 0;
  computed = c.computed + n;
  taken = c.taken + t;
  recorded = c.recorded;
}

-- seat 0's give visits the process while something is due
abbrev pub visits_by_give : State → ℕ → ℕ → List Bool
visits_by_give h s p = if nat_eq s 0 && is_due h.due then slice_set h.visited p true else h.visited

-- seat 0's look visits a process of which nothing is to be taken
abbrev pub visits_by_look : State → ℕ → ℕ → List Bool
visits_by_look h s p = if nat_eq s 0 && has_nothing (cell h p).tag then slice_set h.visited p true else h.visited

-- a look enters what it saw, and leaves the paced floor
abbrev pub looked : State → ℕ → ℕ → Sight → State
looked h s p x = record h {
  desks = slice_set h.desks s (record (desk h s) { sweep = swept (desk h s).sweep p x });
  visited = visits_by_look h s p;
}

-- a publish makes the least pair the floor and due; nothing is visited then, and the sweep of seat 0 is empty
abbrev pub published : State → Option (ℕ × ℕ) → State
published h w = record h {
  floor = floor_of w;
  desks = slice_set h.desks 0 (record (desk h 0) { sweep = [] });
  due = due_of w;
  visited = replicate (length h.cells) false;
}

-- what an allowed step leaves
abbrev pub after : Setting → State → Step → State
after g h (Look s p) = looked h s p (sighted g h (desk h s).sweep p)
after g h (Claim s p) = with_cell h p (claimed (cell h p) s)
after g h (Start s p) = with_cell h p (begun g (cell h p) s p)
after g h (Record s p) = with_cell h p (noted (cell h p))
after g h (Recall s p) = h
after g h (Give s p t n now ends) = record h {
  cells = slice_set h.cells p (given g.room (cell h p) t n now ends);
  visited = visits_by_give h s p;
  gather = h.gather ++ take t (outbox (line g.lines p) (cell h p));
}
after g h Publish = published h (least (desk h 0).sweep)
after g h (Pace s) = with_desk h s (record (desk h s) { paced = h.floor })
after g h (Release k) = record h {
  due = Nothing;
  gather = [];
  released = h.released ++ sorted h.gather;
}

-- each step of the list is allowed in its turn
abbrev pub Legal : Setting → State → List Step → Type 0
Legal g h [] = Unit {0}
Legal g h (s ∷ ss) = Allowed g h s × Legal g (after g h s) ss

-- what a list of steps leaves
abbrev pub run : Setting → State → List Step → State
run g h [] = h
run g h (s ∷ ss) = run g (after g h s) ss
