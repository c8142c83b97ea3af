-- What passed through a handle of the host.
use Rattle.std.specs.Prelude.{◌≡◌, ℕ, ◌+◌, ◌≤◌, List, [], length, take, Bool, false, Option, Some, None, IfSome}
use Rattle.fm_edge.specs.Calls.{Calls, uncalled}
use Rattle.fm_edge.specs.Content.{overwritten}

-- the bytes that are known to be there, and the position of the next one
pub record Held : Type 0 where
  pub bytes : List ℕ
  pub position : ℕ

-- nothing passed yet: the file is new and empty, or none of it was read
abbrev pub nothing_held : Held
nothing_held = record { bytes = []; position = 0 }

-- a piece passed at the position, which is behind it now
abbrev pub written : Held → List ℕ → Held
written h piece = record {
  bytes = overwritten h.bytes h.position piece;
  position = h.position + length piece;
}

-- the position was moved
abbrev pub moved : Held → ℕ → Held
moved h at = record { bytes = h.bytes; position = at }

-- some front of the piece was written
abbrev pub WritesFront : Held → Held → List ℕ → Type 0
WritesFront old new piece = (n : ℕ) × (n ≤ length piece) × (new ≡ written old (take n piece))

-- the position is behind all bytes
abbrev pub IsAtEnd : Held → Type 0
IsAtEnd h = h.position ≡ length h.bytes

-- a handle of the host, and how often it was called
pub record Called (W : Type 0) : Type 0 where
  pub inner : W
  pub calls : Calls

-- a handle of the host, how often it was called, and what passed through it
pub record Passed (W : Type 0) : Type 0 where
  pub handle : W
  pub calls : Calls
  pub held : Held

-- the position of an open handle is behind all bytes
abbrev pub StandsAtEnd : {W : Type 0} → Option (Passed W) → Type 0
StandsAtEnd file = IfSome file (λ w. IsAtEnd w.held)

-- what was read: by the handle while it is open, and what was kept of it where it is closed
abbrev pub read_by : {W : Type 0} → Option (Passed W) → Held → List ℕ
read_by None closed = closed.bytes
read_by (Some w) closed = w.held.bytes

-- how often a handle was called: while it is open, and what was kept of that where it is closed
abbrev pub calls_by : {W : Type 0} → Option (Passed W) → Calls → Calls
calls_by None closed = closed
calls_by (Some w) closed = w.calls

-- what the reads of a file gave, whether they showed its end, and how often its handle was called
pub record Given : Type 0 where
  pub bytes : List ℕ
  pub ended : Bool
  pub calls : Calls

-- the same of a file that may not be open yet
abbrev pub given_by : Option Given → Given
given_by None = record { bytes = []; ended = false; calls = uncalled }
given_by (Some given) = given

-- what is in a file that is written, and how often its handle was called
pub record Kept : Type 0 where
  pub bytes : List ℕ
  pub calls : Calls

-- the same of a file that may not be open yet
abbrev pub kept_by : Option Kept → Kept
kept_by None = record { bytes = []; calls = uncalled }
kept_by (Some kept) = kept
