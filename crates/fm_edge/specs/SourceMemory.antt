-- A source in memory, and what its next read does.
use Rattle.std.specs.Prelude.{ℕ, List, Bool, drop, max, Ok, Err, Result, nat_eq}
use Rattle.std.specs.List.{list_any}
use Rattle.fm_edge.specs.Causes.{raised}

-- what is left, the most bytes of a read, the numbers of the calls that fail, and the counts of calls and faults
pub record SourceMemory : Type 0 where
  pub left : List ℕ
  pub piece : ℕ
  pub failing : List ℕ
  pub calls : ℕ
  pub faults : ℕ

-- one of these bytes that was not called yet; a read takes at least one byte
abbrev pub new_source : List ℕ → ℕ → List ℕ → SourceMemory
new_source bytes piece failing =
    record { left = bytes; piece = max piece 1; failing = failing; calls = 0; faults = 0 }

-- the next call's number is listed
abbrev pub read_fails : SourceMemory → Bool
read_fails s = list_any (λ call. nat_eq call (raised s.calls)) s.failing

-- after a read of n bytes, or a failed one
abbrev pub after_read : {E : Type 0} → SourceMemory → Result ℕ E → SourceMemory
after_read s (Ok n) = record s { left = drop n s.left; calls = raised s.calls }
after_read s (Err e) = record s { calls = raised s.calls; faults = raised s.faults }
