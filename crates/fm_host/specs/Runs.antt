-- A run of the command on a host.
use Rattle.std.specs.Prelude.{ℕ, List, String}
use Rattle.fm_edge.specs.Host.{FileRead, FileWritten, Terminal}
use Rattle.fm_top.specs.Files.{Ends, ReadsFor}
use Rattle.fm_top.specs.Tasks.{asked}

-- these words were done with this status: what was read of IN, what is in OUT, and the line on standard output are those of
-- an end that has this status
pub record IsRun {A : Type 0} (words : List (String A)) (status : ℕ) : Type 0 where
  pub source : FileRead
  pub sink : FileWritten
  pub console : Terminal
  pub reads : ReadsFor source (asked words)
  pub ends : Ends (asked words) source sink console status
