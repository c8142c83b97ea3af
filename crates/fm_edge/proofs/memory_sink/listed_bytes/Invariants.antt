use Rattle.std.proofs.Common.{◌≡◌, drop}
use Rattle.fm_edge.specs.SinkMemory.{listed}
use Rattle.fm_edge.proofs.memory_sink.listed_bytes.Given as goal

abbrev pub invariant-loop-number : goal.invariant-loop-number
invariant-loop-number l = listed l.failing l.call ≡ listed (drop l.number-index l.failing) l.call
