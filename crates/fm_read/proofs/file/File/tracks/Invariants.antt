use Rattle.std.proofs.Common.{◌≡◌, ◌+◌, ◌≤◌, length}
use Rattle.fm_read.specs.Files.{tracks}
use Rattle.fm_read.proofs.file.File.tracks.Given as goal

abbrev pub invariant-loop-chunk : goal.invariant-loop-chunk
invariant-loop-chunk l = record {
  same : l.count + length (tracks l.chunks) ≡ length (tracks l.initial.chunks);
  few : l.count + length l.chunks ≤ length l.initial.chunks;
}

abbrev pub decreases-loop-chunk : goal.decreases-loop-chunk
decreases-loop-chunk l = length l.chunks
