use Rattle.std.proofs.Common.{◌≡◌, ◌<◌, length}
use Rattle.std.specs.Prelude.{slice_get}
use Rattle.fm_read.specs.Files.{tracks}
use Rattle.fm_read.proofs.file.File.track.Given as goal

abbrev pub invariant-loop-chunk : goal.invariant-loop-chunk
invariant-loop-chunk l = record {
  same : slice_get (tracks l.chunks) l.left ≡ slice_get (tracks l.initial.chunks) l.number;
  there : l.left < length (tracks l.chunks);
}

abbrev pub decreases-loop-chunk : goal.decreases-loop-chunk
decreases-loop-chunk l = length l.chunks
