use Rattle.std.proofs.Common.{◌≡◌, ◌≤◌, length}
use Rattle.fm_read.specs.Files.{tracks}
use Rattle.fm_read.specs.Kept.{behind_track, joined_parts}
use Rattle.fm_read.proofs.chunk.Chunks.next_track.Given as goal

abbrev pub invariant-loop-chunk : goal.invariant-loop-chunk
invariant-loop-chunk l = record {
  same : tracks l.self ≡ tracks l.initial.self;
  passed : behind_track l.self ≡ behind_track l.initial.self;
  within : length (joined_parts l.self) ≤ length (joined_parts l.initial.self);
  fewer : length l.self ≤ length l.initial.self;
}

abbrev pub decreases-loop-chunk : goal.decreases-loop-chunk
decreases-loop-chunk l = length l.self
