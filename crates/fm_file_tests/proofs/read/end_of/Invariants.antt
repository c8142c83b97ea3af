use Rattle.std.proofs.Common.{◌≡◌, ◌+◌, ◌*◌, ◌^◌, ◌≤◌, length}
use Rattle.fm_read.specs.Written.{time_after}
use Rattle.fm_file_tests.proofs.read.end_of.Given as goal

abbrev pub invariant-loop-entry : goal.invariant-loop-entry
invariant-loop-entry l = record {
  same : time_after l.now l.entries ≡ time_after 0 l.initial.entries;
  early : l.now + 2 ^ 32 * length l.entries ≤ 2 ^ 57;
}

abbrev pub decreases-loop-entry : goal.decreases-loop-entry
decreases-loop-entry l = length l.entries
