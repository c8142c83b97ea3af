use Rattle.std.proofs.Common.{◌≡◌, []}
use Rattle.fm_strand.specs.Strand.{InCourse}
use Rattle.fm_play_tests.proofs.strand.cuts.make_quanta.Given as goal

abbrev pub invariant-loop-quantum : goal.invariant-loop-quantum
invariant-loop-quantum l = record {
  course : InCourse l.plan l.strand;
  room : l.out.room ≡ l.fn.room;
  empty : l.gather.events ≡ [];
  space : l.gather.capacity ≡ l.fn.room;
}
