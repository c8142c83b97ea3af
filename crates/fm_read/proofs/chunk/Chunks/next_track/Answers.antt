use Rattle.std.proofs.Common.{length, ap, arith}
use Rattle.fm_read.specs.Kept.{joined_parts}
use Rattle.fm_read.specs.Views.{as_part}
use Rattle.fm_read.proofs.Few.{first_few}
use Rattle.fm_read.proofs.chunk.Chunks.next_track.Goals as goal

pub returns-then-has_kind-clause-few : goal.returns-then-has_kind-clause-few
returns-then-has_kind-clause-few c =
    omega (
      arith,
      ap length c.of_body.ensures,
      first_few (as_part c.in-Some.chunk) c.next.new.self,
      ap (λ ps. length (joined_parts ps)) c.in-Some.ensures.given,
      c.loop-chunk.invariant.within,
    )
