-- Places that strands reach are within the limits.
use Rattle.fm_program.specs.Parts.{PlanParts}
use Rattle.fm_player.proofs.PlaceLemmas as inner
use Rattle.fm_strand.specs.declared.strand.Strand.{Strand}
use Rattle.fm_strand.specs.Course.{PlaceFits}
use Rattle.fm_strand.specs.Strand.{InCourse, place_reached}
pub use Rattle.fm_player.proofs.PlaceLemmas.{end-fits, start-fits}

pub place-fits : (p : PlanParts) (s : Strand) → InCourse p s → PlaceFits (place_reached p s)
unfolding place_reached
place-fits p s course = inner.place-fits p s.player course.course
