-- What is known of a plan that fits, in the form in which it is played.
use Rattle.std.proofs.Common.{◌≡◌, ◌<◌, ℕ, map, length, get_or}
use Rattle.fm_line.specs.Line.{ValidLines}
use Rattle.fm_program.specs.Parts.{PlanParts, process_program}
use Rattle.fm_program.specs.Process.{plan_lines}
use Rattle.fm_program.specs.Fit.{PartsFit}
use Rattle.fm_strand.specs.Course.{end_place, meeting_place, start_place}
use Rattle.fm_strand.proofs.MeetLemmas.{end-levels, starts-meeting}
use Rattle.fm_strand.proofs.ValidLemmas.{lines-valid}
use Rattle.fm_play.specs.Places.{HasLevelsOf}

-- the lines of a plan are valid
pub plan_valid : (p : PlanParts) → PartsFit p → ValidLines (plan_lines p)
plan_valid p fits = lines-valid p fits

-- a process starts where the ends of its predecessors meet
pub starts_where_ends_meet : (p : PlanParts) (j : ℕ) → PartsFit p → j < length p.programs
    → start_place p j ≡ meeting_place (map (end_place p) (process_program p j).predecessors)
starts_where_ends_meet p j fits there = starts-meeting p j fits there

-- which lie in its levels
pub ends_in_levels : (p : PlanParts) (j k : ℕ) → PartsFit p → j < length p.programs
    → k < length (process_program p j).predecessors
    → HasLevelsOf (end_place p (get_or (process_program p j).predecessors k 0)) (start_place p j)
ends_in_levels p j k fits there within =
    let levels = end-levels p j k fits there within in record { depth = levels.0; origins = levels.1 }
