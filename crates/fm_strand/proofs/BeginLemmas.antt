-- A strand at its start.
use Rattle.std.proofs.Common.{◌≡◌, ◌∙◌, ap, arith, ℕ, ◌<◌, List, [], length, sym}
use Rattle.fm_line.specs.Line.{line, start}
use Rattle.fm_line.specs.Sounds.{Sound, clock_with, come_out_after, numbered, come_out}
use Rattle.fm_program.specs.Parts.{PlanParts}
use Rattle.fm_program.specs.Process.{plan_lines}
use Rattle.fm_player.specs.declared.player.Player.{Player}
use Rattle.fm_player.specs.Ahead.{sounds}
use Rattle.fm_player.specs.Player as player
use Rattle.fm_strand.specs.declared.strand.Strand.{Strand}
use Rattle.fm_strand.specs.Course.{steps_of}
use Rattle.fm_strand.specs.Strand.{InCourse, clock_of, rest, steps_left}
use Rattle.fm_strand.proofs.RoomLemmas.{none-at-off}

-- where nothing waits and nothing was given
abbrev pub begun : ℕ → Player → List Sound → Strand
begun j pl ws = record { process = j; player = pl; waiting = ws; given = 0 }

pub begun-clock : (p : PlanParts) (j : ℕ) (pl : Player) (ws : List Sound) → ws ≡ []
    → player.clock_of p pl ≡ start (plan_lines p) j → clock_of p (begun j pl ws) ≡ start (plan_lines p) j
unfolding clock_of
begun-clock p j pl ws none is = ap (λ (vs : List Sound). clock_with (player.clock_of p pl) vs) none ∙ is

pub begun-steps : (p : PlanParts) (j : ℕ) (pl : Player) (ws : List Sound) → ws ≡ [] → player.steps_left p pl ≡ steps_of p j
    → steps_left p (begun j pl ws) ≡ steps_of p j
unfolding steps_left
begun-steps p j pl ws none is = let empty = ap length none in omega arith

pub begun-rest : (p : PlanParts) (j : ℕ) (pl : Player) (ws : List Sound) → ws ≡ []
    → (line (plan_lines p) j).events ≡ numbered j 0 (come_out (sounds p pl) (line (plan_lines p) j).end)
    → rest p (begun j pl ws) ≡ (line (plan_lines p) j).events
unfolding rest
begun-rest p j pl ws none is =
    ap (λ (vs : List Sound). numbered j 0 (come_out_after vs (sounds p pl) (line (plan_lines p) j).end)) none ∙ sym is

pub begun-course : (p : PlanParts) (j : ℕ) (pl : Player) (ws : List Sound) → ws ≡ [] → j < length p.programs → pl.process ≡ j
    → player.InCourse p pl → pl.note.given ≡ 0
    → (line (plan_lines p) j).events ≡ numbered j 0 (come_out (sounds p pl) (line (plan_lines p) j).end)
    → player.steps_left p pl ≡ steps_of p j → InCourse p (begun j pl ws)
begun-course p j pl ws none below same course fresh is steps =
    let empty : length ws ≡ 0 = ap length none in
    let all = begun-steps p j pl ws none steps in record {
      fits = course.fits;
      process = below;
      same = same;
      course = course;
      joined = none-at-off pl.note fresh;
      few = omega arith;
      room = λ begun. absurd (omega arith);
      numbers = omega arith;
      moved = λ more. absurd (omega arith);
      follows = begun-rest p j pl ws none is;
    }
