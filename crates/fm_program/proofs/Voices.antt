-- A plan of three voices that fork and join fits.
use Rattle.std.proofs.Common.{◌≡◌, ℕ, List, [], ◌∷◌, refl, sym, subst, arith}
use Rattle.std.specs.Prelude.{pos}
use Rattle.fm_line.specs.Line.{total}
use Rattle.fm_program.specs.declared.op.Draw.TheVariants as draw
use Rattle.fm_program.specs.declared.op.Span.TheVariants as span
use Rattle.fm_program.specs.declared.op.Turn.TheVariants as turn
use Rattle.fm_program.specs.declared.op.Op.{Op}
use Rattle.fm_program.specs.declared.op.Op.TheVariants as op
use Rattle.fm_program.specs.Parts.{PlanParts, ProgramParts}
use Rattle.fm_program.specs.Process.{plan_lines, plan_played}
use Rattle.fm_program.specs.Fit.{PartsFit, all_steps}
use Rattle.fm_program.proofs.Rows.{fits_by, plain_profile}

-- a note of a chord
abbrev voice : ℕ → ℕ → Op
voice chord ticks = op.Note chord (span.Ticks ticks) 0 (turn.Steady 90) (turn.Steady 64) 0

-- a program that waits for these
abbrev waiting : List Op → List ℕ → ProgramParts
waiting ops predecessors = record { ops = ops; cycles = []; levels = []; predecessors = predecessors }

-- three voices between two empty processes
abbrev pub three_voices : PlanParts
three_voices = record {
  stock = record {
    exprs = [];
    lists = [];
    chords = (draw.Fixed (pos 60) ∷ []) ∷ (draw.Fixed (pos 64) ∷ []) ∷ (draw.Fixed (pos 67) ∷ []) ∷ [];
    scopes = [] ∷ [];
    warps = [];
  };
  programs = waiting [] [] ∷ waiting (voice 0 480 ∷ []) (0 ∷ []) ∷ waiting (voice 1 240 ∷ []) (0 ∷ [])
      ∷ waiting (voice 2 960 ∷ []) (0 ∷ []) ∷ waiting [] (1 ∷ 2 ∷ 3 ∷ []) ∷ [];
  seed = 0;
  profile = plain_profile;
}

-- it takes so many steps
three_steps : all_steps (plan_played three_voices) ≡ 9
three_steps = refl

-- and has so many events
three_events : total (plan_lines three_voices) ≡ 6
three_events = refl

-- it fits
three_fit : PartsFit three_voices
three_fit =
    fits_by _ (omega arith) (omega arith) refl refl refl refl refl refl (rw three_steps (omega arith)) (rw three_events (omega arith))

-- so does a plan that is the same
pub three_fit_as : (p : PlanParts) → p ≡ three_voices → PartsFit p
three_fit_as p is = subst PartsFit (sym is) three_fit
