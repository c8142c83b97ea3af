-- The worked plan of notes that overlap fits.
use Rattle.std.proofs.Common.{arith, false, ◌≡◌, refl, sym, ◌∙◌, ap, subst, List, [], ◌∷◌, map}
use Rattle.fm_msg.specs.declared.profile.Profile.{Profile}
use Rattle.fm_line.specs.Line.{total}
use Rattle.fm_program.specs.declared.program.Program.{Program}
use Rattle.fm_program.specs.declared.stock.Stock.{Stock}
use Rattle.fm_program.specs.Parts.{StockParts, ProgramParts, PlanParts, plan_parts, program_parts, stock_parts}
use Rattle.fm_program.specs.Process.{plan_played, plan_lines}
use Rattle.fm_program.specs.Fit.{PartsFit, all_steps}
use Rattle.fm_program.proofs.Rows.{fits_by}
use Rattle.fm_strand.specs.Worked.{ring_program, ring_stock}

-- the plan
abbrev ring_plan : PlanParts
ring_plan = record {
  stock = ring_stock;
  programs = ring_program ∷ [];
  seed = 0;
  profile = record { running = false; division = 480 };
}

-- it takes so many steps
ring_steps : all_steps (plan_played ring_plan) ≡ 40
ring_steps = refl

-- and has so many events
ring_events : total (plan_lines ring_plan) ≡ 36
ring_events = refl

-- it fits
pub ring_fits : PartsFit ring_plan
ring_fits = fits_by _ (omega arith) (omega arith) refl refl refl refl refl refl (rw ring_steps (omega arith)) (rw ring_events (omega arith))

-- a plan of these parts fits
pub ring_of : (stock : Stock) (programs : List Program) (program : Program) (profile : Profile) → stock_parts stock ≡ ring_stock
    → programs ≡ program ∷ [] → program_parts program ≡ ring_program → profile ≡ ring_plan.profile
    → PartsFit (plan_parts stock programs 0 profile)
ring_of stock programs program profile tables one does writes = subst PartsFit (sym same) ring_fits
  where
    of : StockParts → List ProgramParts → Profile → PlanParts
    of t ps f = record { stock = t; programs = ps; seed = 0; profile = f }

    same : plan_parts stock programs 0 profile ≡ ring_plan
    same =
        ap (λ (t : StockParts). of t (map program_parts programs) profile) tables
        ∙ ap (λ (ps : List Program). of ring_stock (map program_parts ps) profile) one
        ∙ ap (λ (p : ProgramParts). of ring_stock (p ∷ []) profile) does
        ∙ ap (of ring_stock (ring_program ∷ [])) writes
