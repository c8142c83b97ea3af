-- Worked plans that tests locate ticks in: a branch in one level, and a process in two.
use Rattle.std.specs.Prelude.{ℕ, List, [], ◌∷◌, pos, false}
use Rattle.std.proofs.Math.Nat.{le-add_right}
use Rattle.fm_program.specs.declared.op.Draw.TheVariants as draw
use Rattle.fm_program.specs.declared.op.Op.{Op}
use Rattle.fm_program.specs.declared.op.Op.TheVariants as op
use Rattle.fm_program.specs.declared.op.Span.TheVariants as span
use Rattle.fm_program.specs.declared.op.Turn.TheVariants as turn
use Rattle.fm_program.specs.Parts.{StockParts, ProgramParts, PlanParts}
use Rattle.fm_strand.specs.Worked.{stretch_by}
use Rattle.fm_warp.specs.declared.part.Part.{Part}
use Rattle.fm_warp.specs.declared.part.Part.TheVariants as part

-- a thousand ticks at half the time
abbrev pub half_parts : List Part
half_parts = part.Flat 1000 (stretch_by 500 (le-add_right 1 499) (le-add_right 500 999500)) ∷ []

-- a million ticks, all but a thousandth of them taken out
abbrev pub hurried_parts : List Part
hurried_parts = part.Flat 1000000 (stretch_by 1 (le-add_right 1 0) (le-add_right 1 999999)) ∷ []

-- tables with a chord and these deformations
abbrev pub stock_with : List (List Part) → StockParts
stock_with warps = record {
  exprs = [];
  lists = [];
  chords = (draw.Fixed (pos 60) ∷ []) ∷ [];
  scopes = [] ∷ [];
  warps = warps;
}

-- a program in these levels, after these processes
abbrev pub program_in : List ℕ → List ℕ → List Op → ProgramParts
program_in levels predecessors ops =
    record { ops = ops; cycles = []; levels = levels; predecessors = predecessors }

-- a plan of these tables and programs, without a draw
abbrev pub plan_of : StockParts → List ProgramParts → PlanParts
plan_of stock programs = record {
  stock = stock;
  programs = programs;
  seed = 0;
  profile = record { running = false; division = 480 };
}

-- a quarter note of the chord
abbrev pub quarter_note : Op
quarter_note = op.Note 0 (span.Ticks 480) 0 (turn.Steady 90) (turn.Steady 64) 0

-- a rest of so many ticks
abbrev pub rest_of : ℕ → Op
rest_of ticks = op.Rest (span.Ticks ticks) 0

-- a level at half the time, from the beginning: in it 100 ticks, then a branch of one note, and the level's end
abbrev pub branch_plan : PlanParts
branch_plan = plan_of (stock_with (half_parts ∷ []))
    (program_in [] [] (op.Enter 0 ∷ rest_of 100 ∷ [])
    ∷ program_in (0 ∷ []) (0 ∷ []) (quarter_note ∷ [])
    ∷ program_in (0 ∷ []) (1 ∷ []) (op.Leave ∷ []) ∷ [])

-- a level at half the time, begun at 10, in it one that takes ticks out, begun at 40, and there a process at 1000
abbrev pub nested_plan : PlanParts
nested_plan = plan_of (stock_with (half_parts ∷ hurried_parts ∷ []))
    (program_in [] [] (rest_of 10 ∷ op.Enter 0 ∷ rest_of 40 ∷ op.Enter 1 ∷ rest_of 1000 ∷ [])
    ∷ program_in (0 ∷ 1 ∷ []) (0 ∷ []) [] ∷ [])
