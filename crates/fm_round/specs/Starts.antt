-- What is left where each process that can start was started.
use Rattle.std.specs.Prelude.{◌≡◌, ℕ, ◌≤◌, List, length, map}
use Rattle.fm_program.specs.Parts.{PlanParts}
use Rattle.fm_program.specs.Process.{plan_lines}
use Rattle.fm_round.specs.Lanes.{AllLanes, AllStarted, lefts, loads, room_of, lane}
use Rattle.fm_round.specs.declared.lane.Lane.{Lane}

-- each process that can start has started, and nothing else is changed
pub record Starts (p : PlanParts) (old new : List Lane) : Type 0 where
  pub lanes : AllLanes p new
  pub started : AllStarted p new (length new)
  pub same : lefts p (plan_lines p) new ≡ lefts p (plan_lines p) old
  pub rooms : map room_of new ≡ map room_of old
  pub loads : loads p 0 new ≡ loads p 0 old

-- some processes have started, and nothing else is changed
pub record StartsSome (p : PlanParts) (old new : List Lane) : Type 0 where
  pub lanes : AllLanes p new
  pub ended : (i : ℕ) → (lane new i).ended ≡ (lane old i).ended
  pub same : lefts p (plan_lines p) new ≡ lefts p (plan_lines p) old
  pub rooms : map room_of new ≡ map room_of old
  pub loads : loads p 0 new ≡ loads p 0 old

-- processes behind `before` have, and nothing else is changed
pub record StartsBehind (p : PlanParts) (before : ℕ) (old new : List Lane) : Type 0 where
  pub some : StartsSome p old new
  pub front : (j : ℕ) → j ≤ before → lane new j ≡ lane old j

-- the process j may have started, and nothing else is changed
pub record Begins (p : PlanParts) (j : ℕ) (old new : List Lane) : Type 0 where
  pub some : StartsSome p old new
  pub others : (i : ℕ) → (i ≡ j → ⊥) → lane new i ≡ lane old i
