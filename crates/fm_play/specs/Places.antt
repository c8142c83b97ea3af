-- Where processes end, and where the ends of several meet.
use Rattle.std.specs.Prelude.{◌≡◌, ℕ, zero, suc, List, [], ◌∷◌, ◌++◌, Option, Some, None}
use Rattle.fm_nest.specs.declared.place.Place.{Place}
use Rattle.fm_program.specs.Parts.{PlanParts}
use Rattle.fm_strand.specs.Course.{end_place, later_place}

-- two places lie in the same levels
pub record HasLevelsOf (a b : Place) : Type 0 where
  pub depth : a.depth ≡ b.depth
  pub origins : a.origins ≡ b.origins

-- the later one of a place, where there is one, and another
abbrev pub met_place : Option Place → Place → Place
met_place None end = end
met_place (Some a) end = later_place a end

-- where the first n processes end
abbrev pub ends_below : PlanParts → ℕ → List Place
ends_below p zero = []
ends_below p (suc n) = ends_below p n ++ end_place p n ∷ []
