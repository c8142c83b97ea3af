-- The latest of several places, one place after another.
use Rattle.std.proofs.Common.{◌≡◌, List, [], ◌∷◌, ◌++◌, Bool, true, false, Option, Some, None, IfSome, refl, sym, ap, ◌∙◌}
use Rattle.std.specs.Prelude.{nat_lt, if◌then◌else◌}
use Rattle.fm_nest.specs.declared.place.Place.{Place}
use Rattle.fm_strand.specs.Course.{latest_place, later_place, meeting_place, first_place}
use Rattle.fm_play.specs.Places.{HasLevelsOf, met_place}

-- the latest of some places, where there are some
abbrev pub latest_of : List Place → Option Place
latest_of [] = None
latest_of (a ∷ bs) = Some (latest_place a bs)

latest-append : (a : Place) (bs : List Place) (e : Place) → latest_place a (bs ++ e ∷ []) ≡ later_place (latest_place a bs) e
latest-append a [] e = refl
latest-append a (b ∷ bs) e = latest-append (later_place a b) bs e

-- the latest of one place more
pub latest_of-append : (xs : List Place) (e : Place) → latest_of (xs ++ e ∷ []) ≡ Some (met_place (latest_of xs) e)
latest_of-append [] e = refl
latest_of-append (a ∷ bs) e = ap (λ x. Some x) (latest-append a bs e)

-- where the latest of some places is, they meet
pub latest_meets : (xs : List Place) (a : Place) → latest_of xs ≡ Some a → meeting_place xs ≡ a
latest_meets [] a is = cc
latest_meets (x ∷ xs) a is = cc

-- where there is none, they are none
pub none_meets : (xs : List Place) → latest_of xs ≡ None → meeting_place xs ≡ first_place
none_meets [] is = refl
none_meets (x ∷ xs) is = cc

-- the later one of two places in the same levels lies in them
pub later_levels : (latest : Option Place) (end start : Place) → IfSome latest (λ a. HasLevelsOf a start) → HasLevelsOf end start
    → HasLevelsOf (met_place latest end) start
later_levels None end start before at = at
later_levels (Some a) end start before at = by_test (nat_lt a.position end.position)
  where
    by_test : (b : Bool) → HasLevelsOf (if b then end else a) start
    by_test true = at
    by_test false = before

-- places in the levels of the start lie in the same levels
pub levels_of_end : (latest : Option Place) (end start : Place) → IfSome latest (λ a. HasLevelsOf a start) → HasLevelsOf end start
    → IfSome latest (λ a. HasLevelsOf a end)
levels_of_end None end start before at = tt
levels_of_end (Some a) end start before at = record { depth = before.depth ∙ sym at.depth; origins = before.origins ∙ sym at.origins }
