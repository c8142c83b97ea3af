-- How many looks bring a sweep to a process: those that are in turn, one after another.
use Rattle.std.specs.Prelude.{◌≡◌, ◌≤◌, ◌<◌, ℕ, suc, ◌+◌, List, [], ◌∷◌, length, Bool, true, ◌||◌, nat_eq}
use Rattle.fm_core.specs.Sweep.{swept}
use Rattle.fm_core.specs.declared.sight.Sight.{Sight}

-- a look at this process is in turn: it is 0, the next of the sweep, or the last in it
abbrev pub in_turn : List Sight → ℕ → Bool
in_turn seen p = nat_eq p 0 || nat_eq p (length seen) || nat_eq (p + 1) (length seen)

-- each of these looks, of a process and what is seen of it, is in turn after those before it
abbrev pub AllInTurn : List Sight → List (ℕ × Sight) → Type 0
AllInTurn seen [] = Unit {0}
AllInTurn seen (look ∷ looks) = (in_turn seen look.0 ≡ true) × AllInTurn (swept seen look.0 look.1) looks

-- the sweep after these looks
abbrev pub swept_by : List Sight → List (ℕ × Sight) → List Sight
swept_by seen [] = seen
swept_by seen (look ∷ looks) = swept_by (swept seen look.0 look.1) looks

-- at least one look is made, all are in turn, and then the process t is the last in the sweep
pub record Reaches (seen : List Sight) (t : ℕ) (looks : List (ℕ × Sight)) : Type 0 where
  pub some : 0 < length looks
  pub turns : AllInTurn seen looks
  pub stands : length (swept_by seen looks) ≡ suc t

-- so many looks that reach the process t, whatever is seen at them
pub record Way (seen : List Sight) (t n : ℕ) : Type 0 where
  pub looks : List (ℕ × Sight)
  pub count : length looks ≡ n
  pub reaches : Reaches seen t looks

-- n is the least number of looks that reach the process t, whatever they see
pub record IsLeastLooks (seen : List Sight) (t n : ℕ) : Type 0 where
  pub enough : Way seen t n
  pub least : (looks : List (ℕ × Sight)) → Reaches seen t looks → n ≤ length looks
