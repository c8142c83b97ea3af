-- What contracts see of a tape.
use Rattle.std.specs.Prelude.{ℕ, List, Bool}

-- what stands before the steps, the bytes of the steps, and whether a step is missing
pub record Recording : Type 0 where
  pub head : List ℕ
  pub steps : List ℕ
  pub short : Bool
