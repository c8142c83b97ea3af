-- What a call of a value leaves that is given two places.
use Rattle.std.specs.Prelude.{◌≡◌, ℕ, List}
use Rattle.std.specs.Fn.{Once}
use denote.Ref.{MutBor}

-- at a `&mut` to x and one to a slice, it may give r, and leave x' and these bytes there
pub record ReturnsInto {F T R : Type 0}
    (g : Once F (MutBor T × (MutBor (List ℕ) × Unit {0})) (R × (MutBor T × (MutBor (List ℕ) × Unit {0}))))
    (f : F) (x : T) (bytes : List ℕ) (r : R) (x' : T) (bytes' : List ℕ) : Type 0 where
  pub shown : MutBor T
  pub given : MutBor (List ℕ)
  pub shows : shown.now ≡ x
  pub gives : given.now ≡ bytes
  pub left : MutBor T
  pub filled : MutBor (List ℕ)
  pub met : g.post f (shown, (given, tt)) (r, (left, (filled, tt)))
  pub leaves : left.now ≡ x'
  pub fills : filled.now ≡ bytes'
