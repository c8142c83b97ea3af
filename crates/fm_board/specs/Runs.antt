-- The steps of a run, by the seats that made them.
use Rattle.std.specs.Prelude.{◌≡◌, ◌⊎◌, ℕ, List, [], ◌∷◌, ◌++◌, if◌then◌else◌, nat_eq}
use Rattle.fm_core.specs.declared.step.Step.{Step}
use Rattle.fm_board.specs.declared.view.Log.{Log}
use Rattle.fm_core.specs.declared.step.Step.TheVariants.{Look, Claim, Start, Record, Recall, Give, Publish, Pace, Release}

-- the seat that makes a step; seat 0 alone publishes and releases
abbrev pub seat_of : Step → ℕ
seat_of (Look s p) = s
seat_of (Claim s p) = s
seat_of (Start s p) = s
seat_of (Record s p) = s
seat_of (Recall s p) = s
seat_of (Give s p t n now ends) = s
seat_of Publish = 0
seat_of (Pace s) = s
seat_of (Release k) = 0

-- the steps of a run that this seat made, in their order
abbrev pub by_seat : ℕ → List Step → List Step
by_seat k [] = []
by_seat k (x ∷ xs) = if nat_eq (seat_of x) k then x ∷ by_seat k xs else by_seat k xs

-- the first list begins with the second
abbrev pub BeginsWith : List Step → List Step → Type 0
BeginsWith xs ys = (zs : List Step) × (xs ≡ ys ++ zs)

-- what a seat has seen begins with all that it had seen; where the seat made a step since, those of it that are its own
-- are just the steps that it made
pub record Extends (k : ℕ) (old new : Log) : Type 0 where
  pub order : BeginsWith new.seen old.seen
  pub own : (new ≡ old) ⊎ (new.mine ≡ by_seat k new.seen)
