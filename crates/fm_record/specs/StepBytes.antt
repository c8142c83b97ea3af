-- The bytes of steps: a kind, then the step's fields, each number with its most significant byte first.
use Rattle.std.specs.Prelude.{◌≡◌, ℕ, ◌/◌, ◌%◌, ◌^◌, ◌<◌, ◌≤◌, List, [], ◌∷◌, ◌++◌, length, take, Bool, true, false}
use Rattle.fm_core.specs.declared.step.Step.{Step}
use Rattle.fm_core.specs.declared.step.Step.TheVariants.{Look, Claim, Start, Record, Recall, Give, Publish, Pace, Release}

-- a number in two bytes
abbrev pub two : ℕ → List ℕ
two n = (n / 256) ∷ (n % 256) ∷ []

-- a number in four bytes
abbrev pub four : ℕ → List ℕ
four n = two (n / 65536) ++ two (n % 65536)

-- a number in six bytes
abbrev pub six : ℕ → List ℕ
six n = two (n / 4294967296) ++ four (n % 4294967296)

-- the clocks of a record are below this: they have six bytes
abbrev pub clock_bound : ℕ
clock_bound = 2 ^ 48

-- an answer in one byte
abbrev pub flag : Bool → ℕ
flag true = 1
flag false = 0

-- the bytes of a step
abbrev pub step_bytes : Step → List ℕ
step_bytes (Look s p) = 1 ∷ s ∷ two p
step_bytes (Claim s p) = 2 ∷ s ∷ two p
step_bytes (Start s p) = 3 ∷ s ∷ two p
step_bytes (Record s p) = 4 ∷ s ∷ two p
step_bytes (Recall s p) = 5 ∷ s ∷ two p
step_bytes (Give s p t n clock ends) = 6 ∷ s ∷ two p ++ t ∷ two n ++ six clock ++ flag ends ∷ []
step_bytes Publish = 7 ∷ []
step_bytes (Pace s) = 8 ∷ s ∷ []
step_bytes (Release k) = 9 ∷ four k

-- each field fits its bytes
abbrev pub HasFields : Step → Type 0
HasFields (Look s p) = (s < 256) × (p < 65536)
HasFields (Claim s p) = (s < 256) × (p < 65536)
HasFields (Start s p) = (s < 256) × (p < 65536)
HasFields (Record s p) = (s < 256) × (p < 65536)
HasFields (Recall s p) = (s < 256) × (p < 65536)
HasFields (Give s p t n clock ends) =
    (s < 256) × (p < 65536) × (t < 256) × (n < 65536) × (clock < clock_bound)
HasFields Publish = Unit {0}
HasFields (Pace s) = s < 256
HasFields (Release k) = k < 4294967296

-- the bytes of steps, one after the other
abbrev pub steps_bytes : List Step → List ℕ
steps_bytes [] = []
steps_bytes (s ∷ ss) = step_bytes s ++ steps_bytes ss

-- the fields of each step fit their bytes
abbrev pub HaveFields : List Step → Type 0
HaveFields [] = Unit {0}
HaveFields (s ∷ ss) = HasFields s × HaveFields ss

-- the bytes are those of steps
pub record AreSteps (bytes : List ℕ) : Type 0 where
  pub steps : List Step
  pub fits : HaveFields steps
  pub same : bytes ≡ steps_bytes steps

-- the bytes begin with a step
pub record Begins (bytes : List ℕ) : Type 0 where
  pub step : Step
  pub fits : HasFields step
  pub rest : List ℕ
  pub same : bytes ≡ step_bytes step ++ rest

-- the first n of the bytes are those of this step
pub record IsFirst (bytes : List ℕ) (s : Step) (n : ℕ) : Type 0 where
  pub fits : HasFields s
  pub whole : n ≤ length bytes
  pub same : take n bytes ≡ step_bytes s
