-- The rounds in which processes were last visited.
use Rattle.std.specs.Prelude.{◌≡◌, ℕ, ◌^◌, ◌<◌, ◌≤◌, List, length, map, All, not, nat_eq}
use Rattle.std.specs.List.{count_by}

-- no mark is of a later round, and so many processes have none of this one
pub record AreMarks (round : ℕ) (marks : List ℕ) (missing : ℕ) : Type 0 where
  pub past : All (λ mark. mark ≤ round) marks
  pub few : length marks < 2 ^ 32
  pub counted : missing ≡ count_by not (map (nat_eq round) marks)
