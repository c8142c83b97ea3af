-- Who runs the processes of a round: the caller's thread alone, or several.
use Rattle.std.specs.Prelude.{◌≡◌, ℕ, ◌+◌, ◌-◌, ◌^◌, ◌≤◌, List, length, map, min, All}
use denote.Ref.{Bor, MutBor}
use denote.Param.Members.{Shared}
use Rattle.fm_program.specs.Parts.{PlanParts}
use Rattle.fm_round.specs.Chain.{AreChained}
use Rattle.fm_round.specs.Lanes.{AllLanes, IsLeast, RunsAll, room_of}
use Rattle.fm_line.specs.declared.limits.TheConstants.{MAX_PROCESSES}
use Rattle.fm_round.specs.declared.lane.Lane.{Lane}

-- processes that may run, and the chain of those that may have something to do
pub record MayRun (p : PlanParts) (next : List ℕ) (ss : List Lane) : Type 0 where
  pub few : length ss ≤ MAX_PROCESSES
  pub lanes : AllLanes p ss
  pub chained : AreChained next ss

-- the limit of a round: the lead from the least clock of the processes that run
pub record IsAhead (p : PlanParts) (ss : List Lane) (lead limit : ℕ) : Type 0 where
  pub time : ℕ
  pub process : ℕ
  pub least : IsLeast p ss (length ss) time process
  pub is : limit ≡ min (time + lead) (2 ^ 64 - 1)

-- a round: its processes may run, each outbox has this room, and the limit is that of this lead
pub record IsRound (p : PlanParts) (room lead limit : ℕ) (next : List ℕ) (ss : List Lane) : Type 0 where
  pub may : MayRun p next ss
  pub rooms : All (λ r. r ≡ room) (map room_of ss)
  pub ahead : IsAhead p ss lead limit

-- what hands are given: the plan, the limit, the chain, and the processes
abbrev pub Given : Type 0
Given = Bor PlanParts × (ℕ × (Bor (List ℕ) × (MutBor (List Lane) × Unit {0})))

-- what they give back: the processes
abbrev pub GivenBack : Type 0
GivenBack = Unit {0} × (MutBor (List Lane) × Unit {0})

-- hands may be called in each round of this room and this lead, and then each process makes one quantum
pub record AreHands {H : Type 0} (g : Shared H Given GivenBack) (room lead : ℕ) (hands : H) : Type 0 where
  pub may : (plan : Bor PlanParts) (limit : ℕ) (next : Bor (List ℕ)) (lanes : MutBor (List Lane))
      → IsRound plan.now room lead limit next.now lanes.now → g.pre hands (plan, (limit, (next, (lanes, tt))))
  pub run : (plan : Bor PlanParts) (limit : ℕ) (next : Bor (List ℕ)) (lanes after : MutBor (List Lane))
      → g.post hands (plan, (limit, (next, (lanes, tt)))) (tt, (after, tt))
      → RunsAll plan.now limit lanes.now after.now

-- hands that may be called for this round
pub record CanRound {H : Type 0} (g : Shared H Given GivenBack) (hands : H) (p : PlanParts) (limit : ℕ) (next : List ℕ)
    (ss : List Lane) : Type 0 where
  pub room : ℕ
  pub lead : ℕ
  pub are : AreHands g room lead hands
  pub round : IsRound p room lead limit next ss
