-- A worked example: the last of three processes has two events, at 7 and 439; two seats, room 1, lead 0.
use Rattle.std.proofs.Common.{◌≡◌, List, [], ◌∷◌, ◌++◌, true, false, Option, Some, None, map, refl}
use Rattle.fm_msg.specs.Event.{TimedMessage}
use Rattle.fm_msg.specs.declared.msg.Msg.TheVariants.{On, Off}
use Rattle.fm_core.specs.Effects.{after, run}
use Rattle.fm_core.specs.State.{Setting, State, opening, cell, desk}
use Rattle.fm_core.specs.Steps.{reason}
use Rattle.fm_core.specs.Sweep.{least}
use Rattle.fm_core.specs.Tags.{is_claimable}
use Rattle.fm_core.specs.declared.due.Due.TheVariants.{Pair}
use Rattle.fm_core.specs.declared.floor.Floor.TheVariants.{At}
use Rattle.fm_core.specs.declared.reason.Reason.{Reason}
use Rattle.fm_core.specs.declared.reason.Reason.TheVariants.{NoSeat, NoProcess, OutOfTurn, Holding, NotClaimable, NotUnborn, PredecessorLive, NotHeld, WrongTake, WrongCount, AboveLead, OverRoom, WrongClock, WrongEnd, NotSwept, StillDue, NotDue, NotVisited}
use Rattle.fm_core.specs.declared.step.Step.{Step}
use Rattle.fm_core.specs.declared.step.Step.TheVariants.{Look, Claim, Start, Record, Recall, Give, Publish, Pace, Release}
use Rattle.fm_core.specs.declared.tag.Tag.TheVariants.{Unborn, Home, Full, Out, Ended, EndedOut, Drained}

-- the first event of process 2, and the second
abbrev first_on : TimedMessage
first_on = record { time = 7; process = 2; index = 0; msg = On 0 60 64 }

abbrev last_off : TimedMessage
last_off = record { time = 439; process = 2; index = 1; msg = Off 0 60 }

abbrev three : Setting
three = record {
  lines = record { events = []; predecessors = []; end = 0 }
      ∷ record { events = []; predecessors = 0 ∷ []; end = 7 }
      ∷ record { events = first_on ∷ last_off ∷ []; predecessors = 1 ∷ []; end = 487 } ∷ [];
  room = 1;
  lead = 0;
}

abbrev begin : State
begin = opening 3 2

-- the first reason that refuses one of these steps
abbrev refused_on : Option Reason → Option Reason → Option Reason
refused_on (Some r) o = Some r
refused_on None o = o

abbrev refused : State → List Step → Option Reason
refused h [] = None
refused h (s ∷ ss) = refused_on (reason three h s) (refused (after three h s) ss)

abbrev left_by : State → List Step → State
left_by h ss = run three h ss

-- process 0 ends at 0, and process 1 is started
abbrev first_end : List Step
first_end = Claim 0 0 ∷ Record 0 0 ∷ Give 0 0 0 0 0 true ∷ Start 1 1 ∷ []

-- process 1 ends at 7, and process 2 is started and given back with nothing computed
abbrev both_end : List Step
both_end = first_end ++ Record 1 1 ∷ Give 1 1 0 0 7 true ∷ Start 1 2 ∷ []

abbrev at_hand : List Step
at_hand = both_end ++ Give 1 2 0 0 7 false ∷ []

abbrev looks : List Step
looks = Look 0 0 ∷ Look 0 1 ∷ Look 0 2 ∷ []

-- looks are made from 0 upwards, and give the least pair
looks_in_turn : (refused begin (at_hand ++ looks) ≡ None)
    × (reason three (left_by begin at_hand) (Look 0 2) ≡ Some OutOfTurn)
    × (least (desk (left_by begin (at_hand ++ looks)) 0).sweep ≡ Some (7, 2))
looks_in_turn = (refl, refl, refl)

-- a start waits for its predecessors, a clock for the end, and a give for the lead
births_and_joins : (reason three begin (Start 0 1) ≡ Some PredecessorLive)
    × (refused begin first_end ≡ None)
    × ((cell (left_by begin first_end) 0).tag ≡ Drained)
    × (least (desk (left_by begin (first_end ++ looks)) 0).sweep ≡ Some (0, 1))
    × (reason three (left_by begin first_end) (Give 1 1 0 0 8 false) ≡ Some WrongClock)
    × (refused begin both_end ≡ None)
    × ((cell (left_by begin both_end) 2).clock ≡ 7)
    × (reason three (left_by begin both_end) (Give 1 2 0 1 439 false) ≡ Some AboveLead)
    × (refused (left_by begin both_end) (looks ++ Publish ∷ Pace 1 ∷ Give 1 2 0 1 439 false ∷ []) ≡ None)
births_and_joins = (refl, refl, refl, refl, refl, refl, refl, refl, refl)

abbrev published : State
published = left_by begin (at_hand ++ looks ++ Publish ∷ [])

abbrev given_one : State
given_one = left_by published (Pace 0 ∷ Claim 0 2 ∷ Give 0 2 0 1 439 false ∷ [])

abbrev released : State
released = left_by given_one (Look 0 0 ∷ Look 0 1 ∷ Release 0 ∷ Look 0 2 ∷ [])

-- the first publish makes (7, 2) due; what is computed after it is due at the second one
due_and_released : (published.floor ≡ At 7)
    × (published.due ≡ Pair 7 2)
    × (reason three published (Release 0) ≡ Some NotVisited)
    × (refused published (Pace 0 ∷ Claim 0 2 ∷ Give 0 2 0 1 439 false ∷ []) ≡ None)
    × ((cell given_one 2).tag ≡ Full)
    × (reason three (left_by given_one (Look 0 0 ∷ Look 0 1 ∷ [])) (Release 1) ≡ Some WrongCount)
    × (refused given_one (Look 0 0 ∷ Look 0 1 ∷ Release 0 ∷ Look 0 2 ∷ []) ≡ None)
    × (least (desk released 0).sweep ≡ Some (439, 2))
    × (reason three (left_by released (Publish ∷ Pace 0 ∷ Claim 0 2 ∷ [])) (Give 0 2 0 1 487 false) ≡ Some WrongTake)
    × (refused released (Publish ∷ Pace 0 ∷ Claim 0 2 ∷ Give 0 2 1 1 487 false ∷ []) ≡ None)
due_and_released = (refl, refl, refl, refl, refl, refl, refl, refl, refl, refl)

-- a release counts what was gathered: no less, and no more
abbrev gathered_one : State
gathered_one = left_by released (Publish ∷ Pace 0 ∷ Claim 0 2 ∷ Give 0 2 1 1 487 false ∷ Look 0 0 ∷ Look 0 1 ∷ [])

released_in_full : (gathered_one.gather ≡ first_on ∷ [])
    × (map (reason three gathered_one) (Release 0 ∷ Release 1 ∷ Release 2 ∷ []) ≡ Some WrongCount ∷ None ∷ Some WrongCount ∷ [])
    × ((left_by gathered_one (Release 1 ∷ [])).released ≡ first_on ∷ [])
released_in_full = (refl, refl, refl)

-- ---- where several reasons hold, the first of the table is the answer

-- a seat that is not there, then a process that is not there
nobody_there :
    map (reason three begin)
    (Look 2 3 ∷ Look 0 3 ∷ Claim 2 3 ∷ Start 2 3 ∷ Record 2 3 ∷ Record 0 3 ∷ Recall 2 3 ∷ Recall 0 3 ∷ Recall 0 0
    ∷ Give 2 3 9 9 9 true ∷ Give 0 3 9 9 9 true ∷ Give 0 1 9 9 9 true ∷ Pace 2 ∷ [])
    ≡ map Some
    (NoSeat ∷ NoProcess ∷ NoSeat ∷ NoSeat ∷ NoSeat ∷ NoProcess ∷ NoSeat ∷ NoProcess ∷ PredecessorLive ∷ NoSeat ∷ NoProcess
    ∷ NotHeld ∷ NoSeat ∷ [])
nobody_there = refl

-- seat 0 holds process 0
abbrev held : State
held = left_by begin (Claim 0 0 ∷ [])

holder_first :
    map (reason three held)
    (Claim 0 3 ∷ Claim 0 0 ∷ Claim 0 1 ∷ Start 0 3 ∷ Start 0 0 ∷ Start 0 1 ∷ Claim 1 0 ∷ Start 1 0 ∷ Record 1 0
    ∷ Give 1 0 9 9 9 true ∷ Give 0 0 1 1 1 true ∷ [])
    ≡ map Some
    (NoProcess ∷ Holding ∷ Holding ∷ NoProcess ∷ Holding ∷ Holding ∷ NotClaimable ∷ NotUnborn ∷ NotHeld
    ∷ NotHeld ∷ WrongTake ∷ [])
holder_first = refl

-- seat 1 gives process 2 with everything wrong, and then with less and less
give_reasons :
    map (reason three (left_by begin both_end)) (Give 1 2 1 3 500 true ∷ Give 1 2 0 3 500 true ∷ Give 1 2 0 2 500 true ∷ [])
    ++ map (reason (record three { lead = 1000 }) (left_by begin both_end)) (Give 1 2 0 2 500 true ∷ [])
    ++ map (reason (record three { room = 2; lead = 1000 }) (left_by begin both_end))
    (Give 1 2 0 2 500 true ∷ Give 1 2 0 2 487 true ∷ [])
    ≡ map Some (WrongTake ∷ WrongCount ∷ AboveLead ∷ OverRoom ∷ WrongClock ∷ WrongEnd ∷ [])
give_reasons = refl

-- a publish and a release
due_reasons :
    reason three begin (Release 3) ∷ reason three published (Release 1) ∷ reason three published Publish
    ∷ reason three (left_by published looks) Publish ∷ []
    ≡ map Some (NotDue ∷ NotVisited ∷ NotSwept ∷ StillDue ∷ [])
due_reasons = refl

-- who may claim what: seat 0, and any other
claimable :
    map (is_claimable 0) (Unborn ∷ Home ∷ Full ∷ Out ∷ Ended ∷ EndedOut ∷ Drained ∷ [])
    ++ map (is_claimable 1) (Unborn ∷ Home ∷ Full ∷ Out ∷ Ended ∷ EndedOut ∷ Drained ∷ [])
    ≡ false ∷ true ∷ true ∷ false ∷ true ∷ false ∷ false
    ∷ false ∷ true ∷ false ∷ false ∷ false ∷ false ∷ false ∷ []
claimable = refl
