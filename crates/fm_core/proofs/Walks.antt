-- Walks, as another program walked them: what refuses each step, and the state at the end.
use Rattle.std.proofs.Common.{◌≡◌, List, [], ◌∷◌, true, false, Some, None, refl}
use Rattle.fm_core.specs.State.{Setting, State, opening, unborn}
use Rattle.fm_core.specs.declared.due.Due.TheVariants.{Nothing, Pair}
use Rattle.fm_core.specs.declared.floor.Floor.TheVariants.{At}
use Rattle.fm_core.specs.declared.reason.Reason.TheVariants.{NoSeat, NoProcess, OutOfTurn, NotClaimable, NotUnborn, PredecessorLive, NotHeld, WrongTake, WrongCount, AboveLead, OverRoom, WrongClock, NotSwept, NotDue, NotVisited}
use Rattle.fm_core.specs.declared.step.Step.{Step}
use Rattle.fm_core.specs.declared.step.Step.TheVariants.{Look, Claim, Start, Record, Recall, Give, Publish, Pace, Release}
use Rattle.fm_core.specs.declared.tag.Tag.TheVariants.{Home, Full, Out, Ended, Drained}
use Rattle.fm_core.proofs.Walking.{on_at, at, seen, answers, result}

-- the lines, room and lead of this walk
abbrev pub setting0 : Setting
setting0 = record {
  lines =
      record { events = on_at 2 0 0 ∷ on_at 2 0 1 ∷ on_at 4 0 2 ∷ []; predecessors = []; end = 6 }
      ∷ record { events = on_at 9 1 0 ∷ []; predecessors = 0 ∷ []; end = 10 } ∷ [];
  room = 2;
  lead = 0;
}

abbrev steps0 : List Step
steps0 =
    Claim 0 0 ∷ Give 0 0 0 0 2 false ∷ Look 0 0 ∷ Give 0 0 0 2 8 true ∷ Claim 1 2 ∷ Look 0 0 ∷ Give 0 0 1 2 2 false
    ∷ Look 0 1 ∷ Publish ∷ Release 0 ∷ Pace 0 ∷ Give 0 1 1 1 5 true ∷ Look 0 0 ∷ Claim 0 0 ∷ Look 1 1 ∷ Look 0 0
    ∷ []

-- what each step is refused for
reasons0 : answers setting0 (opening 2 1) steps0
    ≡ None ∷ None ∷ None ∷ Some NotHeld ∷ Some NoSeat ∷ None ∷ Some NotHeld ∷ None ∷ None ∷ Some NotVisited ∷ None
    ∷ Some NotHeld ∷ None ∷ None ∷ Some NoSeat ∷ None ∷ []
reasons0 = refl

-- the state that they leave
abbrev pub end0 : State
end0 = record {
  cells = at Out 2 0 0 0 false ∷ unborn ∷ [];
  floor = At 2;
  desks = record { sweep = seen 2 false ∷ []; paced = At 2 } ∷ [];
  due = Pair 2 0;
  visited = false ∷ false ∷ [];
  gather = [];
  released = [];
}

state0 : result setting0 (opening 2 1) steps0 ≡ end0
state0 = refl

-- the lines, room and lead of this walk
abbrev pub setting1 : Setting
setting1 = record {
  lines =
      record { events = []; predecessors = []; end = 2 }
      ∷ record { events = on_at 2 1 0 ∷ on_at 5 1 1 ∷ on_at 8 1 2 ∷ []; predecessors = 0 ∷ []; end = 9 }
      ∷ record { events = on_at 9 2 0 ∷ on_at 9 2 1 ∷ []; predecessors = 0 ∷ 1 ∷ []; end = 12 }
      ∷ record { events = on_at 11 3 0 ∷ on_at 14 3 1 ∷ on_at 14 3 2 ∷ []; predecessors = 0 ∷ 1 ∷ []; end = 14 } ∷ [];
  room = 2;
  lead = 3;
}

abbrev steps1 : List Step
steps1 =
    Claim 0 0 ∷ Give 0 0 0 0 0 false ∷ Claim 0 0 ∷ Start 1 0 ∷ Give 0 0 0 0 1 false ∷ Claim 0 0 ∷ Record 3 3 ∷ Look 2 0
    ∷ Give 0 0 0 0 2 false ∷ Claim 0 1 ∷ Start 2 3 ∷ Recall 1 0 ∷ Give 2 1 0 0 7 true ∷ Look 2 1 ∷ Claim 2 0
    ∷ Recall 2 1 ∷ Give 2 0 0 2 0 true ∷ Give 2 0 0 1 8 false ∷ []

-- what each step is refused for
reasons1 : answers setting1 (opening 4 3) steps1
    ≡ None ∷ None ∷ None ∷ Some NotUnborn ∷ None ∷ None ∷ Some NoSeat ∷ None ∷ None ∷ Some NotClaimable
    ∷ Some PredecessorLive ∷ Some PredecessorLive ∷ Some NotHeld ∷ None ∷ None ∷ Some PredecessorLive
    ∷ Some WrongCount ∷ Some WrongCount ∷ []
reasons1 = refl

-- the state that they leave
abbrev pub end1 : State
end1 = record {
  cells = at Out 2 2 0 0 false ∷ unborn ∷ unborn ∷ unborn ∷ [];
  floor = At 0;
  desks = record { sweep = []; paced = At 0 } ∷ record { sweep = []; paced = At 0 } ∷ record {
    sweep = seen 1 false
        ∷ seen 1 false ∷ [];
    paced = At 0;
  } ∷ [];
  due = Nothing;
  visited = false ∷ false ∷ false ∷ false ∷ [];
  gather = [];
  released = [];
}

state1 : result setting1 (opening 4 3) steps1 ≡ end1
state1 = refl

-- the lines, room and lead of this walk
abbrev pub setting2 : Setting
setting2 = record {
  lines =
      record { events = on_at 3 0 0 ∷ on_at 5 0 1 ∷ []; predecessors = []; end = 7 } ∷ [];
  room = 1;
  lead = 3;
}

abbrev steps2 : List Step
steps2 =
    Look 0 0 ∷ Look 0 0 ∷ Claim 0 0 ∷ Give 0 0 0 1 5 false ∷ Look 0 0 ∷ Look 1 0 ∷ Publish ∷ Pace 1 ∷ Claim 0 0
    ∷ Give 0 0 0 1 3 true ∷ Recall 3 1 ∷ Look 2 0 ∷ Publish ∷ Look 1 0 ∷ []

-- what each step is refused for
reasons2 : answers setting2 (opening 1 3) steps2
    ≡ None ∷ None ∷ None ∷ None ∷ None ∷ None ∷ None ∷ None ∷ None ∷ Some WrongTake ∷ Some NoSeat ∷ None ∷ Some NotSwept
    ∷ None ∷ []
reasons2 = refl

-- the state that they leave
abbrev pub end2 : State
end2 = record {
  cells = at Out 5 0 1 0 false ∷ [];
  floor = At 5;
  desks = record { sweep = []; paced = At 0 } ∷ record { sweep = seen 5 false ∷ []; paced = At 5 }
      ∷ record { sweep = seen 5 false ∷ []; paced = At 0 } ∷ [];
  due = Pair 5 0;
  visited = false ∷ [];
  gather = [];
  released = [];
}

state2 : result setting2 (opening 1 3) steps2 ≡ end2
state2 = refl

-- the lines, room and lead of this walk
abbrev pub setting3 : Setting
setting3 = record {
  lines =
      record { events = []; predecessors = []; end = 1 }
      ∷ record { events = on_at 2 1 0 ∷ on_at 3 1 1 ∷ on_at 4 1 2 ∷ []; predecessors = 0 ∷ []; end = 4 } ∷ [];
  room = 1;
  lead = 3;
}

abbrev steps3 : List Step
steps3 =
    Claim 0 0 ∷ Give 0 0 0 2 0 false ∷ Give 0 0 0 0 1 false ∷ Claim 0 0 ∷ Give 0 0 0 1 0 true ∷ Give 0 0 0 0 1 false
    ∷ Give 0 1 0 0 9 false ∷ Record 0 2 ∷ Look 0 0 ∷ Give 0 1 0 1 2 true ∷ Look 0 0 ∷ Claim 0 0 ∷ Record 0 0
    ∷ Give 0 0 0 0 1 true ∷ Start 0 1 ∷ Release 1 ∷ Give 0 1 0 1 4 true ∷ Look 0 1 ∷ Give 0 1 0 0 1 false ∷ Publish
    ∷ Start 1 1 ∷ Recall 0 0 ∷ Pace 0 ∷ Claim 0 1 ∷ Give 0 1 0 1 3 false ∷ Look 0 0 ∷ Look 0 0 ∷ Recall 0 0
    ∷ Recall 0 0 ∷ Look 0 1 ∷ Look 0 1 ∷ Look 0 1 ∷ Release 0 ∷ Look 0 1 ∷ Look 0 0 ∷ Look 0 0 ∷ Look 0 0
    ∷ Claim 1 1 ∷ Give 0 0 1 2 2 false ∷ Give 0 0 0 0 6 false ∷ Give 0 1 0 1 0 false ∷ Claim 0 1 ∷ Recall 0 0
    ∷ Give 0 1 0 1 8 false ∷ []

-- what each step is refused for
reasons3 : answers setting3 (opening 2 1) steps3
    ≡ None ∷ Some WrongCount ∷ None ∷ None ∷ Some WrongCount ∷ None ∷ Some NotHeld ∷ Some NoProcess ∷ None
    ∷ Some NotHeld ∷ None ∷ None ∷ None ∷ None ∷ None ∷ Some NotDue ∷ Some WrongClock ∷ None ∷ None ∷ None
    ∷ Some NoSeat ∷ None ∷ None ∷ None ∷ None ∷ None ∷ None ∷ None ∷ None ∷ None ∷ None ∷ None ∷ None ∷ None ∷ None
    ∷ None ∷ None ∷ Some NoSeat ∷ Some NotHeld ∷ Some NotHeld ∷ Some NotHeld ∷ None ∷ None ∷ Some OverRoom ∷ []
reasons3 = refl

-- the state that they leave
abbrev pub end3 : State
end3 = record {
  cells = at Drained 1 0 0 0 true ∷ at Out 3 0 1 0 false ∷ [];
  floor = At 1;
  desks = record { sweep = seen 1 true ∷ []; paced = At 1 } ∷ [];
  due = Nothing;
  visited = true ∷ true ∷ [];
  gather = [];
  released = [];
}

state3 : result setting3 (opening 2 1) steps3 ≡ end3
state3 = refl

-- the lines, room and lead of this walk
abbrev pub setting4 : Setting
setting4 = record {
  lines =
      record { events = []; predecessors = []; end = 0 }
      ∷ record { events = on_at 0 1 0 ∷ []; predecessors = 0 ∷ []; end = 0 }
      ∷ record { events = on_at 2 2 0 ∷ on_at 3 2 1 ∷ []; predecessors = 0 ∷ []; end = 3 }
      ∷ record { events = []; predecessors = 1 ∷ 2 ∷ []; end = 3 } ∷ [];
  room = 1;
  lead = 0;
}

abbrev steps4 : List Step
steps4 =
    Look 1 0 ∷ Give 0 3 1 1 6 true ∷ Claim 2 0 ∷ Give 2 0 0 0 9 true ∷ Record 2 0 ∷ Recall 1 4 ∷ Give 2 0 0 0 0 true
    ∷ Claim 1 1 ∷ Publish ∷ Start 0 1 ∷ Give 0 1 0 1 0 false ∷ Give 1 0 0 0 4 false ∷ Recall 2 0 ∷ Start 0 2
    ∷ Give 0 2 0 0 2 false ∷ Claim 1 2 ∷ Record 1 2 ∷ Recall 0 0 ∷ Look 1 0 ∷ Give 1 2 0 2 1 false
    ∷ Give 1 2 0 0 2 false ∷ Claim 0 1 ∷ Recall 1 3 ∷ Recall 1 0 ∷ Publish ∷ Give 0 1 0 2 0 false ∷ Look 1 2
    ∷ Record 0 1 ∷ Look 0 4 ∷ Claim 2 2 ∷ Give 0 1 0 2 0 false ∷ Give 0 1 0 0 0 true ∷ Recall 1 0 ∷ Recall 1 0
    ∷ Give 2 2 0 0 2 false ∷ Recall 1 1 ∷ Look 0 0 ∷ Start 3 0 ∷ Release 2 ∷ Recall 2 0 ∷ Look 0 0 ∷ Look 0 1
    ∷ Publish ∷ Look 0 2 ∷ []

-- what each step is refused for
reasons4 : answers setting4 (opening 4 3) steps4
    ≡ None ∷ Some NotHeld ∷ None ∷ Some WrongClock ∷ None ∷ Some NoProcess ∷ None ∷ Some NotClaimable ∷ Some NotSwept
    ∷ None ∷ None ∷ Some NotHeld ∷ None ∷ None ∷ None ∷ None ∷ None ∷ None ∷ None ∷ Some AboveLead ∷ None ∷ None
    ∷ Some PredecessorLive ∷ None ∷ Some NotSwept ∷ Some WrongCount ∷ Some OutOfTurn ∷ None ∷ Some NoProcess ∷ None
    ∷ Some WrongCount ∷ None ∷ None ∷ None ∷ None ∷ None ∷ None ∷ Some NoSeat ∷ Some NotDue ∷ None ∷ None ∷ None
    ∷ Some NotSwept ∷ None ∷ []
reasons4 = refl

-- the state that they leave
abbrev pub end4 : State
end4 = record {
  cells = at Drained 0 0 0 0 true ∷ at Ended 0 0 1 0 true ∷ at Home 2 0 0 0 true ∷ unborn ∷ [];
  floor = At 0;
  desks = record { sweep = seen 0 true ∷ seen 0 true ∷ seen 2 false ∷ []; paced = At 0 } ∷ record {
    sweep = seen 0 true
        ∷ [];
    paced = At 0;
  } ∷ record { sweep = []; paced = At 0 } ∷ [];
  due = Nothing;
  visited = true ∷ false ∷ false ∷ false ∷ [];
  gather = [];
  released = [];
}

state4 : result setting4 (opening 4 3) steps4 ≡ end4
state4 = refl

-- the lines, room and lead of this walk
abbrev pub setting5 : Setting
setting5 = record {
  lines =
      record { events = on_at 2 0 0 ∷ on_at 3 0 1 ∷ on_at 6 0 2 ∷ []; predecessors = []; end = 6 } ∷ [];
  room = 1;
  lead = 0;
}

abbrev steps5 : List Step
steps5 =
    Claim 0 0 ∷ Record 0 0 ∷ Give 0 0 0 0 2 false ∷ Look 0 0 ∷ Give 0 0 0 1 7 true ∷ Look 0 0 ∷ Publish ∷ Pace 0
    ∷ Publish ∷ Claim 0 0 ∷ Look 0 1 ∷ Record 0 0 ∷ Look 0 0 ∷ Give 0 0 0 1 3 false ∷ Release 0 ∷ Look 0 0 ∷ []

-- what each step is refused for
reasons5 : answers setting5 (opening 1 1) steps5
    ≡ None ∷ None ∷ None ∷ None ∷ Some NotHeld ∷ None ∷ None ∷ None ∷ Some NotSwept ∷ None ∷ Some NoProcess ∷ None
    ∷ None ∷ None ∷ None ∷ None ∷ []
reasons5 = refl

-- the state that they leave
abbrev pub end5 : State
end5 = record {
  cells = at Full 3 0 1 0 true ∷ [];
  floor = At 2;
  desks = record { sweep = seen 3 false ∷ []; paced = At 2 } ∷ [];
  due = Nothing;
  visited = true ∷ [];
  gather = [];
  released = [];
}

state5 : result setting5 (opening 1 1) steps5 ≡ end5
state5 = refl

-- the lines, room and lead of this walk
abbrev pub setting6 : Setting
setting6 = record {
  lines =
      record { events = on_at 1 0 0 ∷ []; predecessors = []; end = 2 }
      ∷ record { events = on_at 2 1 0 ∷ on_at 4 1 1 ∷ []; predecessors = 0 ∷ []; end = 7 } ∷ [];
  room = 1;
  lead = 0;
}

abbrev steps6 : List Step
steps6 =
    Claim 0 0 ∷ Record 2 1 ∷ Look 1 0 ∷ Give 0 0 0 0 1 false ∷ Start 1 0 ∷ Claim 0 0 ∷ Release 0 ∷ Record 0 0
    ∷ Give 0 0 0 0 1 false ∷ Look 0 0 ∷ Look 1 0 ∷ Look 0 1 ∷ Publish ∷ Claim 0 0 ∷ Give 0 0 0 0 1 false ∷ []

-- what each step is refused for
reasons6 : answers setting6 (opening 2 2) steps6
    ≡ None ∷ Some NoSeat ∷ None ∷ None ∷ Some NotUnborn ∷ None ∷ Some NotDue ∷ None ∷ None ∷ None ∷ None ∷ None ∷ None
    ∷ None ∷ None ∷ []
reasons6 = refl

-- the state that they leave
abbrev pub end6 : State
end6 = record {
  cells = at Home 1 0 0 0 true ∷ unborn ∷ [];
  floor = At 1;
  desks = record { sweep = []; paced = At 0 } ∷ record { sweep = seen 1 false ∷ []; paced = At 0 } ∷ [];
  due = Pair 1 0;
  visited = true ∷ false ∷ [];
  gather = [];
  released = [];
}

state6 : result setting6 (opening 2 2) steps6 ≡ end6
state6 = refl
