-- Further walks, as another program walked them: what refuses each step, and the state at the end.
use Rattle.std.proofs.Common.{◌≡◌, List, [], ◌∷◌, true, false, Some, None, refl}
use Rattle.fm_core.specs.State.{Setting, State, opening, unborn}
use Rattle.fm_core.specs.declared.due.Due.TheVariants.{Nothing, Pair, Everything}
use Rattle.fm_core.specs.declared.floor.Floor.TheVariants.{At, Done}
use Rattle.fm_core.specs.declared.reason.Reason.TheVariants.{NoSeat, NoProcess, NotUnborn, PredecessorLive, NotHeld, WrongCount, AboveLead, WrongClock, WrongEnd, NotSwept, StillDue, NotDue, NotVisited}
use Rattle.fm_core.specs.declared.step.Step.{Step}
use Rattle.fm_core.specs.declared.step.Step.TheVariants.{Look, Claim, Start, Record, Recall, Give, Publish, Pace, Release}
use Rattle.fm_core.specs.declared.tag.Tag.TheVariants.{Home, Out, Ended, Drained}
use Rattle.fm_core.proofs.Walking.{on_at, at, seen, answers, result}

-- the lines, room and lead of this walk
abbrev pub setting7 : Setting
setting7 = record {
  lines =
      record { events = []; predecessors = []; end = 3 }
      ∷ record { events = on_at 3 1 0 ∷ []; predecessors = 0 ∷ []; end = 3 } ∷ [];
  room = 2;
  lead = 3;
}

abbrev steps7 : List Step
steps7 =
    Claim 0 0 ∷ Record 2 2 ∷ Give 0 0 0 0 1 false ∷ Recall 1 1 ∷ Claim 0 0 ∷ Record 0 0 ∷ Look 0 0
    ∷ Give 0 0 0 0 1 false ∷ Look 2 0 ∷ Claim 0 0 ∷ Look 0 1 ∷ Give 0 0 0 0 2 true ∷ Give 0 0 0 0 3 true ∷ Start 0 1
    ∷ Give 0 1 0 1 3 false ∷ Give 0 1 0 1 5 false ∷ Look 1 0 ∷ Give 1 0 0 1 1 true ∷ []

-- what each step is refused for
reasons7 : answers setting7 (opening 2 2) steps7
    ≡ None ∷ Some NoSeat ∷ None ∷ Some PredecessorLive ∷ None ∷ None ∷ None ∷ None ∷ Some NoSeat ∷ None ∷ None
    ∷ Some WrongEnd ∷ None ∷ None ∷ None ∷ Some NotHeld ∷ None ∷ Some NotHeld ∷ []
reasons7 = refl

-- the state that they leave
abbrev pub end7 : State
end7 = record {
  cells = at Drained 3 0 0 0 true ∷ at Home 3 0 1 0 false ∷ [];
  floor = At 0;
  desks = record { sweep = seen 1 false ∷ seen 1 false ∷ []; paced = At 0 } ∷ record {
    sweep = seen 3 true
        ∷ [];
    paced = At 0;
  } ∷ [];
  due = Nothing;
  visited = false ∷ true ∷ [];
  gather = [];
  released = [];
}

state7 : result setting7 (opening 2 2) steps7 ≡ end7
state7 = refl

-- the lines, room and lead of this walk
abbrev pub setting8 : Setting
setting8 = record {
  lines =
      record { events = on_at 3 0 0 ∷ on_at 4 0 1 ∷ []; predecessors = []; end = 6 }
      ∷ record { events = on_at 8 1 0 ∷ on_at 9 1 1 ∷ on_at 10 1 2 ∷ []; predecessors = 0 ∷ []; end = 10 } ∷ [];
  room = 1;
  lead = 0;
}

abbrev steps8 : List Step
steps8 =
    Claim 1 0 ∷ Look 1 0 ∷ Give 1 0 0 0 0 false ∷ Claim 0 0 ∷ Look 1 0 ∷ Give 0 0 0 0 2 false ∷ Claim 0 0 ∷ Look 1 1
    ∷ Give 0 0 0 0 5 false ∷ Give 0 0 0 1 4 false ∷ Release 1 ∷ Give 0 0 0 0 3 false ∷ Record 0 1
    ∷ Give 0 1 0 0 6 false ∷ Publish ∷ Give 0 0 1 0 3 true ∷ Look 1 0 ∷ Look 0 0 ∷ Look 0 1 ∷ Publish ∷ Record 0 1
    ∷ Look 0 0 ∷ []

-- what each step is refused for
reasons8 : answers setting8 (opening 2 2) steps8
    ≡ None ∷ None ∷ None ∷ None ∷ None ∷ None ∷ None ∷ None ∷ Some WrongClock ∷ Some AboveLead ∷ Some NotDue ∷ None
    ∷ Some NotHeld ∷ Some NotHeld ∷ Some NotSwept ∷ Some NotHeld ∷ None ∷ None ∷ None ∷ None ∷ Some NotHeld ∷ None
    ∷ []
reasons8 = refl

-- the state that they leave
abbrev pub end8 : State
end8 = record {
  cells = at Home 3 0 0 0 false ∷ unborn ∷ [];
  floor = At 3;
  desks = record { sweep = seen 3 false ∷ []; paced = At 0 } ∷ record { sweep = seen 3 false ∷ []; paced = At 0 } ∷ [];
  due = Pair 3 0;
  visited = false ∷ false ∷ [];
  gather = [];
  released = [];
}

state8 : result setting8 (opening 2 2) steps8 ≡ end8
state8 = refl

-- the lines, room and lead of this walk
abbrev pub setting9 : Setting
setting9 = record {
  lines =
      record { events = on_at 2 0 0 ∷ on_at 2 0 1 ∷ on_at 4 0 2 ∷ []; predecessors = []; end = 4 } ∷ [];
  room = 2;
  lead = 3;
}

abbrev steps9 : List Step
steps9 =
    Release 2 ∷ Claim 0 0 ∷ Give 0 0 0 2 0 false ∷ Claim 0 0 ∷ Start 1 0 ∷ Give 0 0 0 0 4 false ∷ Claim 0 0 ∷ Look 1 0
    ∷ Record 0 0 ∷ Look 1 0 ∷ Publish ∷ Give 0 0 0 0 4 false ∷ Look 1 0 ∷ Look 0 0 ∷ Publish ∷ Release 2 ∷ Claim 0 0
    ∷ Give 0 0 2 0 4 false ∷ Release 2 ∷ Look 1 0 ∷ Pace 0 ∷ Claim 0 0 ∷ Record 0 0 ∷ Give 0 0 0 1 4 true
    ∷ Recall 1 0 ∷ Give 0 0 0 1 3 false ∷ Give 0 0 0 0 6 false ∷ Pace 1 ∷ Give 1 0 0 2 8 true ∷ Look 0 0 ∷ Publish
    ∷ Recall 0 0 ∷ Record 0 1 ∷ Look 0 0 ∷ Pace 1 ∷ []

-- what each step is refused for
reasons9 : answers setting9 (opening 1 2) steps9
    ≡ Some NotDue ∷ None ∷ None ∷ None ∷ Some NotUnborn ∷ None ∷ None ∷ None ∷ None ∷ None ∷ Some NotSwept ∷ None ∷ None
    ∷ None ∷ None ∷ Some NotVisited ∷ None ∷ None ∷ None ∷ None ∷ None ∷ None ∷ None ∷ None ∷ None ∷ Some NotHeld
    ∷ Some NotHeld ∷ None ∷ Some NotHeld ∷ None ∷ None ∷ None ∷ Some NoProcess ∷ None ∷ None ∷ []
reasons9 = refl

-- the state that they leave
abbrev pub end9 : State
end9 = record {
  cells = at Ended 4 0 3 2 true ∷ [];
  floor = Done;
  desks = record { sweep = seen 4 true ∷ []; paced = At 4 } ∷ record { sweep = seen 4 false ∷ []; paced = Done } ∷ [];
  due = Everything;
  visited = false ∷ [];
  gather = [];
  released = on_at 2 0 0 ∷ on_at 2 0 1 ∷ [];
}

state9 : result setting9 (opening 1 2) steps9 ≡ end9
state9 = refl

-- the lines, room and lead of this walk
abbrev pub setting10 : Setting
setting10 = record {
  lines =
      record { events = on_at 3 0 0 ∷ []; predecessors = []; end = 3 } ∷ [];
  room = 2;
  lead = 0;
}

abbrev steps10 : List Step
steps10 =
    Look 1 0 ∷ Look 0 0 ∷ Claim 0 0 ∷ Give 0 0 0 0 3 false ∷ Publish ∷ Look 0 0 ∷ Look 1 0 ∷ Publish ∷ Look 0 0
    ∷ Claim 0 0 ∷ Record 0 0 ∷ Give 0 0 0 2 9 false ∷ Recall 1 0 ∷ Give 0 0 0 0 0 true ∷ Give 0 0 0 1 0 true
    ∷ Look 0 0 ∷ Give 0 0 0 2 6 true ∷ Look 0 0 ∷ Publish ∷ Look 0 0 ∷ Give 0 0 0 0 3 false ∷ Release 0 ∷ Look 2 1
    ∷ Publish ∷ Pace 0 ∷ Recall 2 1 ∷ Claim 0 0 ∷ Look 1 0 ∷ Pace 1 ∷ Give 0 0 0 1 3 true ∷ Release 0
    ∷ Give 0 0 1 1 4 true ∷ []

-- what each step is refused for
reasons10 : answers setting10 (opening 1 2) steps10
    ≡ None ∷ None ∷ None ∷ None ∷ None ∷ None ∷ None ∷ Some StillDue ∷ None ∷ None ∷ None ∷ Some WrongCount
    ∷ Some PredecessorLive ∷ Some WrongClock ∷ Some AboveLead ∷ None ∷ Some WrongCount ∷ None ∷ Some StillDue ∷ None
    ∷ None ∷ None ∷ Some NoSeat ∷ None ∷ None ∷ Some NoSeat ∷ None ∷ None ∷ None ∷ None ∷ None ∷ Some NotHeld ∷ []
reasons10 = refl

-- the state that they leave
abbrev pub end10 : State
end10 = record {
  cells = at Ended 3 0 1 0 true ∷ [];
  floor = At 3;
  desks = record { sweep = []; paced = At 3 } ∷ record { sweep = seen 3 false ∷ []; paced = At 3 } ∷ [];
  due = Nothing;
  visited = true ∷ [];
  gather = [];
  released = [];
}

state10 : result setting10 (opening 1 2) steps10 ≡ end10
state10 = refl

-- the lines, room and lead of this walk
abbrev pub setting11 : Setting
setting11 = record {
  lines =
      record { events = on_at 2 0 0 ∷ on_at 3 0 1 ∷ on_at 6 0 2 ∷ []; predecessors = []; end = 7 } ∷ [];
  room = 2;
  lead = 1;
}

abbrev steps11 : List Step
steps11 =
    Claim 1 0 ∷ Give 1 0 0 1 0 false ∷ Look 0 0 ∷ Claim 2 0 ∷ Look 1 0 ∷ Give 1 0 0 0 4 false ∷ Recall 0 1 ∷ Look 0 1
    ∷ Give 1 0 0 0 2 false ∷ Publish ∷ Give 0 0 0 2 2 true ∷ Release 2 ∷ Claim 0 0 ∷ Give 0 0 0 2 8 false
    ∷ Give 0 0 0 2 5 false ∷ Record 0 0 ∷ Give 0 0 0 0 2 false ∷ Start 1 1 ∷ Claim 0 0 ∷ Release 0 ∷ Look 1 0
    ∷ Look 1 0 ∷ Record 0 0 ∷ Give 0 0 0 2 9 true ∷ Release 0 ∷ Give 0 0 0 0 2 false ∷ Look 1 0 ∷ Look 1 0
    ∷ Look 0 0 ∷ Give 1 0 0 0 3 true ∷ Publish ∷ []

-- what each step is refused for
reasons11 : answers setting11 (opening 1 2) steps11
    ≡ None ∷ Some AboveLead ∷ None ∷ Some NoSeat ∷ None ∷ Some WrongClock ∷ Some NoProcess ∷ Some NoProcess ∷ None
    ∷ None ∷ Some NotHeld ∷ Some NotVisited ∷ None ∷ Some AboveLead ∷ Some AboveLead ∷ None ∷ None ∷ Some NoProcess
    ∷ None ∷ None ∷ None ∷ None ∷ None ∷ Some AboveLead ∷ Some NotDue ∷ None ∷ None ∷ None ∷ None ∷ Some NotHeld
    ∷ None ∷ []
reasons11 = refl

-- the state that they leave
abbrev pub end11 : State
end11 = record {
  cells = at Home 2 0 0 0 true ∷ [];
  floor = At 2;
  desks = record { sweep = []; paced = At 0 } ∷ record { sweep = seen 2 false ∷ []; paced = At 0 } ∷ [];
  due = Pair 2 0;
  visited = false ∷ [];
  gather = [];
  released = [];
}

state11 : result setting11 (opening 1 2) steps11 ≡ end11
state11 = refl

-- the lines, room and lead of this walk
abbrev pub setting12 : Setting
setting12 = record {
  lines =
      record { events = []; predecessors = []; end = 3 } ∷ [];
  room = 1;
  lead = 3;
}

abbrev steps12 : List Step
steps12 =
    Give 2 0 0 2 9 false ∷ Give 1 0 1 2 7 true ∷ Claim 0 0 ∷ Recall 1 1 ∷ Give 0 0 0 0 2 false ∷ Claim 0 0 ∷ Release 1
    ∷ Give 0 0 0 0 3 false ∷ Claim 0 0 ∷ Give 0 0 0 0 3 false ∷ Give 1 0 0 0 9 false ∷ Claim 1 0 ∷ Record 1 0 ∷ []

-- what each step is refused for
reasons12 : answers setting12 (opening 1 3) steps12
    ≡ Some NotHeld ∷ Some NotHeld ∷ None ∷ Some NoProcess ∷ None ∷ None ∷ Some NotDue ∷ None ∷ None ∷ None
    ∷ Some NotHeld ∷ None ∷ None ∷ []
reasons12 = refl

-- the state that they leave
abbrev pub end12 : State
end12 = record {
  cells = at Out 3 1 0 0 true ∷ [];
  floor = At 0;
  desks = record { sweep = []; paced = At 0 } ∷ record { sweep = []; paced = At 0 } ∷ record { sweep = []; paced = At 0 }
      ∷ [];
  due = Nothing;
  visited = false ∷ [];
  gather = [];
  released = [];
}

state12 : result setting12 (opening 1 3) steps12 ≡ end12
state12 = refl

-- the lines, room and lead of this walk
abbrev pub setting13 : Setting
setting13 = record {
  lines =
      record { events = []; predecessors = []; end = 2 }
      ∷ record { events = on_at 4 1 0 ∷ on_at 6 1 1 ∷ []; predecessors = 0 ∷ []; end = 9 } ∷ [];
  room = 1;
  lead = 1;
}

abbrev steps13 : List Step
steps13 =
    Look 1 0 ∷ Claim 0 0 ∷ Release 0 ∷ Give 0 0 0 0 2 false ∷ Claim 1 0 ∷ Record 1 0 ∷ Release 1 ∷ Publish ∷ Look 1 0
    ∷ Give 1 0 0 0 2 false ∷ Claim 0 0 ∷ Give 0 0 0 0 2 true ∷ Start 0 1 ∷ Give 0 1 0 1 1 false ∷ []

-- what each step is refused for
reasons13 : answers setting13 (opening 2 2) steps13
    ≡ None ∷ None ∷ Some NotDue ∷ None ∷ None ∷ None ∷ Some NotDue ∷ Some NotSwept ∷ None ∷ None ∷ None ∷ None ∷ None
    ∷ Some AboveLead ∷ []
reasons13 = refl

-- the state that they leave
abbrev pub end13 : State
end13 = record {
  cells = at Drained 2 0 0 0 true ∷ at Out 2 0 0 0 false ∷ [];
  floor = At 0;
  desks = record { sweep = []; paced = At 0 } ∷ record { sweep = seen 2 false ∷ []; paced = At 0 } ∷ [];
  due = Nothing;
  visited = false ∷ false ∷ [];
  gather = [];
  released = [];
}

state13 : result setting13 (opening 2 2) steps13 ≡ end13
state13 = refl
