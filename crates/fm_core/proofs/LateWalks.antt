-- Further walks, as another program walked them: what refuses each step, and the state at the end.
use Rattle.std.proofs.Common.{◌≡◌, List, [], ◌∷◌, true, false, Some, None, refl}
use Rattle.fm_core.specs.State.{Setting, State, opening, unborn}
use Rattle.fm_core.specs.declared.due.Due.TheVariants.{Nothing, Pair, Everything}
use Rattle.fm_core.specs.declared.floor.Floor.TheVariants.{At, Done}
use Rattle.fm_core.specs.declared.reason.Reason.TheVariants.{NoSeat, NoProcess, NotUnborn, PredecessorLive, NotHeld, WrongCount, AboveLead, WrongClock, NotSwept, NotDue, NotVisited}
use Rattle.fm_core.specs.declared.step.Step.{Step}
use Rattle.fm_core.specs.declared.step.Step.TheVariants.{Look, Claim, Start, Record, Recall, Give, Publish, Pace, Release}
use Rattle.fm_core.specs.declared.tag.Tag.TheVariants.{Home, Full, Out, Ended, Drained}
use Rattle.fm_core.proofs.Walking.{on_at, at, seen, answers, result}

-- the lines, room and lead of this walk
abbrev pub setting14 : Setting
setting14 = record {
  lines =
      record { events = on_at 1 0 0 ∷ on_at 2 0 1 ∷ []; predecessors = []; end = 3 }
      ∷ record { events = on_at 3 1 0 ∷ on_at 6 1 1 ∷ []; predecessors = 0 ∷ []; end = 9 }
      ∷ record { events = on_at 12 2 0 ∷ on_at 14 2 1 ∷ []; predecessors = 0 ∷ 1 ∷ []; end = 15 } ∷ [];
  room = 2;
  lead = 0;
}

abbrev steps14 : List Step
steps14 =
    Claim 0 0 ∷ Give 0 0 0 0 1 false ∷ Release 0 ∷ Claim 0 0 ∷ Give 0 0 0 1 3 true ∷ Record 0 0 ∷ Record 1 0
    ∷ Give 0 0 0 0 1 false ∷ Record 1 0 ∷ Claim 1 0 ∷ Look 1 3 ∷ Give 1 0 0 0 1 false ∷ Look 0 0
    ∷ Give 1 0 0 1 7 true ∷ Look 0 1 ∷ Claim 1 0 ∷ Publish ∷ Start 2 1 ∷ Record 1 0 ∷ Look 0 2
    ∷ Give 1 0 0 0 1 false ∷ []

-- what each step is refused for
reasons14 : answers setting14 (opening 3 2) steps14
    ≡ None ∷ None ∷ Some NotDue ∷ None ∷ Some AboveLead ∷ None ∷ Some NotHeld ∷ None ∷ Some NotHeld ∷ None
    ∷ Some NoProcess ∷ None ∷ None ∷ Some NotHeld ∷ None ∷ None ∷ Some NotSwept ∷ Some NoSeat ∷ None ∷ None ∷ None
    ∷ []
reasons14 = refl

-- the state that they leave
abbrev pub end14 : State
end14 = record {
  cells = at Home 1 0 0 0 true ∷ unborn ∷ unborn ∷ [];
  floor = At 0;
  desks = record { sweep = seen 1 false ∷ seen 1 false ∷ seen 1 false ∷ []; paced = At 0 }
      ∷ record { sweep = []; paced = At 0 } ∷ [];
  due = Nothing;
  visited = false ∷ true ∷ true ∷ [];
  gather = [];
  released = [];
}

state14 : result setting14 (opening 3 2) steps14 ≡ end14
state14 = refl

-- the lines, room and lead of this walk
abbrev pub setting15 : Setting
setting15 = record {
  lines =
      record { events = on_at 2 0 0 ∷ on_at 4 0 1 ∷ []; predecessors = []; end = 7 }
      ∷ record { events = on_at 9 1 0 ∷ on_at 9 1 1 ∷ on_at 12 1 2 ∷ []; predecessors = 0 ∷ []; end = 12 } ∷ [];
  room = 2;
  lead = 3;
}

abbrev steps15 : List Step
steps15 =
    Claim 0 0 ∷ Give 0 0 0 1 0 false ∷ Start 0 1 ∷ Look 0 0 ∷ Look 0 0 ∷ Claim 0 0 ∷ Recall 1 1 ∷ Give 0 0 0 0 3 false
    ∷ Look 0 0 ∷ Claim 0 0 ∷ Record 0 0 ∷ Give 0 0 0 0 4 false ∷ Look 0 0 ∷ Look 0 1 ∷ Give 0 1 0 2 8 false
    ∷ Claim 0 0 ∷ Release 2 ∷ Give 0 0 0 0 4 false ∷ Look 0 1 ∷ Look 0 0 ∷ Look 0 1 ∷ Look 0 0 ∷ Look 0 1 ∷ Publish
    ∷ Pace 0 ∷ Look 0 0 ∷ Claim 0 0 ∷ Look 0 0 ∷ Recall 0 2 ∷ Give 0 0 1 0 3 false ∷ Give 0 0 1 1 4 false
    ∷ Start 1 1 ∷ Look 0 1 ∷ []

-- what each step is refused for
reasons15 : answers setting15 (opening 2 1) steps15
    ≡ None ∷ None ∷ Some PredecessorLive ∷ None ∷ None ∷ None ∷ Some NoSeat ∷ None ∷ None ∷ None ∷ None ∷ None ∷ None
    ∷ None ∷ Some NotHeld ∷ None ∷ Some NotDue ∷ None ∷ None ∷ None ∷ None ∷ None ∷ None ∷ None ∷ None ∷ None ∷ None
    ∷ None ∷ Some NoProcess ∷ Some WrongClock ∷ None ∷ Some NoSeat ∷ None ∷ []
reasons15 = refl

-- the state that they leave
abbrev pub end15 : State
end15 = record {
  cells = at Home 4 0 2 1 true ∷ unborn ∷ [];
  floor = At 4;
  desks = record { sweep = seen 4 false ∷ seen 4 false ∷ []; paced = At 4 } ∷ [];
  due = Pair 4 0;
  visited = true ∷ true ∷ [];
  gather = on_at 2 0 0 ∷ [];
  released = [];
}

state15 : result setting15 (opening 2 1) steps15 ≡ end15
state15 = refl

-- the lines, room and lead of this walk
abbrev pub setting16 : Setting
setting16 = record {
  lines =
      record { events = on_at 3 0 0 ∷ []; predecessors = []; end = 4 }
      ∷ record { events = []; predecessors = 0 ∷ []; end = 5 } ∷ [];
  room = 1;
  lead = 1;
}

abbrev steps16 : List Step
steps16 =
    Look 3 2 ∷ Claim 0 0 ∷ Look 0 0 ∷ Give 0 0 0 0 3 false ∷ Release 0 ∷ Look 1 2 ∷ Look 0 0 ∷ Look 0 1 ∷ Publish
    ∷ Pace 0 ∷ Claim 0 0 ∷ Look 0 0 ∷ Give 0 0 0 1 4 false ∷ Look 0 0 ∷ Give 0 1 1 1 1 false ∷ Give 0 1 0 1 3 true
    ∷ Record 2 2 ∷ Look 0 1 ∷ Claim 0 0 ∷ Look 0 0 ∷ Record 0 0 ∷ Give 0 0 0 0 4 true ∷ Release 0 ∷ Look 1 0
    ∷ Look 1 0 ∷ Start 0 1 ∷ Look 2 0 ∷ Give 0 1 0 0 5 false ∷ Claim 0 1 ∷ Look 1 1 ∷ Look 0 0 ∷ Give 0 1 0 0 8 true
    ∷ Look 0 1 ∷ Recall 1 0 ∷ Record 0 1 ∷ Give 0 1 0 0 5 true ∷ Look 0 0 ∷ Publish ∷ Start 1 1 ∷ Release 0
    ∷ Look 0 1 ∷ Pace 1 ∷ Publish ∷ []

-- what each step is refused for
reasons16 : answers setting16 (opening 2 3) steps16
    ≡ Some NoSeat ∷ None ∷ None ∷ None ∷ Some NotDue ∷ Some NoProcess ∷ None ∷ None ∷ None ∷ None ∷ None ∷ None ∷ None
    ∷ None ∷ Some NotHeld ∷ Some NotHeld ∷ Some NoProcess ∷ None ∷ None ∷ None ∷ None ∷ None ∷ None ∷ None ∷ None
    ∷ None ∷ None ∷ None ∷ None ∷ None ∷ None ∷ Some WrongClock ∷ None ∷ None ∷ None ∷ None ∷ None ∷ Some NotSwept
    ∷ Some NotUnborn ∷ Some NotDue ∷ None ∷ None ∷ None ∷ []
reasons16 = refl

-- the state that they leave
abbrev pub end16 : State
end16 = record {
  cells = at Ended 4 0 1 0 true ∷ at Drained 5 0 0 0 true ∷ [];
  floor = Done;
  desks = record { sweep = []; paced = At 3 } ∷ record { sweep = seen 4 true ∷ seen 5 false ∷ []; paced = At 3 }
      ∷ record { sweep = seen 4 true ∷ []; paced = At 0 } ∷ [];
  due = Everything;
  visited = false ∷ false ∷ [];
  gather = [];
  released = [];
}

state16 : result setting16 (opening 2 3) steps16 ≡ end16
state16 = refl

-- the lines, room and lead of this walk
abbrev pub setting17 : Setting
setting17 = record {
  lines =
      record { events = on_at 1 0 0 ∷ on_at 2 0 1 ∷ []; predecessors = []; end = 4 }
      ∷ record { events = on_at 6 1 0 ∷ on_at 7 1 1 ∷ []; predecessors = 0 ∷ []; end = 8 }
      ∷ record { events = on_at 8 2 0 ∷ on_at 11 2 1 ∷ on_at 11 2 2 ∷ []; predecessors = 1 ∷ []; end = 11 } ∷ [];
  room = 1;
  lead = 0;
}

abbrev steps17 : List Step
steps17 =
    Claim 0 0 ∷ Release 2 ∷ Give 0 0 0 0 0 false ∷ Claim 0 0 ∷ Give 0 0 0 0 1 false ∷ Look 0 0 ∷ Look 0 0 ∷ Release 1
    ∷ Look 0 1 ∷ Look 0 2 ∷ Publish ∷ Give 0 0 0 1 2 false ∷ Publish ∷ Pace 0 ∷ Claim 0 0 ∷ Give 0 0 0 1 1 false
    ∷ Claim 0 0 ∷ Give 0 0 0 0 2 false ∷ Give 0 2 1 0 8 true ∷ Release 0 ∷ Look 0 0 ∷ Look 0 1 ∷ Look 0 2
    ∷ Release 0 ∷ Look 0 2 ∷ Claim 0 0 ∷ Look 0 0 ∷ Give 0 0 0 0 2 false ∷ Recall 0 2 ∷ Look 0 1 ∷ Release 2
    ∷ Publish ∷ Look 0 0 ∷ Give 0 2 1 1 1 true ∷ Give 0 0 0 2 7 true ∷ Publish ∷ Look 0 1 ∷ Look 0 2 ∷ Publish
    ∷ Give 0 0 0 2 7 false ∷ []

-- what each step is refused for
reasons17 : answers setting17 (opening 3 1) steps17
    ≡ None ∷ Some NotDue ∷ None ∷ None ∷ None ∷ None ∷ None ∷ Some NotDue ∷ None ∷ None ∷ None ∷ Some NotHeld
    ∷ Some NotSwept ∷ None ∷ None ∷ None ∷ None ∷ None ∷ Some NotHeld ∷ Some NotVisited ∷ None ∷ None ∷ None ∷ None
    ∷ None ∷ None ∷ None ∷ None ∷ Some PredecessorLive ∷ None ∷ Some NotDue ∷ Some NotSwept ∷ None ∷ Some NotHeld
    ∷ Some NotHeld ∷ Some NotSwept ∷ None ∷ None ∷ None ∷ Some NotHeld ∷ []
reasons17 = refl

-- the state that they leave
abbrev pub end17 : State
end17 = record {
  cells = at Full 2 0 1 0 false ∷ unborn ∷ unborn ∷ [];
  floor = At 2;
  desks = record { sweep = []; paced = At 1 } ∷ [];
  due = Pair 2 0;
  visited = false ∷ false ∷ false ∷ [];
  gather = [];
  released = [];
}

state17 : result setting17 (opening 3 1) steps17 ≡ end17
state17 = refl

-- the lines, room and lead of this walk
abbrev pub setting18 : Setting
setting18 = record {
  lines =
      record { events = []; predecessors = []; end = 1 } ∷ [];
  room = 2;
  lead = 3;
}

abbrev steps18 : List Step
steps18 =
    Recall 0 1 ∷ Claim 0 0 ∷ Look 2 1 ∷ Publish ∷ Give 0 0 0 0 4 true ∷ Publish ∷ Give 0 0 0 0 1 false ∷ Claim 2 0
    ∷ Give 2 0 0 2 8 true ∷ Give 2 0 0 0 1 false ∷ Claim 0 0 ∷ Give 0 0 0 1 9 true ∷ Look 1 0 ∷ Give 0 0 0 0 1 false
    ∷ Give 2 0 0 0 1 true ∷ Look 0 0 ∷ Give 0 0 1 2 9 false ∷ Claim 1 0 ∷ []

-- what each step is refused for
reasons18 : answers setting18 (opening 1 3) steps18
    ≡ Some NoProcess ∷ None ∷ Some NoProcess ∷ Some NotSwept ∷ Some WrongClock ∷ Some NotSwept ∷ None ∷ None
    ∷ Some WrongCount ∷ None ∷ None ∷ Some WrongCount ∷ None ∷ None ∷ Some NotHeld ∷ None ∷ Some NotHeld ∷ None ∷ []
reasons18 = refl

-- the state that they leave
abbrev pub end18 : State
end18 = record {
  cells = at Out 1 1 0 0 false ∷ [];
  floor = At 0;
  desks = record { sweep = seen 1 false ∷ []; paced = At 0 } ∷ record { sweep = seen 1 false ∷ []; paced = At 0 }
      ∷ record { sweep = []; paced = At 0 } ∷ [];
  due = Nothing;
  visited = false ∷ [];
  gather = [];
  released = [];
}

state18 : result setting18 (opening 1 3) steps18 ≡ end18
state18 = refl

-- the lines, room and lead of this walk
abbrev pub setting19 : Setting
setting19 = record {
  lines =
      record { events = on_at 3 0 0 ∷ on_at 3 0 1 ∷ on_at 6 0 2 ∷ []; predecessors = []; end = 8 }
      ∷ record { events = []; predecessors = 0 ∷ []; end = 11 } ∷ [];
  room = 1;
  lead = 3;
}

abbrev steps19 : List Step
steps19 =
    Look 2 0 ∷ Claim 0 0 ∷ Give 0 0 0 1 3 false ∷ Look 0 0 ∷ Look 0 1 ∷ Give 0 1 0 0 0 true ∷ Recall 1 0
    ∷ Give 0 1 0 0 6 false ∷ Give 1 1 1 0 1 false ∷ Publish ∷ Pace 0 ∷ Look 0 0 ∷ Recall 2 2 ∷ Look 1 0 ∷ Release 2
    ∷ Publish ∷ Release 0 ∷ Look 0 0 ∷ Publish ∷ Recall 0 2 ∷ Claim 0 0 ∷ Give 0 0 1 1 7 false
    ∷ Give 0 0 1 1 6 false ∷ []

-- what each step is refused for
reasons19 : answers setting19 (opening 2 2) steps19
    ≡ Some NoSeat ∷ None ∷ None ∷ None ∷ None ∷ Some NotHeld ∷ Some PredecessorLive ∷ Some NotHeld ∷ Some NotHeld ∷ None
    ∷ None ∷ None ∷ Some NoSeat ∷ None ∷ Some NotVisited ∷ Some NotSwept ∷ Some NotVisited ∷ None ∷ Some NotSwept
    ∷ Some NoProcess ∷ None ∷ Some WrongClock ∷ None ∷ []
reasons19 = refl

-- the state that they leave
abbrev pub end19 : State
end19 = record {
  cells = at Full 6 0 2 1 false ∷ unborn ∷ [];
  floor = At 3;
  desks = record { sweep = seen 3 false ∷ []; paced = At 3 } ∷ record { sweep = seen 3 false ∷ []; paced = At 0 } ∷ [];
  due = Pair 3 0;
  visited = true ∷ false ∷ [];
  gather = on_at 3 0 0 ∷ [];
  released = [];
}

state19 : result setting19 (opening 2 2) steps19 ≡ end19
state19 = refl
