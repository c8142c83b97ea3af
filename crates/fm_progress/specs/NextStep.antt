-- A step that brings a run nearer to its end.
use Rattle.std.specs.Prelude.{ℕ, ◌+◌, length, Bool, not, ◌&&◌, ◌||◌, if◌then◌else◌, nat_eq, nat_lt, Option, Some, None}
use Rattle.fm_line.specs.Line.{line, upper, total}
use Rattle.fm_core.specs.Floors.{floor_eq}
use Rattle.fm_core.specs.Numbers.{bit, find_below, any_below}
use Rattle.fm_core.specs.State.{Setting, State, cell, desk}
use Rattle.fm_core.specs.Steps.{waits, unvisited}
use Rattle.fm_core.specs.Tags.{is_unborn, is_out, is_ended, is_held, has_nothing, is_drained}
use Rattle.fm_core.specs.Taking.{is_due, must_take}
use Rattle.fm_core.specs.declared.step.Step.{Step}
use Rattle.fm_core.specs.declared.step.Step.TheVariants.{Look, Claim, Start, Record, Give, Publish, Pace, Release}
use Rattle.fm_progress.specs.Left.{workable, may_compute, can_lower, waits_for_visit, any_stale}

-- whether all is released and drained
abbrev pub is_finished : Setting → State → Bool
is_finished g h =
    nat_eq (length h.released) (total g.lines)
    && not (any_below (length h.cells) (λ p. not (is_drained (cell h p).tag)))

-- first: what lowers the owed, a record, or a give with the next event where it may be computed
abbrev pub lowers : Setting → State → Option ℕ → Option Step
lowers g h None = None
lowers g h (Some p) =
    if is_out (cell h p).tag && not (cell h p).recorded then Some (Record (cell h p).seat p)
    else Some (Give (cell h p).seat p (must_take g h (cell h p).seat p) (bit (may_compute g h p))
    (upper (line g.lines p) ((cell h p).computed + bit (may_compute g h p)))
    (nat_eq ((cell h p).computed + bit (may_compute g h p)) (length (line g.lines p).events)))

-- then: what is held goes back as it is
abbrev pub gives_back : Setting → State → Option ℕ → Option Step
gives_back g h None = None
gives_back g h (Some p) =
    Some (Give (cell h p).seat p (must_take g h (cell h p).seat p) 0 (cell h p).clock (is_ended (cell h p).tag))

-- then: what is due and gathered goes out, once all are visited, and it is something or there is no work
abbrev pub releases : Setting → State → Option Step
releases g h =
    if is_due h.due
    && (not (any_below (length h.cells) (unvisited h))
    && (nat_lt 0 (length h.gather) || not (any_below (length h.cells) (workable g h))))
    then Some (Release (length h.gather))
    else None

-- unborn, with all predecessors ended
abbrev pub startable : Setting → State → ℕ → Bool
startable g h p = is_unborn (cell h p).tag && not (waits g h p)

-- then: a process that can be born is started
abbrev pub starts : Option ℕ → Option Step
starts None = None
starts (Some p) = Some (Start 0 p)

-- then: a process with work under the present floor is claimed; seat 0 paces before
abbrev pub works : State → Option ℕ → Option Step
works h None = None
works h (Some p) = if floor_eq (desk h 0).paced h.floor then Some (Claim 0 p) else Some (Pace 0)

-- then: a process whose outbox has what is due is claimed
abbrev pub claims : Option ℕ → Option Step
claims None = None
claims (Some p) = Some (Claim 0 p)

-- then: the least unvisited process is claimed, looked at, or a look comes nearer to it
abbrev pub visits : State → Option ℕ → Option Step
visits h None = None
visits h (Some t) =
    if not (is_due h.due) then None
    else if not (has_nothing (cell h t).tag) then Some (Claim 0 t)
    else if nat_eq t 0 || nat_eq (t + 1) (length (desk h 0).sweep) then Some (Look 0 t)
    else if nat_lt t (length (desk h 0).sweep) then Some (Look 0 0)
    else Some (Look 0 (length (desk h 0).sweep))

-- last: the sweep is begun anew, goes on, or becomes the floor
abbrev pub sweeps : Setting → State → Step
sweeps g h =
    if any_stale g h then Look 0 0
    else if nat_lt (length (desk h 0).sweep) (length h.cells) then Look 0 (length (desk h 0).sweep)
    else Publish

-- the first step, or where there is none the second
abbrev pub or_else : Option Step → Option Step → Option Step
or_else (Some s) o = Some s
or_else None o = o

-- the first of eight rules that gives a step, each at the least process that it fits
abbrev pub first_rule : Setting → State → Option Step
first_rule g h =
    or_else (lowers g h (find_below (length h.cells) (can_lower g h)))
    (or_else (gives_back g h (find_below (length h.cells) (λ p. is_held (cell h p).tag)))
    (or_else (releases g h)
    (or_else (starts (find_below (length h.cells) (startable g h)))
    (or_else (works h (find_below (length h.cells) (workable g h)))
    (or_else (claims (find_below (length h.cells) (waits_for_visit g h)))
    (or_else (visits h (find_below (length h.cells) (unvisited h)))
    (Some (sweeps g h))))))))

-- the step that brings the run nearer to its end
abbrev pub next_step : Setting → State → Option Step
next_step g h = if is_finished g h then None else first_rule g h
