-- What the bytes of a run's steps are: a legal run to its end, or where they fail first.
use Rattle.std.specs.Prelude.{◌≡◌, ℕ, ◌<◌, List, [], ◌++◌, length, Option, Some, None}
use Rattle.fm_line.specs.declared.line.Line.{Line}
use Rattle.fm_core.specs.Effects.{Legal, run}
use Rattle.fm_core.specs.State.{Setting, State, opening}
use Rattle.fm_core.specs.Steps.{reason}
use Rattle.fm_core.specs.declared.reason.Reason.{Reason}
use Rattle.fm_core.specs.declared.step.Step.{Step}
use Rattle.fm_progress.specs.Progress.{Finished}
use Rattle.fm_record.specs.StepBytes.{Begins, HasFields, HaveFields, step_bytes, steps_bytes}
use Rattle.fm_audit.specs.declared.fault.AuditFault.{AuditFault}
use Rattle.fm_audit.specs.declared.fault.AuditFault.TheVariants.{BadStep, Refused, Unfinished, Sink, Memory}

-- the bytes are those of steps, each allowed in its turn, and then the rest
pub record Leads (g : Setting) (h : State) (bytes : List ℕ) (steps : List Step) (rest : List ℕ) : Type 0 where
  pub fits : HaveFields steps
  pub same : bytes ≡ steps_bytes steps ++ rest
  pub legal : Legal g h steps

-- the bytes are a legal run, after which all is released and drained
pub record IsRun (g : Setting) (h : State) (bytes : List ℕ) : Type 0 where
  pub steps : List Step
  pub leads : Leads g h bytes steps []
  pub finished : Finished g (run g h steps)

-- behind steps that are allowed no step begins at this position
pub record IsBadAt (g : Setting) (h : State) (bytes : List ℕ) (position : ℕ) : Type 0 where
  pub steps : List Step
  pub rest : List ℕ
  pub leads : Leads g h bytes steps rest
  pub here : position ≡ length (steps_bytes steps)
  pub some : 0 < length rest
  pub bad : Begins rest → ⊥

-- behind steps that are allowed the next one, of this number, is refused for this reason
pub record IsRefusedAt (g : Setting) (h : State) (bytes : List ℕ) (number : ℕ) (why : Reason) : Type 0 where
  pub steps : List Step
  pub step : Step
  pub rest : List ℕ
  pub leads : Leads g h bytes steps (step_bytes step ++ rest)
  pub fits : HasFields step
  pub here : number ≡ length steps
  pub refused : reason g (run g h steps) step ≡ Some why

-- so many steps are allowed, and then not all is released and drained
pub record IsUnfinished (g : Setting) (h : State) (bytes : List ℕ) (count : ℕ) : Type 0 where
  pub steps : List Step
  pub leads : Leads g h bytes steps []
  pub here : count ≡ length steps
  pub unfinished : Finished g (run g h steps) → ⊥

-- what a fault says of the bytes; those of the sink and of memory are never said of bytes
abbrev pub Faulty : Setting → State → List ℕ → AuditFault → Type 0
Faulty g h bytes (BadStep position) = IsBadAt g h bytes position
Faulty g h bytes (Refused number why) = IsRefusedAt g h bytes number why
Faulty g h bytes (Unfinished count) = IsUnfinished g h bytes count
Faulty g h bytes Sink = ⊥
Faulty g h bytes Memory = ⊥

-- what the bytes are: a run to its end, or one with a fault
abbrev pub Judged : Setting → State → List ℕ → Option AuditFault → Type 0
Judged g h bytes None = IsRun g h bytes
Judged g h bytes (Some fault) = Faulty g h bytes fault

-- the verdict on the steps of a record, from the opening over these lines
abbrev pub Verdict : List Line → ℕ → ℕ → ℕ → List ℕ → Option AuditFault → Type 0
Verdict ls seats room lead steps verdict =
    Judged (record { lines = ls; room = room; lead = lead }) (opening (length ls) seats) steps verdict
