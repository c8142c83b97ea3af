-- Records of runs that are audited: which one is accepted, of which score, and which fault any other has.
use Rattle.std.specs.Prelude.{◌≡◌, ℕ, ◌<◌, ◌≤◌, List, ◌++◌, length, Option, Some, None}
use Rattle.fm_audit.specs.Verdict.{Verdict}
use Rattle.fm_audit.specs.declared.fault.AuditFault.{AuditFault}
use Rattle.fm_audit.specs.declared.fault.AuditFault.TheVariants as audit
use Rattle.fm_grammar.specs.Score as tree
use Rattle.fm_meaning.specs.Lines.{played_lines}
use Rattle.fm_meaning.specs.Resolve.{resolved}
use Rattle.fm_meaning.specs.Verdict.{HasFault, Means}
use Rattle.fm_record.specs.Head.{IsHead, bad_field, head_bytes}
use Rattle.fm_record.specs.declared.limits.TheConstants.{MAX_RECORD}
use Rattle.fm_tell.specs.declared.run_fault.RunFault.{RunFault}
use Rattle.fm_tell.specs.declared.run_fault.RunFault.TheVariants as run

-- the number of a head that is cut, or that has a field which cannot stand
abbrev pub bad_head : ℕ
bad_head = 41

-- of bytes where a step should begin and none does
abbrev pub bad_step : ℕ
bad_step = 43

-- of a step that the core refuses
abbrev pub refused_step : ℕ
refused_step = 44

-- of steps that do not bring the run to its end
abbrev pub unfinished_run : ℕ
unfinished_run = 45

-- of more bytes than a record may have
abbrev pub too_long : ℕ
too_long = 46

-- the parts of a record: the seats, the room and the lead of its run, the text of its score, and the bytes of its steps
pub record Parts : Type 0 where
  pub seats : ℕ
  pub room : ℕ
  pub lead : ℕ
  pub text : List ℕ
  pub steps : List ℕ

-- the bytes are a record of these parts, of a length that is read
pub record IsRecord (bytes : List ℕ) (parts : Parts) : Type 0 where
  pub short : length bytes ≤ MAX_RECORD
  pub head : IsHead parts.seats parts.room parts.lead parts.text
  pub same : bytes ≡ head_bytes parts.seats parts.room parts.lead parts.text ++ parts.steps

-- the verdict on its steps, taken one by one from the opening over the lines of a score
abbrev pub HasVerdict : Parts → tree.Score → Option AuditFault → Type 0
HasVerdict parts score verdict =
    Verdict (played_lines (resolved score)) parts.seats parts.room parts.lead parts.steps verdict

-- its text means this score, and its steps are a run over it to its end
pub record IsAccepted (bytes : List ℕ) (score : tree.Score) : Type 0 where
  pub parts : Parts
  pub is_record : IsRecord bytes parts
  pub means : Means parts.text score
  pub run : HasVerdict parts score None

-- the place and the number that are told of a fault of the steps
abbrev pub step_fault : AuditFault → Option (ℕ × ℕ)
step_fault (audit.BadStep at) = Some (at, bad_step)
step_fault (audit.Refused step why) = Some (step, refused_step)
step_fault (audit.Unfinished steps) = Some (steps, unfinished_run)
step_fault audit.Sink = None
step_fault audit.Memory = None

-- why no run is found in the bytes: there are too many; or a field of their head cannot stand; or their text means a
-- score, and their steps have this fault over it
pub data RecordFails (bytes : List ℕ) (at number : ℕ) : Type 0 where
  passes : MAX_RECORD < length bytes → at ≡ 0 → number ≡ too_long → RecordFails bytes at number
  begins : length bytes ≤ MAX_RECORD → bad_field bytes ≡ Some at → number ≡ bad_head → RecordFails bytes at number
  strays : (parts : Parts) (score : tree.Score) (fault : AuditFault) → IsRecord bytes parts → Means parts.text score
      → HasVerdict parts score (Some fault) → step_fault fault ≡ Some (at, number) → RecordFails bytes at number

-- the bytes are a record whose text has this fault
pub record TextFails (bytes : List ℕ) (line column number : ℕ) : Type 0 where
  pub parts : Parts
  pub is_record : IsRecord bytes parts
  pub fault : HasFault parts.text line column number

-- a fault of a record: that of its length or its head, of its text, or of its steps
abbrev pub IsFaultOfRecord : List ℕ → RunFault → Type 0
IsFaultOfRecord bytes (run.Record at number) = RecordFails bytes at number
IsFaultOfRecord bytes (run.Score spot number) = TextFails bytes spot.line spot.column number
IsFaultOfRecord bytes fault = ⊥
