-- What the audit of some bytes says of them and of the sink.
use Rattle.std.specs.Prelude.{◌≡◌, ℕ, List, Some}
use Rattle.fm_audit.specs.declared.fault.AuditFault.{AuditFault}
use Rattle.fm_audit.specs.declared.fault.AuditFault.TheVariants as audit
use Rattle.fm_top.specs.Products.{IsCutOff, IsDone, MakesAudited, Product}
use Rattle.fm_top.specs.Records.{RecordFails, TextFails, step_fault}
use Rattle.fm_tell.specs.declared.run_fault.RunFault.{RunFault}
use Rattle.fm_tell.specs.declared.run_fault.RunFault.TheVariants as run
use Rattle.fm_top.specs.Seen.{SinkSeen}

module _ {K : Type 0} (to : SinkSeen K) (sink sink' : K)
    (bytes : List ℕ) where
  -- the record is accepted, and the file of its score is written
  pub record Accepts : Type 0 where
    pub made : Product
    pub makes : MakesAudited bytes made
    pub done : IsDone to sink sink' made.work

  -- it is accepted, but a call failed before its file was in the sink
  pub record CutsOff : Type 0 where
    pub made : Product
    pub makes : MakesAudited bytes made
    pub cut : IsCutOff to sink sink' made.work

  -- what a fault says of the bytes and of the sink
  abbrev pub Rejects : RunFault → Type 0
  Rejects (run.Record at number) = RecordFails bytes at number × (sink' ≡ sink)
  Rejects (run.Score spot number) = TextFails bytes spot.line spot.column number × (sink' ≡ sink)
  Rejects run.Write = CutsOff
  Rejects run.Memory = sink' ≡ sink
  Rejects fault = ⊥

-- a fault of an audit, as it is told
abbrev pub IsToldOf : AuditFault → RunFault → Type 0
IsToldOf fault (run.Record at number) = step_fault fault ≡ Some (at, number)
IsToldOf fault run.Write = fault ≡ audit.Sink
IsToldOf fault run.Memory = fault ≡ audit.Memory
IsToldOf fault other = ⊥
