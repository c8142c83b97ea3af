-- What checks answer, as an answer of the walk, and what a refusal tells.
use Rattle.std.specs.Prelude.{◌≡◌, ℕ, List, None, Some, Result, Ok, Err, ⊤}
use Rattle.std.specs.declared.alloc.AllocError.{AllocError}
use Rattle.fm_lex.specs.declared.spot.Spot.{Spot}
use Rattle.fm_meaning.specs.Fault.{NumberedFault}
use Rattle.fm_meaning.specs.Faults.{first_found}
use Rattle.fm_rules.specs.Why.{fault_at}
use Rattle.fm_rules.specs.declared.why.Why.{Why}
use Rattle.fm_rules.specs.declared.fault.Fault.{Fault}
use Rattle.fm_rules.specs.declared.fault.CheckFault.{CheckFault}
use Rattle.fm_rules.specs.declared.fault.CheckFault.TheVariants.{Refused, Memory}
use Rattle.fm_outline.specs.declared.step.Instruction.{Instruction}
use Rattle.fm_outline.specs.declared.step.Instruction.TheVariants.{Phrase}

-- a fault refuses the score
abbrev pub answer_of : Result ⊤ Fault → Result ⊤ CheckFault
answer_of (Ok x) = Ok x
answer_of (Err fault) = Err (Refused fault.why fault.spot)

-- want of memory is an answer of the walk
abbrev pub memory_answer : {A : Type 0} → Result A AllocError → Result A CheckFault
memory_answer (Ok x) = Ok x
memory_answer (Err e) = Err Memory

-- the call of a phrase by its number
abbrev pub call_of : Result ℕ CheckFault → Result Instruction CheckFault
call_of (Ok n) = Ok (Phrase (Some n))
call_of (Err fault) = Err fault

-- where an answer is a refusal, this holds of its spot and reason
abbrev pub Refuses : {A : Type 0} → Result A CheckFault → (Spot → Why → Type 0) → Type 0
Refuses r P = (why : Why) (spot : Spot) → r ≡ Err (Refused why spot) → P spot why

-- a refusal tells the first of these faults
abbrev pub Told : List NumberedFault → CheckFault → Type 0
Told fs (Refused why spot) = first_found fs ≡ Some (fault_at spot why)
Told fs Memory = ⊤

-- an answer tells the first of these faults, or there is none and this holds of what was made
abbrev pub Tells : {A : Type 0} → List NumberedFault → (A → Type 0) → Result A CheckFault → Type 0
Tells fs P (Ok x) = (first_found fs ≡ None) × P x
Tells fs P (Err e) = Told fs e
