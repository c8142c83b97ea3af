-- What a walk finds, beside the faults that the meaning of a score lists.
use Rattle.std.specs.Prelude.{◌≡◌, List, Option, Some, None, Result, Ok, Err, option_map}
use Rattle.fm_meaning.specs.Fault.{NumberedFault}
use Rattle.fm_meaning.specs.Faults.{first_found}
use Rattle.fm_rules.specs.declared.fault.Fault.{Fault}
use Rattle.fm_rules.specs.Why.{fault_at}

-- a fault with its number
abbrev pub numbered : Fault → NumberedFault
numbered f = fault_at f.spot f.why

-- the fault that an answer names
abbrev pub found : {A : Type 0} → Result A Fault → Option NumberedFault
found (Ok x) = None
found (Err f) = Some (numbered f)

-- the first of these faults, or none where there is none
abbrev pub IsFirst : Option Fault → List NumberedFault → Type 0
IsFirst f faults = option_map numbered f ≡ first_found faults
