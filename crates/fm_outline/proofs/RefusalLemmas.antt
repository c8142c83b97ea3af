-- What a refusal tells.
use Rattle.std.proofs.Common.{◌≡◌, List, [], ◌∷◌, ◌++◌, ◌∙◌, sym, ap, refl, Option, Some, None, Result, Ok, Err, IsErrAnd, subst}
use Rattle.std.specs.Prelude.{IfOk, ⊤}
use Rattle.fm_lex.specs.declared.spot.Spot.{Spot}
use Rattle.fm_meaning.specs.Fault.{NumberedFault}
use Rattle.fm_meaning.specs.Faults.{first_found}
use Rattle.fm_rules.specs.Found.{found}
use Rattle.fm_rules.specs.Why.{fault_at}
use Rattle.fm_rules.specs.declared.why.Why.{Why}
use Rattle.fm_rules.specs.declared.fault.Fault.{Fault}
use Rattle.fm_rules.specs.declared.fault.CheckFault.{CheckFault}
use Rattle.fm_rules.specs.declared.fault.CheckFault.TheVariants.{Refused}
use Rattle.fm_outline.specs.Refusal.{answer_of, Told}

-- what `?` hands on is what it was given
pub handed : {A B E : Type 0} {r : Result A E} {e f : E} → r ≡ Err f → IsErrAnd r (λ y. y ≡ e)
    → let x : Result B E = Err e in x ≡ Err f
handed {r = Ok x} is given = absurd given
handed {r = Err y} {f = f} is given = let same : y ≡ f = cc in ap Err (sym given ∙ same)

-- what holds of all that holds in an answer
pub ok_more : {A E : Type 0} {P Q : A → Type 0} (r : Result A E) → ((x : A) → P x → Q x) → IfOk r P → IfOk r Q
ok_more (Ok x) more holds = more x holds
ok_more (Err e) more holds = tt

-- a list without a first fault has none
pub no_first : (fs : List NumberedFault) → None ≡ first_found fs → fs ≡ []
no_first [] none = refl
no_first (f ∷ fs) none = cc

-- a check that passes
pub passed : (r : Result ⊤ Fault) (x : ⊤) (fs : List NumberedFault) → Ok x ≡ answer_of r → found r ≡ first_found fs
    → None ≡ first_found fs
passed (Ok y) x fs answer first = first
passed (Err f) x fs answer first = cc

-- what a refusal tells
abbrev pub told_by : CheckFault → Option NumberedFault
told_by (Refused why spot) = Some (fault_at spot why)
told_by fault = None

-- a check that finds a fault
pub failed : (r : Result ⊤ Fault) (e : CheckFault) (fs : List NumberedFault) → Err e ≡ answer_of r
    → found r ≡ first_found fs → (why : Why) (spot : Spot)
    → (let x : Result ⊤ CheckFault = Err e in x ≡ Err (Refused why spot)) → first_found fs ≡ Some (fault_at spot why)
failed (Ok y) e fs answer first why spot is = cc
failed (Err f) e fs answer first why spot is =
    let told : Refused f.why f.spot ≡ Refused why spot = cc in sym first ∙ ap told_by told

-- a check that finds a fault
pub checked_tells : {e : CheckFault} (r : Result ⊤ Fault) (fs : List NumberedFault)
    → Err e ≡ answer_of r → found r ≡ first_found fs → Told fs e
checked_tells (Ok y) fs answer first = cc
checked_tells {e} (Err f) fs answer first =
    let same : e ≡ Refused f.why f.spot = cc in subst (Told fs) (sym same) (sym first)

-- faults behind none
pub behind : (fs gs : List NumberedFault) → None ≡ first_found fs → first_found (fs ++ gs) ≡ first_found gs
behind [] gs none = refl
behind (f ∷ fs) gs none = cc

-- a fault stays the first, whatever stands behind it
pub before : (fs gs : List NumberedFault) (f : NumberedFault) → first_found fs ≡ Some f → first_found (fs ++ gs) ≡ Some f
before [] gs f is = cc
before (g ∷ fs) gs f is = is
