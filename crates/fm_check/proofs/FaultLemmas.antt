-- The faults of three walks, of which only the last has one, or none has.
use Rattle.std.proofs.Common.{◌≡◌, List, [], ◌++◌, ap, ◌∙◌, Some, None}
use Rattle.fm_meaning.specs.Fault.{NumberedFault}
use Rattle.fm_meaning.specs.Faults.{first_found}
use Rattle.fm_outline.proofs.RefusalLemmas.{no_first}

-- none has
pub none_of_three : (xs ys zs : List NumberedFault) → xs ≡ [] → None ≡ first_found ys → zs ≡ [] → xs ++ ys ++ zs ≡ []
none_of_three xs ys zs one two three =
    ap (λ l. l ++ ys ++ zs) one ∙ ap (λ l. l ++ zs) (no_first ys two) ∙ three

-- the last has
pub first_of_last : (xs ys zs : List NumberedFault) (f : NumberedFault) → xs ≡ [] → None ≡ first_found ys
    → first_found zs ≡ Some f → first_found (xs ++ ys ++ zs) ≡ Some f
first_of_last xs ys zs f one two three =
    ap (λ l. first_found (l ++ ys ++ zs)) one ∙ ap (λ l. first_found (l ++ zs)) (no_first ys two) ∙ three
