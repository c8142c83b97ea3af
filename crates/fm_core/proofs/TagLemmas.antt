-- What a tag is where a test on it holds.
use Rattle.std.proofs.Common.{◌≡◌, ◌⊎◌, ℕ, true, false, refl, inl, inr}
use Rattle.std.specs.Prelude.{not, nat_eq}
use Rattle.fm_core.specs.Tags.{is_unborn, is_out, is_at_hand, is_ended, is_held, is_claimable, has_nothing, is_drained}
use Rattle.fm_core.specs.declared.tag.Tag.{Tag}
use Rattle.fm_core.specs.declared.tag.Tag.TheVariants.{Unborn, Home, Full, Out, Ended, EndedOut, Drained}

-- what is held is born
pub held_is_born : (t : Tag) → is_held t ≡ true → is_unborn t ≡ false
held_is_born Unborn e = absurd (cc)
held_is_born Home e = refl
held_is_born Full e = refl
held_is_born Out e = refl
held_is_born Ended e = refl
held_is_born EndedOut e = refl
held_is_born Drained e = refl

-- what is held was ended before exactly where it is not out
pub held_ended : (t : Tag) → is_held t ≡ true → is_ended t ≡ not (is_out t)
held_ended Unborn e = absurd (cc)
held_ended Home e = absurd (cc)
held_ended Full e = absurd (cc)
held_ended Out e = refl
held_ended Ended e = absurd (cc)
held_ended EndedOut e = refl
held_ended Drained e = absurd (cc)

-- what is held is not at home
pub held_not_at_hand : (t : Tag) → is_held t ≡ true → is_at_hand t ≡ false
held_not_at_hand Unborn e = absurd (cc)
held_not_at_hand Home e = absurd (cc)
held_not_at_hand Full e = absurd (cc)
held_not_at_hand Out e = refl
held_not_at_hand Ended e = absurd (cc)
held_not_at_hand EndedOut e = refl
held_not_at_hand Drained e = absurd (cc)

-- where nothing is to be taken, the process is unborn or drained
pub nothing_is : (t : Tag) → has_nothing t ≡ true → (is_unborn t ≡ true) ⊎ (t ≡ Drained)
nothing_is Unborn e = inl refl
nothing_is Home e = absurd (cc)
nothing_is Full e = absurd (cc)
nothing_is Out e = absurd (cc)
nothing_is Ended e = absurd (cc)
nothing_is EndedOut e = absurd (cc)
nothing_is Drained e = inr refl

-- seat 0 takes what is at home, full or ended; another seat only what is at home
pub claimable_cases : (P : Tag → Type 0) (s : ℕ) (t : Tag) → is_claimable s t ≡ true → P Home → (nat_eq s 0 ≡ true → P Full)
    → (nat_eq s 0 ≡ true → P Ended) → P t
claimable_cases P s Unborn e a b c = absurd (cc)
claimable_cases P s Home e a b c = a
claimable_cases P s Full e a b c = b e
claimable_cases P s Out e a b c = absurd (cc)
claimable_cases P s Ended e a b c = c e
claimable_cases P s EndedOut e a b c = absurd (cc)
claimable_cases P s Drained e a b c = absurd (cc)

-- the tag that the test for out finds
pub out_is : (t : Tag) → is_out t ≡ true → t ≡ Out
out_is Unborn e = absurd (cc)
out_is Home e = absurd (cc)
out_is Full e = absurd (cc)
out_is Out e = refl
out_is Ended e = absurd (cc)
out_is EndedOut e = absurd (cc)
out_is Drained e = absurd (cc)

-- what is unborn is not ended
pub unborn_open : (t : Tag) → is_unborn t ≡ true → is_ended t ≡ false
unborn_open Unborn e = refl
unborn_open Home e = refl
unborn_open Full e = refl
unborn_open Out e = refl
unborn_open Ended e = absurd (cc)
unborn_open EndedOut e = absurd (cc)
unborn_open Drained e = absurd (cc)

-- what is ended is born
pub ended_born : (t : Tag) → is_ended t ≡ true → is_unborn t ≡ false
ended_born Unborn e = absurd (cc)
ended_born Home e = refl
ended_born Full e = refl
ended_born Out e = refl
ended_born Ended e = refl
ended_born EndedOut e = refl
ended_born Drained e = refl

-- what is out is held
pub out_held : (t : Tag) → is_out t ≡ true → is_held t ≡ true
out_held Unborn e = absurd (cc)
out_held Home e = absurd (cc)
out_held Full e = absurd (cc)
out_held Out e = refl
out_held Ended e = absurd (cc)
out_held EndedOut e = absurd (cc)
out_held Drained e = absurd (cc)

-- what is neither unborn, nor ended, nor held, is at home
pub at_home : (t : Tag) → is_unborn t ≡ false → is_ended t ≡ false → is_held t ≡ false → (t ≡ Home) ⊎ (t ≡ Full)
at_home Unborn a b c = absurd (cc)
at_home Home a b c = inl refl
at_home Full a b c = inr refl
at_home Out a b c = absurd (cc)
at_home Ended a b c = absurd (cc)
at_home EndedOut a b c = absurd (cc)
at_home Drained a b c = absurd (cc)

-- what is ended, not held and not drained is ended with events left
pub ended_here : (t : Tag) → is_ended t ≡ true → is_held t ≡ false → is_drained t ≡ false → t ≡ Ended
ended_here Unborn a b c = absurd (cc)
ended_here Home a b c = absurd (cc)
ended_here Full a b c = absurd (cc)
ended_here Out a b c = absurd (cc)
ended_here Ended a b c = refl
ended_here EndedOut a b c = absurd (cc)
ended_here Drained a b c = absurd (cc)

-- the tag that the test for drained finds
pub drained_is : (t : Tag) → is_drained t ≡ true → t ≡ Drained
drained_is Unborn a = absurd (cc)
drained_is Home a = absurd (cc)
drained_is Full a = absurd (cc)
drained_is Out a = absurd (cc)
drained_is Ended a = absurd (cc)
drained_is EndedOut a = absurd (cc)
drained_is Drained a = refl
