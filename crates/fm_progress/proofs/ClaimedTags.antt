-- What a claim does to a tag.
use Rattle.std.proofs.Common.{◌≡◌, true, false, refl}
use Rattle.fm_core.specs.Tags.{is_unborn, is_home, is_at_hand, is_ended, is_held, is_claimable, claimed_tag, has_nothing}
use Rattle.fm_core.specs.declared.tag.Tag.{Tag}
use Rattle.fm_core.specs.declared.tag.Tag.TheVariants.{Unborn, Home, Full, Out, Ended, EndedOut, Drained}

-- a claim makes nothing born or unborn
pub claimed_unborn : (t : Tag) → is_claimable 0 t ≡ true → is_unborn (claimed_tag t) ≡ is_unborn t
claimed_unborn Unborn e = absurd (cc)
claimed_unborn Home e = refl
claimed_unborn Full e = refl
claimed_unborn Out e = absurd (cc)
claimed_unborn Ended e = refl
claimed_unborn EndedOut e = absurd (cc)
claimed_unborn Drained e = absurd (cc)

-- a claim ends nothing
pub claimed_ended : (t : Tag) → is_claimable 0 t ≡ true → is_ended (claimed_tag t) ≡ is_ended t
claimed_ended Unborn e = absurd (cc)
claimed_ended Home e = refl
claimed_ended Full e = refl
claimed_ended Out e = absurd (cc)
claimed_ended Ended e = refl
claimed_ended EndedOut e = absurd (cc)
claimed_ended Drained e = absurd (cc)

-- what was claimed is held
pub claimed_held : (t : Tag) → is_held (claimed_tag t) ≡ true
claimed_held Unborn = refl
claimed_held Home = refl
claimed_held Full = refl
claimed_held Out = refl
claimed_held Ended = refl
claimed_held EndedOut = refl
claimed_held Drained = refl

-- what was claimed at home is out
pub hand_out : (t : Tag) → is_at_hand t ≡ true → claimed_tag t ≡ Out
hand_out Unborn e = refl
hand_out Home e = refl
hand_out Full e = refl
hand_out Out e = refl
hand_out Ended e = absurd (cc)
hand_out EndedOut e = refl
hand_out Drained e = refl

-- seat 0 can claim what is at home
pub hand_claimable : (t : Tag) → is_at_hand t ≡ true → is_claimable 0 t ≡ true
hand_claimable Unborn e = absurd (cc)
hand_claimable Home e = refl
hand_claimable Full e = refl
hand_claimable Out e = absurd (cc)
hand_claimable Ended e = absurd (cc)
hand_claimable EndedOut e = absurd (cc)
hand_claimable Drained e = absurd (cc)

-- what is at home is born
pub hand_born : (t : Tag) → is_at_hand t ≡ true → is_unborn t ≡ false
hand_born Unborn e = absurd (cc)
hand_born Home e = refl
hand_born Full e = refl
hand_born Out e = absurd (cc)
hand_born Ended e = absurd (cc)
hand_born EndedOut e = absurd (cc)
hand_born Drained e = absurd (cc)

-- the tag that the test for home finds
pub home_is : (t : Tag) → is_home t ≡ true → t ≡ Home
home_is Unborn e = absurd (cc)
home_is Home e = refl
home_is Full e = absurd (cc)
home_is Out e = absurd (cc)
home_is Ended e = absurd (cc)
home_is EndedOut e = absurd (cc)
home_is Drained e = absurd (cc)

-- seat 0 can claim what is not held and has something to be taken
pub some_claimable : (t : Tag) → is_held t ≡ false → has_nothing t ≡ false → is_claimable 0 t ≡ true
some_claimable Unborn e f = absurd (cc)
some_claimable Home e f = refl
some_claimable Full e f = refl
some_claimable Out e f = absurd (cc)
some_claimable Ended e f = refl
some_claimable EndedOut e f = absurd (cc)
some_claimable Drained e f = absurd (cc)
