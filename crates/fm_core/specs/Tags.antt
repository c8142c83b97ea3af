-- What a tag says of a process.
use Rattle.std.specs.Prelude.{ℕ, Bool, true, false, if◌then◌else◌, nat_eq}
use Rattle.fm_core.specs.declared.tag.Tag.{Tag}
use Rattle.fm_core.specs.declared.tag.Tag.TheVariants.{Unborn, Home, Full, Out, Ended, EndedOut, Drained}

-- not started yet
abbrev pub is_unborn : Tag → Bool
is_unborn Unborn = true
is_unborn t = false

-- to be had, with room in the outbox
abbrev pub is_home : Tag → Bool
is_home Home = true
is_home t = false

-- held, and not ended before the hold
abbrev pub is_out : Tag → Bool
is_out Out = true
is_out t = false

-- at home and not ended
abbrev pub is_at_hand : Tag → Bool
is_at_hand Home = true
is_at_hand Full = true
is_at_hand t = false

-- its line is at an end
abbrev pub is_ended : Tag → Bool
is_ended Ended = true
is_ended EndedOut = true
is_ended Drained = true
is_ended t = false

-- some seat holds it
abbrev pub is_held : Tag → Bool
is_held Out = true
is_held EndedOut = true
is_held t = false

-- a worker takes what is at home; seat 0 also what is full, or ended with events left
abbrev pub is_claimable : ℕ → Tag → Bool
is_claimable s Home = true
is_claimable s Full = nat_eq s 0
is_claimable s Ended = nat_eq s 0
is_claimable s t = false

-- at its end, with an empty outbox
abbrev pub is_drained : Tag → Bool
is_drained Drained = true
is_drained t = false

-- ended, with events left in the outbox
abbrev pub has_left : Tag → Bool
has_left Ended = true
has_left EndedOut = true
has_left t = false

-- nothing is to be taken of it, so that a look is enough of a visit
abbrev pub has_nothing : Tag → Bool
has_nothing Unborn = true
has_nothing Drained = true
has_nothing t = false

-- the tag of a process that was claimed
abbrev pub claimed_tag : Tag → Tag
claimed_tag Ended = EndedOut
claimed_tag t = Out

-- the tag of a process that comes home with so many events in its outbox
abbrev pub given_tag : ℕ → Bool → ℕ → Tag
given_tag room true left = if nat_eq left 0 then Drained else Ended
given_tag room false left = if nat_eq left room then Full else Home
