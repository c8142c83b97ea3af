-- The parts of a piece on two channels, and of no event.
use Rattle.std.proofs.Common.{◌≡◌, ℕ, List, [], ◌∷◌, ◌++◌, refl}
use Rattle.fm_msg.specs.declared.msg.Msg.TheVariants.{On, Off}
use Rattle.fm_smf.specs.VariableLength.{vlq}
use Rattle.fm_smf.specs.Track.{fillers, delta, end_bytes}
use Rattle.fm_parts.specs.ReadBack.{all_heard}
use Rattle.fm_parts.specs.Format1.{format1, channel_tracks, numbers}

-- the header and the head of the tempo's track, of this many tracks and bytes
abbrev head : ℕ → ℕ → List ℕ
head tracks bytes =
    77 ∷ 84 ∷ 104 ∷ 100 ∷ 0 ∷ 0 ∷ 0 ∷ 6 ∷ 0 ∷ 1 ∷ 0 ∷ tracks ∷ 1 ∷ 224 ∷ 77 ∷ 84 ∷ 114 ∷ 107 ∷ 0 ∷ 0 ∷ 0 ∷ bytes ∷ []

-- a note on each of two channels
two_channels : format1 480 ((0, On 0 60 64) ∷ (432, Off 0 60) ∷ (480, On 1 64 64) ∷ (912, Off 1 64) ∷ []) 960
    ≡ head 3 12 ++ 0 ∷ 255 ∷ 81 ∷ 3 ∷ 7 ∷ 161 ∷ 32 ∷ 135 ∷ 64 ∷ 255 ∷ 47 ∷ 0
    ∷ 77 ∷ 84 ∷ 114 ∷ 107 ∷ 0 ∷ 0 ∷ 0 ∷ 14 ∷ 0 ∷ 144 ∷ 60 ∷ 64 ∷ 131 ∷ 48 ∷ 128 ∷ 60 ∷ 64 ∷ 132 ∷ 16 ∷ 255 ∷ 47 ∷ 0
    ∷ 77 ∷ 84 ∷ 114 ∷ 107 ∷ 0 ∷ 0 ∷ 0 ∷ 14 ∷ 131 ∷ 96 ∷ 145 ∷ 64 ∷ 64 ∷ 131 ∷ 48 ∷ 129 ∷ 64 ∷ 64 ∷ 48 ∷ 255 ∷ 47 ∷ 0 ∷ []
unfolding format1 channel_tracks numbers end_bytes delta fillers vlq
two_channels = refl

-- no event
no_event : format1 480 [] 0 ≡ head 1 11 ++ 0 ∷ 255 ∷ 81 ∷ 3 ∷ 7 ∷ 161 ∷ 32 ∷ 0 ∷ 255 ∷ 47 ∷ 0 ∷ []
unfolding format1 channel_tracks numbers end_bytes delta fillers vlq
no_event = refl

-- what is heard of the two channels
two_heard : all_heard ((0, On 0 60 64) ∷ (432, Off 0 60) ∷ (480, On 1 64 64) ∷ (912, Off 1 64) ∷ []) 960
    ≡ ([], 960) ∷ ((0, On 0 60 64) ∷ (432, Off 0 60) ∷ [], 960) ∷ ((480, On 1 64 64) ∷ (912, Off 1 64) ∷ [], 960) ∷ []
unfolding numbers
two_heard = refl
