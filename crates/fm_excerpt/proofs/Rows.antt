-- Excerpts of a program change and two notes, and of a chord.
use Rattle.std.proofs.Common.{◌≡◌, ℕ, List, [], ◌∷◌, Some, None, refl}
use Rattle.fm_msg.specs.declared.msg.Msg.{Msg}
use Rattle.fm_msg.specs.declared.msg.Msg.TheVariants.{On, Off, Program, Bend, Control}
use Rattle.fm_excerpt.specs.Values.{program_at, control_at, bend_at}
use Rattle.fm_excerpt.specs.Excerpt.{below, channel_state, state, window, closing, excerpt, excerpt_end}

-- a program change and two quarter notes, of 960 ticks
abbrev piece : List (ℕ × Msg)
piece = (0, Program 0 5) ∷ (0, On 0 60 64) ∷ (432, Off 0 60) ∷ (480, On 0 62 64) ∷ (912, Off 0 62) ∷ []

from_the_second : excerpt 480 None piece 960 ≡ (0, Program 0 5) ∷ (0, On 0 62 64) ∷ (432, Off 0 62) ∷ []
unfolding excerpt window closing state channel_state below
from_the_second = refl

-- the note-off of the first is left out, and the second is cut
out_of_both : excerpt 100 (Some 600) piece 960 ≡ (0, Program 0 5) ∷ (380, On 0 62 64) ∷ (500, Off 0 62) ∷ []
unfolding excerpt window closing state channel_state below
out_of_both = refl

cut_at_500 : excerpt_end 100 (Some 600) 960 ≡ 500
cut_at_500 = refl

behind_the_end : excerpt 5000 None piece 960 ≡ (0, Program 0 5) ∷ []
unfolding excerpt window closing state channel_state below
behind_the_end = refl

no_length : excerpt_end 5000 None 960 ≡ 0
no_length = refl

-- notes without note-offs get them, so an excerpt may be longer than its file
longer_than_its_file : excerpt 0 None ((0, On 0 60 64) ∷ (0, On 0 62 64) ∷ []) 480
    ≡ (0, On 0 60 64) ∷ (0, On 0 62 64) ∷ (480, Off 0 60) ∷ (480, Off 0 62) ∷ []
unfolding excerpt window closing state channel_state below
longer_than_its_file = refl

-- a bend of 0, and a controller that is set three times
abbrev pedals : List (ℕ × Msg)
pedals = (0, Bend 1 0) ∷ (0, Control 1 7 3) ∷ (9, Control 1 7 4) ∷ (10, Control 1 7 5) ∷ []

-- a bend of 0 that was sent stands, and the last value of a controller
last_values : excerpt 10 (Some 10) pedals 20 ≡ (0, Control 1 7 4) ∷ (0, Bend 1 0) ∷ []
unfolding excerpt window closing state channel_state below
last_values = refl

-- what is set at a tick counts there; another channel and another controller have no value
values_at_ticks : control_at 1 7 8 pedals ∷ control_at 1 7 10 pedals ∷ control_at 2 7 10 pedals ∷ control_at 1 8 10 pedals ∷ []
    ≡ Some 3 ∷ Some 5 ∷ None ∷ None ∷ []
values_at_ticks = refl

-- at the tick 0 of the excerpt from 10 on stands what is set at 10
values_of_the_excerpt : let cut = excerpt 10 None pedals 20 in
    control_at 1 7 0 cut ∷ bend_at 1 0 cut ∷ program_at 1 0 cut ∷ [] ≡ Some 5 ∷ Some 0 ∷ None ∷ []
unfolding excerpt window closing state channel_state below
values_of_the_excerpt = refl

-- a bend of 0, and four notes on two channels, of which two are of one key
abbrev chord : List (ℕ × Msg)
chord =
    (0, Bend 2 0) ∷ (0, On 1 64 64) ∷ (0, On 0 67 64) ∷ (5, On 0 60 64) ∷ (5, On 0 60 64) ∷ (8, Off 0 60) ∷ (9, Off 1 64)
    ∷ (20, Off 0 60) ∷ (20, Off 0 67) ∷ []

-- what sounds is closed by channel and key, a key as often as it sounds; what is at the last tick is outside
closed_in_order : excerpt 0 (Some 9) chord 20
    ≡ (0, Bend 2 0) ∷ (0, On 1 64 64) ∷ (0, On 0 67 64) ∷ (5, On 0 60 64) ∷ (5, On 0 60 64) ∷ (8, Off 0 60)
    ∷ (9, Off 0 60) ∷ (9, Off 0 67) ∷ (9, Off 1 64) ∷ []
unfolding excerpt window closing state channel_state below
closed_in_order = refl

-- what is at the first tick is inside, behind the state
from_their_onset : excerpt 5 (Some 9) chord 20
    ≡ (0, Bend 2 0) ∷ (0, On 0 60 64) ∷ (0, On 0 60 64) ∷ (3, Off 0 60) ∷ (4, Off 0 60) ∷ []
unfolding excerpt window closing state channel_state below
from_their_onset = refl

-- note-offs alone are left out
nothing_begins : excerpt 6 None chord 20 ≡ (0, Bend 2 0) ∷ []
unfolding excerpt window closing state channel_state below
nothing_begins = refl

-- a window of no length, where it stops before its beginning
no_window : excerpt 480 (Some 100) piece 960 ≡ (0, Program 0 5) ∷ []
unfolding excerpt window closing state channel_state below
no_window = refl

-- only where it stops is said
to_the_second : excerpt 0 (Some 480) piece 960 ≡ (0, Program 0 5) ∷ (0, On 0 60 64) ∷ (432, Off 0 60) ∷ []
unfolding excerpt window closing state channel_state below
to_the_second = refl
