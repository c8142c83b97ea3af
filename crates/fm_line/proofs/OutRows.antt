-- Notes that overlap, computed from the marks of one process.
use Rattle.std.proofs.Common.{◌≡◌, ℕ, ◌+◌, ◌-◌, ◌/◌, List, [], ◌∷◌, ◌++◌, map, nat_le, refl}
use Rattle.std.specs.Prelude.{Some, None, if◌then◌else◌}
use Rattle.fm_msg.specs.declared.msg.Msg.{Msg}
use Rattle.fm_msg.specs.declared.msg.Msg.TheVariants.{On, Off, Control, Program, Bend}
use Rattle.fm_msg.specs.Event.{TimedMessage}
use Rattle.fm_line.specs.Marks.{Mark, mapped, process_events, events_in_turn}
use Rattle.fm_line.specs.Sounds.{Sound, clock_with, come_out}

-- a mark of the process 0
abbrev mark : ℕ → Msg → ℕ → ℕ → Mark
mark index msg onset ending =
    record { process = 0; index = index; msg = Some msg; onset = onset; ending = ending }

-- the mark that ends the process 0
abbrev end_at : ℕ → ℕ → Mark
end_at index t = record { process = 0; index = index; msg = None; onset = t; ending = t }

-- an event of the process 0
abbrev event : ℕ → ℕ → Msg → TimedMessage
event time index msg = record { time = time; process = 0; index = index; msg = msg }

-- two quarter notes held for two each: the second one is cut at the end
two_notes : process_events 0 (mark 0 (On 0 60 64) 0 0 ∷ mark 1 (Off 0 60) 0 960
    ∷ mark 2 (On 0 62 64) 480 480 ∷ mark 3 (Off 0 62) 480 1440 ∷ end_at 4 960 ∷ [])
    ≡ event 0 0 (On 0 60 64) ∷ event 480 1 (On 0 62 64) ∷ event 960 2 (Off 0 60) ∷ event 960 3 (Off 0 62) ∷ []
two_notes = refl

-- two quarter notes held for no longer than they last: the events of the marks in their order
two_short_notes : process_events 0 (mark 0 (On 0 60 64) 0 0 ∷ mark 1 (Off 0 60) 0 480
    ∷ mark 2 (On 0 62 64) 480 480 ∷ mark 3 (Off 0 62) 480 864 ∷ end_at 4 960 ∷ [])
    ≡ events_in_turn 0 (mark 0 (On 0 60 64) 0 0 ∷ mark 1 (Off 0 60) 0 480
    ∷ mark 2 (On 0 62 64) 480 480 ∷ mark 3 (Off 0 62) 480 864 ∷ end_at 4 960 ∷ [])
two_short_notes = refl

abbrev sixteen : List ℕ
sixteen = 48 ∷ 50 ∷ 52 ∷ 53 ∷ 55 ∷ 57 ∷ 59 ∷ 60 ∷ 62 ∷ 64 ∷ 65 ∷ 67 ∷ 69 ∷ 71 ∷ 72 ∷ 74 ∷ []

abbrev ons : ℕ → ℕ → List ℕ → List Mark
ons i t [] = []
ons i t (k ∷ ks) = mark i (On 0 k 64) t t ∷ ons (i + 1) t ks

abbrev offs : ℕ → ℕ → ℕ → List ℕ → List Mark
offs i t e [] = []
offs i t e (k ∷ ks) = mark i (Off 0 k) t e ∷ offs (i + 1) t e ks

-- sixteen pitches and then one, all four times as long: the first off is cut at the second note, all others at the end
sixteen_and_one : process_events 0 (
    ons 0 0 sixteen ++ offs 16 0 40 sixteen ++ mark 32 (On 0 76 64) 10 10 ∷ mark 33 (Off 0 76) 10 50 ∷ end_at 34 20 ∷ [])
    ≡ event 0 0 (On 0 48 64) ∷ event 0 1 (On 0 50 64) ∷ event 0 2 (On 0 52 64) ∷ event 0 3 (On 0 53 64)
    ∷ event 0 4 (On 0 55 64) ∷ event 0 5 (On 0 57 64) ∷ event 0 6 (On 0 59 64) ∷ event 0 7 (On 0 60 64)
    ∷ event 0 8 (On 0 62 64) ∷ event 0 9 (On 0 64 64) ∷ event 0 10 (On 0 65 64) ∷ event 0 11 (On 0 67 64)
    ∷ event 0 12 (On 0 69 64) ∷ event 0 13 (On 0 71 64) ∷ event 0 14 (On 0 72 64) ∷ event 0 15 (On 0 74 64)
    ∷ event 10 16 (Off 0 48) ∷ event 10 17 (On 0 76 64)
    ∷ event 20 18 (Off 0 50) ∷ event 20 19 (Off 0 52) ∷ event 20 20 (Off 0 53)
    ∷ event 20 21 (Off 0 55) ∷ event 20 22 (Off 0 57) ∷ event 20 23 (Off 0 59) ∷ event 20 24 (Off 0 60)
    ∷ event 20 25 (Off 0 62) ∷ event 20 26 (Off 0 64) ∷ event 20 27 (Off 0 65) ∷ event 20 28 (Off 0 67)
    ∷ event 20 29 (Off 0 69) ∷ event 20 30 (Off 0 71) ∷ event 20 31 (Off 0 72) ∷ event 20 32 (Off 0 74)
    ∷ event 20 33 (Off 0 76) ∷ []
sixteen_and_one = refl

-- a level that plays twice as fast for ten positions, and as written behind them
abbrev half : ℕ → ℕ
half x = if nat_le x 10 then x / 2 else x - 5

-- a note held past its level: its end, 40, lies at 35, before the end of the process at 105
past_its_level : process_events 0
    (map (mapped half half) (mark 0 (On 0 60 64) 0 0 ∷ mark 1 (Off 0 60) 0 40 ∷ end_at 2 110 ∷ []))
    ≡ event 0 0 (On 0 60 64) ∷ event 35 1 (Off 0 60) ∷ []
past_its_level = refl

-- ---- from the sounds

abbrev sound : ℕ → Msg → Sound
sound t m = record { time = t; msg = m }

-- a point lets what is due out before it, at its own tick too, and cuts nothing
points : come_out (
    sound 0 (On 0 60 64) ∷ sound 10 (Off 0 60) ∷ sound 0 (On 0 62 64) ∷ sound 20 (Off 0 62) ∷ sound 10 (Control 0 7 1)
    ∷ sound 19 (Program 0 5) ∷ sound 19 (Bend 0 0) ∷ []) 30
    ≡ sound 0 (On 0 60 64) ∷ sound 0 (On 0 62 64) ∷ sound 10 (Off 0 60) ∷ sound 10 (Control 0 7 1)
    ∷ sound 19 (Program 0 5) ∷ sound 19 (Bend 0 0) ∷ sound 20 (Off 0 62) ∷ []
points = refl

-- note-offs of one tick come out as their notes began, and a later note's earlier end comes first
by_tick : come_out (
    sound 0 (On 0 60 64) ∷ sound 30 (Off 0 60) ∷ sound 5 (On 0 62 64) ∷ sound 20 (Off 0 62) ∷ sound 6 (On 0 64 64)
    ∷ sound 30 (Off 0 64) ∷ []) 40
    ≡ sound 0 (On 0 60 64) ∷ sound 5 (On 0 62 64) ∷ sound 6 (On 0 64 64) ∷ sound 20 (Off 0 62) ∷ sound 30 (Off 0 60)
    ∷ sound 30 (Off 0 64) ∷ []
by_tick = refl

-- two notes of one key at once have a note-off each
same_key : come_out (
    sound 0 (On 0 60 64) ∷ sound 40 (Off 0 60) ∷ sound 10 (On 0 60 80) ∷ sound 50 (Off 0 60) ∷ []) 100
    ≡ sound 0 (On 0 60 64) ∷ sound 10 (On 0 60 80) ∷ sound 40 (Off 0 60) ∷ sound 50 (Off 0 60) ∷ []
same_key = refl

-- a chord cuts as many as it needs room for, the longest waiting first: with fifteen waiting, two of them for three pitches
fifteen_and_three : come_out (
    map (λ k. sound 90 (Off 0 k)) (1 ∷ 2 ∷ 3 ∷ 4 ∷ 5 ∷ 6 ∷ 7 ∷ 8 ∷ 9 ∷ 10 ∷ 11 ∷ 12 ∷ 13 ∷ 14 ∷ 15 ∷ [])
    ++ sound 10 (On 0 60 64) ∷ sound 10 (On 0 62 64) ∷ sound 10 (On 0 64 64) ∷ []) 90
    ≡ sound 10 (Off 0 1) ∷ sound 10 (Off 0 2)
    ∷ sound 10 (On 0 60 64) ∷ sound 10 (On 0 62 64) ∷ sound 10 (On 0 64 64)
    ∷ map (λ k. sound 90 (Off 0 k)) (3 ∷ 4 ∷ 5 ∷ 6 ∷ 7 ∷ 8 ∷ 9 ∷ 10 ∷ 11 ∷ 12 ∷ 13 ∷ 14 ∷ 15 ∷ [])
fifteen_and_three = refl

-- the clock is the earliest of where the process stands and of what waits
clocks : clock_with 10 (sound 12 (Off 0 60) ∷ sound 7 (Off 0 62) ∷ []) ∷ clock_with 5 (sound 12 (Off 0 60) ∷ []) ∷ clock_with 5 [] ∷ []
    ≡ 7 ∷ 5 ∷ 5 ∷ []
clocks = refl
