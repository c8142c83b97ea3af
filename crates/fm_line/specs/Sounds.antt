-- How the sounds of a process come out: a note-off waits until its tick, until a later note needs its room, or until
-- the process ends.
use Rattle.std.specs.Prelude.{ℕ, suc, ◌+◌, ◌-◌, List, [], ◌∷◌, ◌++◌, length, map, take, drop, filter, Bool, true, false, nat_le, nat_lt, min, if◌then◌else◌}
use Rattle.fm_msg.specs.declared.msg.Msg.{Msg}
use Rattle.fm_msg.specs.declared.msg.Msg.TheVariants.{On, Off, Control, Program, Bend}
use Rattle.fm_msg.specs.Event.{TimedMessage}

-- how many note-offs of one process wait at most
abbrev pub most_waiting : ℕ
most_waiting = 16

-- a message at a tick; of a note-off the tick at which it is to come out
pub record Sound : Type 0 where
  pub time : ℕ
  pub msg : Msg

-- whether a message is a note-off
abbrev pub is_note_off : Msg → Bool
is_note_off (On channel key velocity) = false
is_note_off (Off channel key) = true
is_note_off (Control channel controller value) = false
is_note_off (Program channel program) = false
is_note_off (Bend channel bend) = false

-- whether a message is a note-on
abbrev pub is_note_on : Msg → Bool
is_note_on (On channel key velocity) = true
is_note_on (Off channel key) = false
is_note_on (Control channel controller value) = false
is_note_on (Program channel program) = false
is_note_on (Bend channel bend) = false

-- how many note-ons stand at the head of a list: the pitches of the note, where it begins there
abbrev pub ons_ahead : List Sound → ℕ
ons_ahead [] = 0
ons_ahead (x ∷ xs) = if is_note_on x.msg then suc (ons_ahead xs) else 0

-- ---- the order of what waits

-- the sound put before the first one that is not earlier
abbrev pub put_in : Sound → List Sound → List Sound
put_in s [] = s ∷ []
put_in s (x ∷ xs) = if nat_le s.time x.time then s ∷ x ∷ xs else x ∷ put_in s xs

-- the sounds by their ticks, and those of one tick as they stand
abbrev pub in_order : List Sound → List Sound
in_order [] = []
in_order (x ∷ xs) = put_in x (in_order xs)

-- those that are due at a tick
abbrev pub due_by : ℕ → List Sound → List Sound
due_by t xs = filter (λ x. nat_le x.time t) (in_order xs)

-- those that are not, as they stand
abbrev pub later_than : ℕ → List Sound → List Sound
later_than t xs = filter (λ x. nat_lt t x.time) xs

-- how many of these are too many where so many more are to follow
abbrev pub too_many : ℕ → List Sound → ℕ
too_many pitches xs = length xs + pitches - most_waiting

-- the sound at another tick
abbrev pub moved_to : ℕ → Sound → Sound
moved_to t x = record { time = t; msg = x.msg }

-- ---- the earliest that waits

-- one of some sounds, and the others
pub record Picked : Type 0 where
  pub first : Sound
  pub others : List Sound

-- this one, and these others
abbrev pub picked : Sound → List Sound → Picked
picked x xs = record { first = x; others = xs }

-- the earliest of some sounds, of equals the one that stands first
abbrev pub pick : Sound → List Sound → Picked
pick x [] = picked x []
pick x (y ∷ ys) =
    let r = pick y ys in
    if nat_le x.time r.first.time then picked x (y ∷ ys) else picked r.first (x ∷ r.others)

-- the tick before which nothing more comes out of a process that stands at a tick while these wait
abbrev pub clock_with : ℕ → List Sound → ℕ
clock_with t [] = t
clock_with t (x ∷ xs) = min t (pick x xs).first.time

-- ---- what comes out

-- what comes out of what waits before a sound at a tick that has so many pitches: what is due, by its ticks; then at
-- that tick the ones that wait longest, as many as leave no room for the pitches
abbrev pub out_before : (t pitches : ℕ) → List Sound → List Sound
out_before t pitches xs =
    let rest = later_than t xs in due_by t xs ++ map (moved_to t) (take (too_many pitches rest) rest)

-- what waits then
abbrev pub left_waiting : (t pitches : ℕ) → List Sound → List Sound
left_waiting t pitches xs = let rest = later_than t xs in drop (too_many pitches rest) rest

-- what comes out of sounds, while these wait, of a process that ends at the tick e
abbrev pub come_out_after : (waiting sounds : List Sound) → (e : ℕ) → List Sound
come_out_after ws [] e = out_before e most_waiting ws
come_out_after ws (x ∷ xs) e =
    if is_note_off x.msg then come_out_after (ws ++ x ∷ []) xs e
    else out_before x.time (ons_ahead (x ∷ xs)) ws
    ++ x ∷ come_out_after (left_waiting x.time (ons_ahead (x ∷ xs)) ws) xs e

-- what comes out of the sounds of a process that ends at the tick e
abbrev pub come_out : List Sound → ℕ → List Sound
come_out xs e = come_out_after [] xs e

-- sounds as the events of the process j, numbered in turn from i on
abbrev pub numbered : (j i : ℕ) → List Sound → List TimedMessage
numbered j i [] = []
numbered j i (x ∷ xs) = record { time = x.time; process = j; index = i; msg = x.msg } ∷ numbered j (i + 1) xs
