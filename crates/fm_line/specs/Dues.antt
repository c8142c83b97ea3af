-- Which events of a list are due, counted wherever they stand and counted from the front.
use Rattle.std.specs.Prelude.{◌≡◌, ℕ, suc, ◌+◌, List, [], ◌∷◌, Bool, true, ◌&&◌, ◌||◌, nat_lt, nat_le, nat_eq, if◌then◌else◌, Option, Some, None}
use Rattle.fm_msg.specs.Event.{TimedMessage}
use Rattle.fm_line.specs.Piece.{Before}

-- the event is at most this time and process; where there is no pair, each event is
abbrev pub is_up_to : Option (ℕ × ℕ) → TimedMessage → Bool
is_up_to None e = true
is_up_to (Some key) e = nat_lt e.time key.0 || nat_eq e.time key.0 && nat_le e.process key.1

-- how many of the events pass a test
abbrev pub count_where : (TimedMessage → Bool) → List TimedMessage → ℕ
count_where due [] = 0
count_where due (e ∷ es) = (if due e then 1 else 0) + count_where due es

-- how many there are in front of the first one that does not pass it
abbrev pub count_in_front : (TimedMessage → Bool) → List TimedMessage → ℕ
count_in_front due [] = 0
count_in_front due (e ∷ es) = if due e then suc (count_in_front due es) else 0

-- who is before an event that passes the test passes it
abbrev pub IsUpward : (TimedMessage → Bool) → Type 0
IsUpward due = (x y : TimedMessage) → Before x y → due y ≡ true → due x ≡ true
