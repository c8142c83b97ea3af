-- What a contract sees of an outbox, and which of its events are due.
use Rattle.std.specs.Prelude.{ℕ, suc, ◌≤◌, Bool, true, ◌&&◌, ◌||◌, ◌==◌, nat_lt, nat_le, if◌then◌else◌, Option, Some, None, List, [], ◌∷◌, length, take, slice_get, All, IsTrue, IfSome}
use Rattle.std.specs.Bool.{IsFalse}
use Rattle.fm_msg.specs.Event.{TimedMessage}
use Rattle.fm_buffer.specs.declared.outbox.TheConstants.{MAX_ROOM}

-- the events that wait, oldest first, and how many may wait
pub record EventQueue : Type 0 where
  pub room : ℕ
  pub events : List TimedMessage

-- there is room for 1 to 64 events, and no more wait
pub record IsWithinRoom (queue : EventQueue) : Type 0 where
  pub least : 1 ≤ queue.room
  pub most : queue.room ≤ MAX_ROOM
  pub within : length queue.events ≤ queue.room

-- the (time, process) of the event is at most the key, or there is no key
abbrev pub is_through : Option (ℕ × ℕ) → TimedMessage → Bool
is_through None event = true
is_through (Some key) event =
    nat_lt event.time key.0 || ((event.time == key.0) && nat_le event.process key.1)

-- how many events there are in front up to the first one past the key
abbrev pub count_through : Option (ℕ × ℕ) → List TimedMessage → ℕ
count_through key [] = 0
count_through key (event ∷ events) =
    if is_through key event then suc (count_through key events) else 0

-- the longest prefix with no event past the key has so many events
pub record IsLongestThrough (key : Option (ℕ × ℕ)) (events : List TimedMessage) (count : ℕ) : Type 0 where
  pub within : count ≤ length events
  pub through : All (λ event. IsTrue (is_through key event)) (take count events)
  pub ended : IfSome (slice_get events count) (λ event. IsFalse (is_through key event))
