-- The events that a note still gives, and when they are those of a state of a process.
use Rattle.std.specs.Prelude.{◌≡◌, ℕ, ◌+◌, ◌-◌, ◌*◌, ◌^◌, ◌<◌, ◌≤◌, List, [], ◌∷◌, ◌++◌, map, drop, length, slice_index, All, Bool, ◌&&◌, min, nat_le, nat_lt, if◌then◌else◌, Option, Some}
use Rattle.fm_msg.specs.declared.msg.Msg.{Msg}
use Rattle.fm_msg.specs.declared.msg.Msg.TheVariants.{On, Off}
use Rattle.fm_msg.specs.declared.msg.TheConstants.{CHANNELS, DATA_VALUES}
use Rattle.fm_msg.specs.Event.{TimedMessage}
use Rattle.fm_line.specs.Marks.{Mark, mark_event}
use Rattle.fm_program.specs.State.{Standing, OpenLevel}
use Rattle.fm_program.specs.Run.{put_out}
use Rattle.fm_player.specs.declared.pending.Pending.{Pending}

-- messages at one tick, numbered in turn
abbrev pub events_at : (process index time : ℕ) → List Msg → List TimedMessage
events_at j i x [] = []
events_at j i x (m ∷ ms) = record { time = x; process = j; index = i; msg = m } ∷ events_at j (i + 1) x ms

-- all events of a note: its note-ons, then its note-offs
abbrev pub note_events : ℕ → Pending → List TimedMessage
note_events j n =
    events_at j n.first n.onset (map (λ key. On n.channel key n.velocity) n.keys.items)
    ++ events_at j (n.first + length n.keys.items) n.ending (map (Off n.channel) n.keys.items)

-- those that it still gives
abbrev pub pending_events : ℕ → Pending → List TimedMessage
pending_events j n = drop n.given (note_events j n)

-- its next message
abbrev pub next_msg : Pending → Msg
next_msg n =
    if nat_lt n.given (length n.keys.items)
    then On n.channel (slice_index n.keys.items n.given) n.velocity
    else Off n.channel (slice_index n.keys.items (n.given - length n.keys.items))

-- the tick at which it sounds
abbrev pub next_time : Pending → ℕ
next_time n = if nat_lt n.given (length n.keys.items) then n.onset else n.ending

-- events of which the first is at a tick
pub record StartsAt (time : ℕ) (events : List TimedMessage) : Type 0 where
  pub first : TimedMessage
  pub others : List TimedMessage
  pub is : events ≡ first ∷ others
  pub at : first.time ≡ time

-- its messages are in range, and so are their numbers
pub record IsPending (n : Pending) : Type 0 where
  pub given : n.given ≤ 2 * length n.keys.items
  pub channel : n.channel < CHANNELS
  pub velocity : n.velocity < DATA_VALUES
  pub keys : All (λ key. key < DATA_VALUES) n.keys.items
  pub numbers : n.first + 2 * length n.keys.items < 2 ^ 32

-- the event of a mark of the innermost level
abbrev pub event_of : List OpenLevel → Mark → Option TimedMessage
event_of ls m = mark_event (put_out ls m)

-- the events are those of the marks that are due in a state
abbrev pub NoteStands : ℕ → Pending → Standing → Type 0
NoteStands j n s = map (event_of s.levels) s.due ≡ map (λ e. Some e) (pending_events j n)

-- ---- what a note still has to begin and to end

-- how many note-ons are left
abbrev pub ons_left : Pending → ℕ
ons_left n = length n.keys.items - n.given

-- whether a note-off is next
abbrev pub is_at_off : Pending → Bool
is_at_off n = nat_le (length n.keys.items) n.given && nat_lt n.given (2 * length n.keys.items)

-- how many note-offs are left
abbrev pub offs_left : Pending → ℕ
offs_left n = min (length n.keys.items) (2 * length n.keys.items - n.given)
