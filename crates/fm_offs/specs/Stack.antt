-- The note-offs that wait, as a stack holds them, and what comes out of it one at a time.
use Rattle.std.specs.Prelude.{◌≡◌, ℕ, ◌+◌, ◌<◌, ◌≤◌, List, [], ◌∷◌, length, map, slice_index_or}
use Rattle.fm_msg.specs.declared.msg.Msg.TheVariants.{Off}
use Rattle.fm_msg.specs.declared.msg.TheConstants.{CHANNELS, DATA_VALUES}
use Rattle.fm_line.specs.Sounds.{Sound, clock_with, left_waiting, most_waiting, out_before}
use Rattle.fm_offs.specs.declared.note_off.NoteOff.{NoteOff}

-- the numbers of a note-off are in range
pub record IsOff (off : NoteOff) : Type 0 where
  pub channel : off.channel < CHANNELS
  pub key : off.key < DATA_VALUES

-- a note-off as a sound
abbrev pub off_sound : NoteOff → Sound
off_sound off = record { time = off.tick; msg = Off off.channel off.key }

-- those of a stack
abbrev pub off_sounds : List NoteOff → List Sound
off_sounds offs = map off_sound offs

-- ---- what comes out before a sound at a tick that has so many pitches

-- this one comes out first of those that wait: it leaves what comes out behind it, at the tick before which
-- nothing came out, and that tick does not fall
pub record LetsOut (t pitches : ℕ) (olds news : List Sound) (x : Sound) : Type 0 where
  pub out : out_before t pitches olds ≡ x ∷ out_before t pitches news
  pub left : left_waiting t pitches olds ≡ left_waiting t pitches news
  pub at : x.time ≡ clock_with t olds
  pub rising : clock_with t olds ≤ clock_with t news
  pub fewer : length news + 1 ≡ length olds

-- some one comes out first of those that wait
pub record ComesNext (t pitches : ℕ) (ws : List Sound) : Type 0 where
  pub first : Sound
  pub others : List Sound
  pub lets : LetsOut t pitches ws others first

-- none comes out: all are later than the tick, and there is room for the pitches
pub record HasRoom (t pitches : ℕ) (ws : List Sound) : Type 0 where
  pub out : out_before t pitches ws ≡ []
  pub left : left_waiting t pitches ws ≡ ws
  pub clock : clock_with t ws ≡ t
  pub room : length ws + pitches ≤ most_waiting

-- ---- by indices in the stack

-- what stands for a note-off that is not there
abbrev pub no_off : NoteOff
no_off = record { tick = 0; channel = 0; key = 0 }

-- the tick of the note-off at an index
abbrev pub tick_at : List NoteOff → ℕ → ℕ
tick_at xs k = (slice_index_or xs k no_off).tick

-- the note-off at this index is not later than any, and earlier than those before it
pub record IsEarliest (xs : List NoteOff) (i : ℕ) : Type 0 where
  pub there : i < length xs
  pub first : (k : ℕ) → k < i → tick_at xs i < tick_at xs k
  pub least : (k : ℕ) → k < length xs → tick_at xs i ≤ tick_at xs k
