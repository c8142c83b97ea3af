-- What a player has ahead: its sounds to come, the pitches that begin where it stands, and note-offs that are taken.
use Rattle.std.specs.Prelude.{◌≡◌, ℕ, ◌+◌, ◌*◌, ◌<◌, ◌⊎◌, List, ◌∷◌, map, length, false, true, nat_eq, nat_lt, if◌then◌else◌, Some}
use Rattle.fm_msg.specs.Event.{TimedMessage}
use Rattle.fm_line.specs.Sounds.{Sound, is_note_off, is_note_on, most_waiting, ons_ahead}
use Rattle.fm_offs.specs.declared.note_off.NoteOff.{NoteOff}
use Rattle.fm_offs.specs.Stack.{off_sound}
use Rattle.fm_program.specs.Parts.{PlanParts}
use Rattle.fm_player.specs.declared.pending.Pending.{Pending}
use Rattle.fm_player.specs.declared.player.Player.{Player}
use Rattle.fm_player.specs.declared.answers.Stepped.TheVariants as stepped
use Rattle.fm_player.specs.Player.{MakesStep, clock_of, next_event, rest, steps_left}
use Rattle.fm_player.specs.Sounding.{is_at_off, ons_left}

-- the sound of an event
abbrev pub event_sound : TimedMessage → Sound
event_sound e = record { time = e.time; msg = e.msg }

-- what a player has still to sound, in the order of its marks
abbrev pub sounds : PlanParts → Player → List Sound
sounds p s = map event_sound (rest p s)

-- how many pitches begin where a player stands: those that are left of its note; at the end as many as may wait
abbrev pub pitches_ahead : PlanParts → Player → ℕ
pitches_ahead p s =
    if nat_lt 0 (ons_left s.note) then ons_left s.note else if nat_eq (steps_left p s) 0 then most_waiting else 0

-- a note-on is next, at the clock, and so many stand in a row
pub record IsAtOn (p : PlanParts) (s : Player) (k : ℕ) : Type 0 where
  pub some : 0 < k
  pub left : ons_left s.note ≡ k
  pub first : Sound
  pub others : List Sound
  pub is : sounds p s ≡ first ∷ others
  pub begins : is_note_off first.msg ≡ false
  pub at : first.time ≡ clock_of p s
  pub ahead : ons_ahead (first ∷ others) ≡ k

-- what the next step gives is no note-on, and no note-off but one of the note
pub record IsQuiet (p : PlanParts) (s : Player) : Type 0 where
  pub no_on : (e : TimedMessage) → next_event p s ≡ Some e → is_note_on e.msg ≡ false
  pub no_off : is_at_off s.note ≡ false → (e : TimedMessage) → next_event p s ≡ Some e → is_note_off e.msg ≡ false

-- so many pitches begin where a player stands: those of a note; as many as may wait, at the end; else none
abbrev pub Begins : PlanParts → Player → ℕ → Type 0
Begins p s k =
    IsAtOn p s k ⊎ ((k ≡ most_waiting) × (steps_left p s ≡ 0)) ⊎ ((k ≡ 0) × (0 < steps_left p s) × IsQuiet p s)

-- what a step makes of the note: its next event is given, or where none is left it stays or is another one
abbrev pub NoteGoes : Pending → Pending → Type 0
NoteGoes old new =
    ((old.given < 2 * length old.keys.items) × (new ≡ record old { given = old.given + 1 }))
    ⊎ ((2 * length old.keys.items ≡ old.given) × ((new ≡ old) ⊎ (new.given ≡ 0)))

-- the next step gives this note-off
pub record TakesOff (p : PlanParts) (old : Player) (off : NoteOff) (new : Player) : Type 0 where
  pub at_off : is_at_off old.note ≡ true
  pub event : TimedMessage
  pub step : MakesStep p old (stepped.Event event) new
  pub is : event_sound event ≡ off_sound off
  pub note : new.note ≡ record old.note { given = old.note.given + 1 }
