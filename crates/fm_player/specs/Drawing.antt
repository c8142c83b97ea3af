-- When registers, a generator and open frames are those of a state of a process.
use Rattle.std.specs.Prelude.{◌≡◌, ℕ, ◌+◌, ◌<◌, List, [], ◌∷◌, length, map, slice_index_or, true, nat_eq, if◌then◌else◌}
use Rattle.fm_pattern.specs.Cycle.{StandsAt}
use Rattle.fm_program.specs.declared.op.TheConstants.{MAX_INDEX}
use Rattle.fm_program.specs.declared.op.Draw.{Draw}
use Rattle.fm_program.specs.declared.op.Draw.TheVariants as draw
use Rattle.fm_program.specs.Parts.{StockParts}
use Rattle.fm_program.specs.Action.{amount_of, chord_at, duration_of, list_at, scope_at}
use Rattle.fm_program.specs.State.{OpenFrame, counting, cycling, Standing, Draught, pitches_drawn, duration_drawn, turn_drawn}
use Rattle.fm_program.specs.Fit.{expr_fits}
use Rattle.fm_player.specs.declared.frame.Frame.{Frame}
use Rattle.fm_player.specs.declared.frame.Frame.TheVariants.{Counting, Cycling}
use Rattle.fm_program.specs.declared.op.Span.{Span}
use Rattle.fm_program.specs.declared.op.Turn.{Turn}
use Rattle.fm_player.specs.declared.draws.Draws.{Draws}
use Rattle.fm_player.specs.declared.draws.Note.{Note}

-- what stands for a frame that is not open
abbrev pub no_frame : Frame
no_frame = Counting 0 0 0

-- the same in the program's run
abbrev pub no_open : OpenFrame
no_open = counting 0 0 0

-- the frame with this number, counted from the outermost; the innermost is first in the list
abbrev pub frame_at : ℕ → List OpenFrame → OpenFrame
frame_at f [] = no_open
frame_at f (x ∷ xs) = if nat_eq f (length xs) then x else frame_at f xs

-- the index of a loop stays below the limit, and a list is there and its cursor in it
abbrev pub IsFrame : StockParts → Frame → Type 0
IsFrame t (Counting index left back) = index + left < MAX_INDEX
IsFrame t (Cycling list cursor) = (list < length t.lists) × (cursor < length (list_at t list))

-- a frame is this one of a state
abbrev pub FrameStands : StockParts → Frame → OpenFrame → Type 0
FrameStands t (Counting index left back) (counting i l b) = (index ≡ i) × (left ≡ l) × (back ≡ b)
FrameStands t (Counting index left back) (cycling es c) = ⊥
FrameStands t (Cycling list cursor) (counting i l b) = ⊥
FrameStands t (Cycling list cursor) (cycling es c) = (es ≡ list_at t list) × StandsAt es cursor c

-- frames, the outermost first, are those of a state
pub record FramesStand (t : StockParts) (items : List Frame) (fs : List OpenFrame) : Type 0 where
  pub count : length items ≡ length fs
  pub each : (k : ℕ) → k < length items
      → FrameStands t (slice_index_or items k no_frame) (frame_at k fs)

-- what operations draw from is that of a state
pub record DrawsStand (t : StockParts) (d : Draws) (s : Standing) : Type 0 where
  pub registers : d.registers ≡ s.registers
  pub dice : d.dice ≡ s.dice
  pub frames : FramesStand t d.frames.items s.frames

-- a number of a message is written out, or is an expression
abbrev pub IsNumber : StockParts → ℕ → Draw → Type 0
IsNumber t loops (draw.Fixed v) = Unit {0}
IsNumber t loops (draw.Drawn e) = expr_fits t loops e ≡ true

-- a draw has this result and leaves this, wherever it stands for a state that draws so
pub record DrawsTo {A : Type 0} (t : StockParts) (old new : Draws) (result : A)
    (drawn : Standing → Draught A) : Type 0 where
  pub value : (s : Standing) → DrawsStand t old s → result ≡ (drawn s).value
  pub after : (s : Standing) → DrawsStand t old s → DrawsStand t new (drawn s).after

-- ---- notes

-- what a note draws in turn: first its keys
abbrev pub note_keys : StockParts → ℕ → ℕ → Standing → Draught (List ℕ)
note_keys t chord scope s = pitches_drawn (map (amount_of t) (chord_at t chord)) (scope_at t scope) s

-- then its duration
abbrev pub note_lasts : StockParts → ℕ → Span → ℕ → Standing → Draught ℕ
note_lasts t chord span scope s
    = duration_drawn (duration_of t span) (scope_at t scope) (note_keys t chord scope s).after

-- then its articulation
abbrev pub note_part : StockParts → ℕ → Span → Turn → ℕ → Standing → Draught ℕ
note_part t chord span gate scope s = turn_drawn gate (note_lasts t chord span scope s).after

-- last its velocity
abbrev pub note_velocity : StockParts → ℕ → Span → Turn → Turn → ℕ → Standing → Draught ℕ
note_velocity t chord span gate loud scope s = turn_drawn loud (note_part t chord span gate scope s).after

-- a note was drawn
pub record NoteDrawn (t : StockParts) (old new : Draws) (chord : ℕ) (span : Span) (gate loud : Turn) (scope : ℕ)
    (n : Note) : Type 0 where
  pub keys : (s : Standing) → DrawsStand t old s → n.keys.items ≡ (note_keys t chord scope s).value
  pub ticks : (s : Standing) → DrawsStand t old s → n.ticks ≡ (note_lasts t chord span scope s).value
  pub percent : (s : Standing) → DrawsStand t old s → n.percent ≡ (note_part t chord span gate scope s).value
  pub velocity : (s : Standing) → DrawsStand t old s → n.velocity ≡ (note_velocity t chord span gate loud scope s).value
  pub after : (s : Standing) → DrawsStand t old s
      → DrawsStand t new (note_velocity t chord span gate loud scope s).after
