-- Marks: what processes make, at positions that can be mapped, and the lines of a list of marks.
use Rattle.std.specs.Prelude.{ℕ, ◌+◌, List, [], ◌∷◌, ◌++◌, max, Bool, false, ◌&&◌, nat_eq, if◌then◌else◌, Option, Some, None, is_none}
use Rattle.std.specs.Option.{option_map, option_to_list}
use Rattle.fm_msg.specs.declared.msg.Msg.{Msg}
use Rattle.fm_msg.specs.Event.{TimedMessage}
use Rattle.fm_line.specs.declared.line.Line.{Line}
use Rattle.fm_line.specs.Sounds.{Sound, is_note_off, come_out, numbered}

-- a message, or where there is none the end of a process, at two positions of one level
pub record Mark : Type 0 where
  pub process : ℕ
  pub index : ℕ
  pub msg : Option Msg
  pub onset : ℕ
  pub ending : ℕ

-- whether a mark has an ending of its own, as a note-off has
abbrev pub has_ending : Option Msg → Bool
has_ending None = false
has_ending (Some msg) = is_note_off msg

-- the mark with its onset mapped by one function, and the ending of a note-off by another
abbrev pub mapped : (ℕ → ℕ) → (ℕ → ℕ) → Mark → Mark
mapped f g m =
    record m { onset = f m.onset; ending = (if has_ending m.msg then g m.ending else f m.ending) }

-- when a mark sounds: a note-off at the greater of its onset and its ending, any other mark at its onset
abbrev pub mark_time : Mark → ℕ
mark_time m = if has_ending m.msg then max m.onset m.ending else m.onset

-- the event of a mark, where it has a message
abbrev pub mark_event : Mark → Option TimedMessage
mark_event m =
    option_map (λ x. record { time = mark_time m; process = m.process; index = m.index; msg = x }) m.msg

-- the events of the marks of the process j, in the order of its marks
abbrev pub events_in_turn : ℕ → List Mark → List TimedMessage
events_in_turn j [] = []
events_in_turn j (m ∷ ms) =
    (if nat_eq m.process j then option_to_list (mark_event m) else []) ++ events_in_turn j ms

-- the sound of a mark of the outermost level, where it has a message
abbrev pub mark_sound : Mark → Option Sound
mark_sound m = option_map (λ x. record { time = mark_time m; msg = x }) m.msg

-- the sounds of the process j, in the order of its marks
abbrev pub process_sounds : ℕ → List Mark → List Sound
process_sounds j [] = []
process_sounds j (m ∷ ms) =
    (if nat_eq m.process j then option_to_list (mark_sound m) else []) ++ process_sounds j ms

-- where the process j ends: the onset of its first mark without a message
abbrev pub process_end : ℕ → List Mark → ℕ
process_end j [] = 0
process_end j (m ∷ ms) = if nat_eq m.process j && is_none m.msg then m.onset else process_end j ms

-- the events of the process j: what comes out of its sounds, numbered in turn
abbrev pub process_events : ℕ → List Mark → List TimedMessage
process_events j ms = numbered j 0 (come_out (process_sounds j ms) (process_end j ms))

-- the line of the process j
abbrev pub process_line : ℕ → List ℕ → List Mark → Line
process_line j predecessors ms =
    record { events = process_events j ms; predecessors = predecessors; end = process_end j ms }

-- the lines of the processes from j on, whose predecessors are given
abbrev pub lines_from : ℕ → List (List ℕ) → List Mark → List Line
lines_from j [] ms = []
lines_from j (ps ∷ more) ms = process_line j ps ms ∷ lines_from (j + 1) more ms

-- the lines of a list of marks, whose positions are ticks, given the predecessors of each process
abbrev pub lines_of : List (List ℕ) → List Mark → List Line
lines_of predecessors ms = lines_from 0 predecessors ms
