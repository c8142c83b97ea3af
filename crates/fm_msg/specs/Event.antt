-- What a contract sees of an event.
use Rattle.std.specs.Prelude.{ℕ, List, [], ◌∷◌}
use Rattle.fm_msg.specs.declared.msg.Msg.{Msg}
use Rattle.fm_msg.specs.declared.msg.Msg.TheVariants.{On, Off, Control, Program, Bend}
use Rattle.std.specs.declared.cmp.Ordering.{Ordering}
use Rattle.std.specs.Ordering.{nat_cmp}
use Rattle.std.specs.Cmp.Lexicographic.{slice_cmp}

-- a message at a tick, with the process that made it and its number there
pub record TimedMessage : Type 0 where
  pub time : ℕ
  pub process : ℕ
  pub index : ℕ
  pub msg : Msg

-- the numbers by which messages are compared: the kind, then the fields
abbrev pub message_key : Msg → List ℕ
message_key (On channel key velocity) = 0 ∷ channel ∷ key ∷ velocity ∷ []
message_key (Off channel key) = 1 ∷ channel ∷ key ∷ []
message_key (Control channel controller value) = 2 ∷ channel ∷ controller ∷ value ∷ []
message_key (Program channel program) = 3 ∷ channel ∷ program ∷ []
message_key (Bend channel bend) = 4 ∷ channel ∷ bend ∷ []

-- the numbers by which events are compared: time, process, index, and last the message
abbrev pub event_key : TimedMessage → List ℕ
event_key e = e.time ∷ e.process ∷ e.index ∷ message_key e.msg

-- the order of events
abbrev pub event_cmp : TimedMessage → TimedMessage → Ordering
event_cmp a b = slice_cmp nat_cmp (event_key a) (event_key b)
