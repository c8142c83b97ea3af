-- The Standard MIDI File of a text.
use Rattle.std.specs.Prelude.{◌≡◌, ℕ, suc, zero, List, [], ◌++◌, length}
use Rattle.fm_lex.specs.Tokens.{tokens}
use Rattle.fm_line.specs.Marks.{Mark, process_events}
use Rattle.fm_line.specs.Piece.{sorted}
use Rattle.fm_meaning.specs.Played.{score_plays}
use Rattle.fm_meaning.specs.Resolved.{Resolved}
use Rattle.fm_msg.specs.Event.{TimedMessage}
use Rattle.fm_msg.specs.declared.profile.Profile.{Profile}
use Rattle.fm_smf.specs.File.{file}
use Rattle.fm_spelling.specs.Says.{ScoreSays}

-- the events of the first n processes, process by process
abbrev pub events_of : ℕ → List Mark → List TimedMessage
events_of zero marks = []
events_of (suc n) marks = events_of n marks ++ process_events n marks

-- the file of this profile, of all events by tick, process and index, to the end of the score
unfoldable pub file_of : Profile → Resolved → List ℕ
file_of profile score =
    let m = score_plays score in file profile (sorted (events_of (length m.after.births) m.marks)) m.after.position

-- the tokens of the text say how the file of a score is written and what it plays, and these are the bytes of that file
-- (a text has at most one such file: `each_text_is_one_file`)
pub record IsFileOf (text bytes : List ℕ) : Type 0 where
  pub profile : Profile
  pub score : Resolved
  pub says : ScoreSays (tokens text) profile score
  pub whole : bytes ≡ file_of profile score
