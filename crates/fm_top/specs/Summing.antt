-- What is summed up of a performance, and told of a task that is done.
use Rattle.std.specs.Prelude.{◌≡◌, ℕ, List, Option, Some, None}
use Rattle.fm_play.specs.declared.played.Played.{Played}
use Rattle.fm_gen.specs.SummaryLine.{summary_line}
use Rattle.fm_gen.specs.declared.summary.Summary.{Summary}
use Rattle.fm_position.specs.PositionLine.{position_text}
use Rattle.fm_tell.specs.declared.status.TheConstants.{DONE}
use Rattle.fm_tell.specs.Seen.{ConsoleSeen}
use Rattle.fm_tell.specs.Telling.{Tells}
use Rattle.fm_top.specs.Seen.{ConsoleSeen}
use Rattle.fm_top.specs.declared.told.Told.{Told}
use Rattle.fm_top.specs.declared.told.Told.TheVariants.{Nothing, Totals, Place}

-- so many processes, and what was played
abbrev pub totals : ℕ → Played → Summary
totals processes played =
    record { processes = processes; events = played.events; last = played.last; bytes = played.bytes }

-- the line for the console, where there is one
abbrev pub told_text : Told → Option (List ℕ)
told_text Nothing = None
told_text (Totals summary) = Some (summary_line summary)
told_text (Place position) = Some (position_text position)

module _ {C : Type 0} (on : ConsoleSeen C) (console console' : C) where
  -- of a task that is done nothing is told, or its line where there is one
  abbrev pub TellsEnd : Option (List ℕ) → ℕ → Type 0
  TellsEnd None status = (status ≡ DONE) × (console' ≡ console)
  TellsEnd (Some text) status = Tells on console console' text DONE status
