-- The listing of a file that is written, in the words of what was written.
use Rattle.std.specs.Prelude.{ℕ, zero, suc, ◌+◌, ◌-◌, List, [], ◌∷◌, ◌++◌, codes}
use Rattle.std.specs.Fmt.{decimal}
use Rattle.fm_msg.specs.Event.{TimedMessage}
use Rattle.fm_msg.specs.Message.{message_bytes}
use Rattle.fm_smf.specs.Track.{filler_count, last_time}
use Rattle.fm_smf.specs.declared.limits.TheConstants.{MAX_QUANTITY}
use Rattle.fm_listing.specs.Listing.{line}

-- the lines of so many fillers behind a tick, each an empty text as late as a quantity can say
abbrev pub filler_lines : ℕ → ℕ → List ℕ
filler_lines now zero = []
filler_lines now (suc k) = line 0 (now + MAX_QUANTITY) (255 ∷ 1 ∷ 0 ∷ []) ++ filler_lines (now + MAX_QUANTITY) k

-- the line of an event at a tick, behind a last one: first those of its fillers
abbrev pub lines_till : ℕ → ℕ → List ℕ → List ℕ
lines_till last tick bytes = filler_lines last (filler_count (tick - last)) ++ line 0 tick bytes

-- the lines of events behind a tick, each at its time and with its status byte
abbrev pub event_lines : ℕ → List TimedMessage → List ℕ
event_lines last [] = []
event_lines last (e ∷ es) = lines_till last e.time (message_bytes e.msg) ++ event_lines e.time es

-- the whole listing: the header, the tempo at tick 0, the events, and End of Track at the end
abbrev pub written_listing : ℕ → List TimedMessage → ℕ → List ℕ
written_listing division events end =
    (codes "format 0 tracks 1 division " ++ (decimal division ++ 10 ∷ []))
    ++ (line 0 0 (255 ∷ 81 ∷ 3 ∷ 7 ∷ 161 ∷ 32 ∷ [])
    ++ (event_lines 0 events ++ lines_till (last_time 0 events) end (255 ∷ 47 ∷ 0 ∷ [])))
