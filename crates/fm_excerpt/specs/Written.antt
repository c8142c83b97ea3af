-- The files of which excerpts are made.
use Rattle.std.specs.Prelude.{ℕ, ◌≤◌, List, [], ◌∷◌, map, Option}
use Rattle.fm_msg.specs.Event.{TimedMessage}
use Rattle.fm_msg.specs.declared.profile.Profile.{Profile}
use Rattle.fm_smf.specs.declared.limits.TheConstants.{MAX_TIME}
use Rattle.fm_read.specs.Reading.{Pair}
use Rattle.fm_read.specs.Decoded.{decoded}
use Rattle.fm_read.specs.Files.{Contents, tracks}
use Rattle.fm_read.specs.Written.{time_after}
use Rattle.fm_read.specs.WrittenFile.{IsFileOf}
use Rattle.fm_excerpt.specs.Excerpt.{excerpt, excerpt_end, as_event}

-- these are the contents of a file of this profile whose end is in time
pub record HasExcerpts (profile : Profile) (c : Contents) : Type 0 where
  pub events : List TimedMessage
  pub end : ℕ
  pub is : IsFileOf profile events end c
  pub in_time : end ≤ MAX_TIME

-- the entries of the first of several tracks
abbrev pub entries_of_first : List (List Pair) → List Pair
entries_of_first [] = []
entries_of_first (es ∷ more) = es

-- the entries of a file's first track
abbrev pub first_entries : Contents → List Pair
first_entries c = entries_of_first (tracks c.parts)

-- the excerpt of a file's first track, as events
abbrev pub first_excerpt : ℕ → Option ℕ → Contents → List TimedMessage
first_excerpt begin until c =
    map as_event (excerpt begin until (decoded 0 (first_entries c)) (time_after 0 (first_entries c)))

-- its end
abbrev pub first_end : ℕ → Option ℕ → Contents → ℕ
first_end begin until c = excerpt_end begin until (time_after 0 (first_entries c))
