-- What a written file is when it is read.
use Rattle.std.specs.Prelude.{◌≡◌, ◌<◌, ◌≤◌, ◌^◌, ℕ, ◌/◌, ◌%◌, List, [], ◌∷◌, length, Ok}
use Rattle.std.specs.Int.{w32, to_be_bytes}
use Rattle.fm_msg.specs.Event.{TimedMessage}
use Rattle.fm_msg.specs.declared.profile.Profile.{Profile}
use Rattle.fm_smf.specs.Track.{track, last_time, NeverFalls}
use Rattle.fm_smf.specs.File.{file}
use Rattle.fm_read.specs.declared.limits.TheConstants.{MAX_FILE}
use Rattle.fm_read.specs.Files.{Part, Contents, contents}
use Rattle.fm_read.specs.Written.{AreInRange}

-- the kind and the length of a track's chunk
abbrev pub track_head : ℕ → List ℕ
track_head n = 77 ∷ 84 ∷ 114 ∷ 107 ∷ to_be_bytes w32 n

-- a track's chunk
abbrev pub track_part : List ℕ → Part
track_part body = record { head = track_head (length body); body = body }

-- what a file of one track is read as
abbrev pub written_contents : Profile → List TimedMessage → ℕ → Contents
written_contents profile events end = record {
  head = 77 ∷ 84 ∷ 104 ∷ 100 ∷ 0 ∷ 0 ∷ 0 ∷ 6 ∷ 0 ∷ 0 ∷ 0 ∷ 1 ∷ (profile.division / 256) ∷ (profile.division % 256) ∷ [];
  format = 0;
  stated = 1;
  division = profile.division;
  parts = track_part (track profile events end) ∷ [];
}

-- these are the contents of the file of this profile, these events and this end
pub record IsFileOf (profile : Profile) (events : List TimedMessage) (end : ℕ) (c : Contents) : Type 0 where
  pub is_read : contents (file profile events end) ≡ Ok c
  pub small : length (file profile events end) ≤ MAX_FILE
  pub division : profile.division < 2 ^ 15
  pub in_range : AreInRange events
  pub in_time : NeverFalls 0 events
  pub later : last_time 0 events ≤ end

-- they are the contents of some file that is written
pub record IsWritten (c : Contents) : Type 0 where
  pub profile : Profile
  pub events : List TimedMessage
  pub end : ℕ
  pub is : IsFileOf profile events end c
