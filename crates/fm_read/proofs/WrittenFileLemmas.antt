-- What the contents of a written file tell of its events and its end.
use Rattle.std.proofs.Common.{◌≡◌, ℕ, List, [], ◌∷◌, map, sym, ◌∙◌, ap, arith}
use Rattle.fm_msg.specs.Event.{TimedMessage}
use Rattle.fm_msg.specs.declared.profile.Profile.{Profile}
use Rattle.fm_smf.proofs.Tracks.{length-file}
use Rattle.fm_read.specs.Files.{Contents, tracks}
use Rattle.fm_read.specs.Decoded.{decoded}
use Rattle.fm_read.specs.Written.{track_entries, time_after, as_message}
use Rattle.fm_read.specs.WrittenFile.{written_contents, IsFileOf}
use Rattle.fm_read.proofs.EndsLemmas.{ok_is}
use Rattle.fm_read.proofs.FileWritten.{file_written, one_track}
use Rattle.fm_read.proofs.Messages.{track_end, track_decoded}

module _ (profile : Profile) (events : List TimedMessage) (end : ℕ) (c : Contents) (is : IsFileOf profile events end c) where
  -- they are what a written file is read as
  pub written_is : c ≡ written_contents profile events end
  written_is =
      ok_is _ _ (sym is.is_read
      ∙ file_written profile events end is.in_range is.division (omega (arith, is.small, length-file profile events end)))

  -- there is one track
  pub written_tracks : tracks c.parts ≡ track_entries profile events end ∷ []
  written_tracks = ap (λ z. tracks z.parts) written_is ∙ one_track profile events end is.in_range

  -- the division is the profile's
  pub written_division : c.division ≡ profile.division
  written_division = ap (λ z. z.division) written_is

  -- the track's messages are the events
  pub written_decoded : decoded 0 (track_entries profile events end) ≡ map as_message events
  written_decoded = track_decoded profile events end is.in_range is.in_time

  -- the track ends at the end
  pub written_end : time_after 0 (track_entries profile events end) ≡ end
  written_end = track_end profile events end is.in_time is.later
