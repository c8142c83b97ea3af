-- The files of the tests, as what was written.
use Rattle.std.proofs.Common.{◌≡◌, ℕ, List, [], ◌∷◌, Ok, true, refl, arith}
use Rattle.fm_msg.specs.declared.msg.Msg.{Msg}
use Rattle.fm_msg.specs.declared.msg.Msg.TheVariants.{On, Off, Program}
use Rattle.fm_msg.specs.declared.profile.Profile.{Profile}
use Rattle.fm_msg.specs.Event.{TimedMessage}
use Rattle.fm_smf.specs.VariableLength.{vlq}
use Rattle.fm_smf.specs.Track.{fillers, delta, event_bytes, end_bytes, track}
use Rattle.fm_smf.specs.File.{first_profile, with_length, file}
use Rattle.fm_read.specs.Files.{Contents, contents}
use Rattle.fm_read.specs.WrittenFile.{IsWritten}

abbrev at : ℕ → Msg → TimedMessage
at tick msg = record { time = tick; process = 0; index = 0; msg = msg }

abbrev two_events : List TimedMessage
two_events = at 0 (On 0 60 64) ∷ at 432 (Off 0 60) ∷ at 480 (On 1 64 64) ∷ at 912 (Off 1 64) ∷ []

abbrev two_file : List ℕ
two_file =
    77 ∷ 84 ∷ 104 ∷ 100 ∷ 0 ∷ 0 ∷ 0 ∷ 6 ∷ 0 ∷ 0 ∷ 0 ∷ 1 ∷ 1 ∷ 224 ∷ 77 ∷ 84 ∷ 114 ∷ 107 ∷ 0 ∷ 0 ∷ 0 ∷ 29 ∷ 0
    ∷ 255 ∷ 81 ∷ 3 ∷ 7 ∷ 161 ∷ 32 ∷ 0 ∷ 144 ∷ 60 ∷ 64 ∷ 131 ∷ 48 ∷ 128 ∷ 60 ∷ 64 ∷ 48 ∷ 145 ∷ 64 ∷ 64 ∷ 131
    ∷ 48 ∷ 129 ∷ 64 ∷ 64 ∷ 48 ∷ 255 ∷ 47 ∷ 0 ∷ []

-- a quarter note on each of two channels
pub two_written : (c : Contents) → contents two_file ≡ Ok c → IsWritten c
unfolding file with_length track event_bytes end_bytes delta fillers vlq
two_written c is = record {
  profile = first_profile;
  events = two_events;
  end = 960;
  is = record {
    is_read = is;
    small = omega arith;
    division = omega arith;
    in_range = (refl, (refl, (refl, (refl, tt))));
    in_time = (omega arith, (omega arith, (omega arith, (omega arith, tt))));
    later = omega arith;
  };
}

abbrev running_events : List TimedMessage
running_events = at 0 (On 2 60 64) ∷ at 5 (On 2 62 64) ∷ at 7 (Program 1 9) ∷ []

abbrev running : Profile
running = record { running = true; division = 960 }

abbrev running_file : List ℕ
running_file =
    77 ∷ 84 ∷ 104 ∷ 100 ∷ 0 ∷ 0 ∷ 0 ∷ 6 ∷ 0 ∷ 0 ∷ 0 ∷ 1 ∷ 3 ∷ 192 ∷ 77 ∷ 84 ∷ 114 ∷ 107 ∷ 0 ∷ 0 ∷ 0 ∷ 21 ∷ 0
    ∷ 255 ∷ 81 ∷ 3 ∷ 7 ∷ 161 ∷ 32 ∷ 0 ∷ 146 ∷ 60 ∷ 64 ∷ 5 ∷ 62 ∷ 64 ∷ 2 ∷ 193 ∷ 9 ∷ 3 ∷ 255 ∷ 47 ∷ 0 ∷ []

-- running status
pub running_written : (c : Contents) → contents running_file ≡ Ok c → IsWritten c
unfolding file with_length track event_bytes end_bytes delta fillers vlq
running_written c is = record {
  profile = running;
  events = running_events;
  end = 10;
  is = record {
    is_read = is;
    small = omega arith;
    division = omega arith;
    in_range = (refl, (refl, (refl, tt)));
    in_time = (omega arith, (omega arith, (omega arith, tt)));
    later = omega arith;
  };
}
