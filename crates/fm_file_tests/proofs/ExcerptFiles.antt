-- The files of the tests, as what was written.
use Rattle.std.proofs.Common.{◌≡◌, ℕ, List, [], ◌∷◌, Ok, true, refl, arith}
use Rattle.fm_msg.specs.declared.msg.Msg.{Msg}
use Rattle.fm_msg.specs.declared.msg.Msg.TheVariants.{On, Off, Program, Control}
use Rattle.fm_msg.specs.declared.profile.Profile.{Profile}
use Rattle.fm_msg.specs.Event.{TimedMessage}
use Rattle.fm_smf.specs.VariableLength.{vlq}
use Rattle.fm_smf.specs.Track.{fillers, delta, event_bytes, end_bytes, track}
use Rattle.fm_smf.specs.File.{first_profile, with_length, file}
use Rattle.fm_read.specs.Files.{Contents, contents}
use Rattle.fm_excerpt.specs.Written.{HasExcerpts}

abbrev at : ℕ → Msg → TimedMessage
at tick msg = record { time = tick; process = 0; index = 0; msg = msg }

abbrev two_events : List TimedMessage
two_events = at 0 (Program 0 5) ∷ at 0 (On 0 60 64) ∷ at 432 (Off 0 60) ∷ at 480 (On 0 62 64) ∷ at 912 (Off 0 62) ∷ []

abbrev two_file : List ℕ
two_file =
    77 ∷ 84 ∷ 104 ∷ 100 ∷ 0 ∷ 0 ∷ 0 ∷ 6 ∷ 0 ∷ 0 ∷ 0 ∷ 1 ∷ 1 ∷ 224 ∷ 77 ∷ 84 ∷ 114 ∷ 107 ∷ 0 ∷ 0 ∷ 0 ∷ 32 ∷ 0
    ∷ 255 ∷ 81 ∷ 3 ∷ 7 ∷ 161 ∷ 32 ∷ 0 ∷ 192 ∷ 5 ∷ 0 ∷ 144 ∷ 60 ∷ 64 ∷ 131 ∷ 48 ∷ 128 ∷ 60 ∷ 64 ∷ 48 ∷ 144 ∷ 62
    ∷ 64 ∷ 131 ∷ 48 ∷ 128 ∷ 62 ∷ 64 ∷ 48 ∷ 255 ∷ 47 ∷ 0 ∷ []

-- a program change and two quarter notes
pub two_written : (c : Contents) → contents two_file ≡ Ok c → HasExcerpts first_profile c
unfolding file with_length track event_bytes end_bytes delta fillers vlq
two_written c is = record {
  events = two_events;
  end = 960;
  is = record {
    is_read = is;
    small = omega arith;
    division = omega arith;
    in_range = (refl, (refl, (refl, (refl, (refl, tt)))));
    in_time = (omega arith, (omega arith, (omega arith, (omega arith, (omega arith, tt)))));
    later = omega arith;
  };
  in_time = omega arith;
}

abbrev running : Profile
running = record { running = true; division = 96 }

abbrev running_events : List TimedMessage
running_events =
    at 0 (Control 0 7 3) ∷ at 5 (Control 0 7 4) ∷ at 9 (Control 0 10 1) ∷ at 10 (On 0 60 64) ∷ at 12 (On 0 64 64) ∷ []

abbrev running_file : List ℕ
running_file =
    77 ∷ 84 ∷ 104 ∷ 100 ∷ 0 ∷ 0 ∷ 0 ∷ 6 ∷ 0 ∷ 0 ∷ 0 ∷ 1 ∷ 0 ∷ 96 ∷ 77 ∷ 84 ∷ 114 ∷ 107 ∷ 0 ∷ 0 ∷ 0 ∷ 28 ∷ 0
    ∷ 255 ∷ 81 ∷ 3 ∷ 7 ∷ 161 ∷ 32 ∷ 0 ∷ 176 ∷ 7 ∷ 3 ∷ 5 ∷ 7 ∷ 4 ∷ 4 ∷ 10 ∷ 1 ∷ 1 ∷ 144 ∷ 60 ∷ 64 ∷ 2 ∷ 64 ∷ 64
    ∷ 8 ∷ 255 ∷ 47 ∷ 0 ∷ []

-- controllers and notes with running status
pub running_written : (c : Contents) → contents running_file ≡ Ok c → HasExcerpts running c
unfolding file with_length track event_bytes end_bytes delta fillers vlq
running_written c is = record {
  events = running_events;
  end = 20;
  is = record {
    is_read = is;
    small = omega arith;
    division = omega arith;
    in_range = (refl, (refl, (refl, (refl, (refl, tt)))));
    in_time = (omega arith, (omega arith, (omega arith, (omega arith, (omega arith, tt)))));
    later = omega arith;
  };
  in_time = omega arith;
}
