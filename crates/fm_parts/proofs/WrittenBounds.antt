-- How many events a file of so many bytes has at most, and how late its end is.
use Rattle.std.proofs.Common.{◌≡◌, ℕ, suc, ◌+◌, ◌-◌, ◌*◌, ◌^◌, ◌≤◌, Bool, true, false, cond, List, [], ◌∷◌, length, map, drop, refl, ap, arith, length-append}
use Rattle.fm_msg.specs.declared.msg.Msg.{Msg}
use Rattle.fm_msg.specs.declared.msg.Msg.TheVariants.{On, Off, Control, Program, Bend}
use Rattle.fm_msg.specs.declared.profile.Profile.{Profile}
use Rattle.fm_msg.specs.Event.{TimedMessage}
use Rattle.fm_msg.specs.Message.{message_bytes}
use Rattle.fm_smf.specs.VariableLength.{vlq}
use Rattle.fm_smf.specs.Track.{filler_count, remainder, TrackState, track_start, leaves_out, message_in, event_bytes, events_bytes, end_bytes, state_with, last_time, NeverFalls}
use Rattle.fm_smf.specs.File.{file}
use Rattle.fm_smf.specs.declared.limits.TheConstants.{MAX_QUANTITY}
use Rattle.fm_smf.proofs.Fillers.{length-delta}
use Rattle.fm_smf.proofs.Tracks.{length-file, length-track}
use Rattle.fm_read.specs.Written.{as_message}
use Rattle.fm_read.specs.declared.limits.TheConstants.{MAX_FILE}

some_left : (b : Bool) (m : Msg) → 1 ≤ length (drop (cond b 1 0) (message_bytes m))
some_left true (On channel key velocity) = omega arith
some_left true (Off channel key) = omega arith
some_left true (Control channel controller value) = omega arith
some_left true (Program channel program) = omega arith
some_left true (Bend channel bend) = omega arith
some_left false (On channel key velocity) = omega arith
some_left false (Off channel key) = omega arith
some_left false (Control channel controller value) = omega arith
some_left false (Program channel program) = omega arith
some_left false (Bend channel bend) = omega arith

-- an event has a byte, and seven for each filler
event_long : (s : TrackState) (e : TimedMessage) → 7 * filler_count (e.time - s.last) + 1 ≤ length (event_bytes s e)
unfolding event_bytes
event_long s e =
    omega (
      arith,
      length-delta (e.time - s.last) (message_in s (e.time - s.last) e.msg),
      length-append (vlq (remainder (e.time - s.last))) (message_in s (e.time - s.last) e.msg),
      some_left (leaves_out s.running s.status (e.time - s.last) e.msg) e.msg,
    )

-- there are no more events than bytes, and no greatest quantity of ticks more
events_long : (s : TrackState) (events : List TimedMessage) → NeverFalls s.last events →
    (length events ≤ length (events_bytes s events)) × (last_time s.last events ≤ s.last + MAX_QUANTITY * length (events_bytes s events))
events_long s [] rise = (omega arith, omega arith)
events_long s (e ∷ es) rise =
    let more = events_long (state_with s e) es rise.1 in
    let both : length (events_bytes s (e ∷ es)) ≡ length (event_bytes s e) + length (events_bytes (state_with s e) es) =
    length-append (event_bytes s e) (events_bytes (state_with s e) es) in
    let count : e.time - s.last ≤ MAX_QUANTITY * length (event_bytes s e) = omega (arith, event_long s e) in
    (omega (arith, event_long s e, more.0), omega (arith, rise.0, more.1))

end_long : (last end : ℕ) → end ≤ last + MAX_QUANTITY * length (end_bytes last end)
unfolding end_bytes
end_long last end =
    omega (
      arith,
      length-delta (end - last) (255 ∷ 47 ∷ 0 ∷ []),
      length-append (vlq (remainder (end - last))) (255 ∷ 47 ∷ 0 ∷ []),
    )

-- what a written file has
pub record Bounds (events : List TimedMessage) (end : ℕ) : Type 0 where
  pub few : length (map as_message events) ≤ 2 ^ 25
  pub early : end ≤ 2 ^ 57

pub bounds : (profile : Profile) (events : List TimedMessage) (end : ℕ) → NeverFalls 0 events →
    length (file profile events end) ≤ MAX_FILE →
    Bounds events end
bounds profile events end rise small =
    let some = events_long (track_start profile) events rise in
    record {
      few = omega (arith, some.0, small, length-file profile events end, length-track profile events end, count events);
      early = omega (
        arith,
        some.1,
        small,
        length-file profile events end,
        length-track profile events end,
        end_long (last_time 0 events) end,
      );
    }
  where
    count : (es : List TimedMessage) → length (map as_message es) ≡ length es
    count [] = refl
    count (e ∷ es) = ap (λ n. suc n) (count es)
