-- A track with running status beside the plain one.
use Rattle.std.proofs.Common.{◌≡◌, ℕ, ◌-◌, ◌≤◌, List, [], ◌∷◌, ◌++◌, length, drop, Bool, false, Option, Some, None, refl, ap, ap₂, arith, length-append}
use Rattle.std.specs.Prelude.{if◌then◌else◌}
use Rattle.std.proofs.lemmas.List.{length-drop}
use Rattle.fm_msg.specs.declared.msg.Msg.{Msg}
use Rattle.fm_msg.specs.declared.profile.Profile.{Profile}
use Rattle.fm_msg.specs.Event.{TimedMessage}
use Rattle.fm_msg.specs.Message.{message_bytes}
use Rattle.fm_smf.specs.Track.{delta, TrackState, track_start, state_with, leaves_out, event_bytes, events_bytes, plain_bytes, end_bytes, last_time, tempo, track, plain_track}

-- without running status no status byte is left out
none_left_out : (running : Bool) (before : Option ℕ) (ticks : ℕ) (m : Msg) → running ≡ false → leaves_out running before ticks m ≡ false
none_left_out running None ticks m off = refl
none_left_out running (Some status) ticks m off = rw off refl

-- an event without running status
event-plain : (s : TrackState) (e : TimedMessage) → s.running ≡ false →
    event_bytes s e ≡ delta (e.time - s.last) ++ message_bytes e.msg
unfolding event_bytes
event-plain s e off =
    ap (λ (b : Bool). delta (e.time - s.last) ++ drop (if b then 1 else 0) (message_bytes e.msg))
    (none_left_out s.running s.status (e.time - s.last) e.msg off)

-- events without running status
events-plain : (s : TrackState) (es : List TimedMessage) → s.running ≡ false → events_bytes s es ≡ plain_bytes s.last es
events-plain s [] off = refl
events-plain s (e ∷ es) off =
    ap₂ (λ (a b : List ℕ). a ++ b) (event-plain s e off) (events-plain (state_with s e) es off)

-- a track without running status
pub track-plain : (profile : Profile) (es : List TimedMessage) (end : ℕ) → profile.running ≡ false →
    track profile es end ≡ plain_track es end
unfolding track plain_track
track-plain profile es end off =
    ap (λ (bytes : List ℕ). tempo ++ bytes ++ end_bytes (last_time 0 es) end) (events-plain (track_start profile) es off)

-- an event is never longer than with its status byte
event-short : (s : TrackState) (e : TimedMessage) → length (event_bytes s e) ≤ length (delta (e.time - s.last) ++ message_bytes e.msg)
unfolding event_bytes
event-short s e =
    shorter (if leaves_out s.running s.status (e.time - s.last) e.msg then 1 else 0) (delta (e.time - s.last)) (message_bytes e.msg)
  where
    shorter : (n : ℕ) (xs ys : List ℕ) → length (xs ++ drop n ys) ≤ length (xs ++ ys)
    shorter n xs ys = omega (arith, length-append xs (drop n ys), length-append xs ys, length-drop n ys)

-- nor is a list of events
events-short : (s : TrackState) (es : List TimedMessage) → length (events_bytes s es) ≤ length (plain_bytes s.last es)
events-short s [] = omega arith
events-short s (e ∷ es) =
    omega (
      arith,
      length-append (event_bytes s e) (events_bytes (state_with s e) es),
      length-append (delta (e.time - s.last) ++ message_bytes e.msg) (plain_bytes e.time es),
      event-short s e,
      events-short (state_with s e) es,
    )

-- nor is a track
pub track-short : (profile : Profile) (es : List TimedMessage) (end : ℕ) → length (track profile es end) ≤ length (plain_track es end)
unfolding track plain_track
track-short profile es end =
    omega (
      arith,
      length-append (tempo ++ events_bytes (track_start profile) es) (end_bytes (last_time 0 es) end),
      length-append tempo (events_bytes (track_start profile) es),
      length-append (tempo ++ plain_bytes 0 es) (end_bytes (last_time 0 es) end),
      length-append tempo (plain_bytes 0 es),
      events-short (track_start profile) es,
    )
