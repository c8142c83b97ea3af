-- The whole range of a file.
use Rattle.std.proofs.Common.{◌≡◌, ℕ, ◌-◌, true, false, ◌&&◌, cond, nat_lt, nat_le, min, List, [], ◌∷◌, ◌++◌, length, map, replicate, None, refl, ◌∙◌, ap, arith}
use Rattle.std.proofs.lemmas.List.{append-nil}
use Rattle.std.proofs.lemmas.Bool.Decides.{nat_tests}
use Rattle.fm_msg.specs.declared.msg.Msg.{Msg}
use Rattle.fm_msg.specs.declared.msg.Msg.TheVariants.{Off}
use Rattle.fm_msg.specs.declared.msg.TheConstants.{CHANNELS, DATA_VALUES}
use Rattle.fm_msg.specs.declared.profile.Profile.{Profile}
use Rattle.fm_msg.specs.Event.{TimedMessage}
use Rattle.fm_smf.specs.File.{file, with_length}
use Rattle.fm_smf.specs.Track.{TrackState, events_bytes, state_with, event_bytes, end_bytes, last_time, tempo, track, track_start}
use Rattle.fm_read.specs.Written.{as_message}
use Rattle.fm_excerpt.specs.Excerpt.{sounding, keeps, channel_state, state, before, window, window_of, closing, message_at, at_tick, excerpt, excerpt_end, excerpt_events, as_event}
use Rattle.fm_excerpt.specs.Notes.{AreBegun, AreEnded}
use Rattle.fm_excerpt.proofs.Below.{below_empty}
use Rattle.fm_excerpt.proofs.InsideLemmas.{window_kept, window_none}

before_zero : (list : List (ℕ × Msg)) → before 0 list ≡ []
before_zero [] = refl
before_zero (x ∷ xs) =
    ap (λ b. cond b (x.1 ∷ []) [] ++ before 0 xs) {x = nat_lt x.0 0} {y = false} (grind (arith, nat_tests)) ∙ before_zero xs

state_nothing : state [] ≡ []
unfolding state channel_state
state_nothing =
    below_empty (λ c. channel_state c []) CHANNELS (λ c lt. ap (λ z. z ++ []) (below_empty (λ k. []) DATA_VALUES (λ k lk. refl)))

-- all that has its note is kept
window_whole : (kept : List Msg) (list : List (ℕ × Msg)) → AreBegun kept list → window 0 None 0 kept list ≡ list
window_whole kept [] begun = window_none 0 None 0 kept
window_whole kept (x ∷ xs) begun =
    let inside : nat_le 0 x.0 ≡ true = grind (arith, nat_tests) in
    window_kept 0 None 0 kept x.0 x.1 xs (ap (λ a. a && keeps kept x.1) inside ∙ begun.0)
    ∙ ap (λ n. (n, x.1) ∷ window 0 None 0 (kept ++ x.1 ∷ []) xs) {x = x.0 - 0} {y = x.0} (omega arith)
    ∙ ap (λ z. (x.0, x.1) ∷ z) (window_whole (kept ++ x.1 ∷ []) xs begun.1)

-- and nothing is left
closing_nothing : (list : List (ℕ × Msg)) → AreEnded list → closing (map message_at list) ≡ []
unfolding closing
closing_nothing list ended =
    below_empty _ CHANNELS (λ c there. below_empty _ DATA_VALUES (λ k low.
    ap (λ n. replicate n (Off c k)) {x = sounding c k (map message_at list)} {y = 0} (omega (arith, ended c k there low))))

pub whole_list : (list : List (ℕ × Msg)) (end : ℕ) → AreBegun [] list → AreEnded list → excerpt 0 None list end ≡ list
unfolding excerpt
whole_list list end begun ended =
    ap (λ z. at_tick 0 z ++ window_of 0 None list end
    ++ at_tick (excerpt_end 0 None end) (closing (map message_at (window_of 0 None list end)))) (ap state (before_zero list)
    ∙ state_nothing)
    ∙ ap (λ z. z ++ at_tick (excerpt_end 0 None end) (closing (map message_at z))) same
    ∙ ap (λ z. list ++ at_tick (excerpt_end 0 None end) z) (closing_nothing list ended)
    ∙ append-nil list
  where
    same : window_of 0 None list end ≡ list
    same = ap (λ n. window 0 None n [] list) {x = min 0 end} {y = 0} (omega arith) ∙ window_whole [] list begun

pub whole_end : (end : ℕ) → excerpt_end 0 None end ≡ end
whole_end end = omega arith

-- a track keeps no more of events than their ticks and messages
same_bytes : (s : TrackState) (events : List TimedMessage) → events_bytes s (map as_event (map as_message events)) ≡ events_bytes s events
unfolding event_bytes
same_bytes s [] = refl
same_bytes s (e ∷ es) = ap (λ z. event_bytes s e ++ z) (same_bytes (state_with s e) es)

same_last : (last : ℕ) (events : List TimedMessage) → last_time last (map as_event (map as_message events)) ≡ last_time last events
same_last last [] = refl
same_last last (e ∷ es) = same_last e.time es

same_track : (profile : Profile) (events : List TimedMessage) (end : ℕ) →
    track profile (map as_event (map as_message events)) end ≡ track profile events end
unfolding track
same_track profile events end =
    ap (λ z. tempo ++ z ++ end_bytes (last_time 0 (map as_event (map as_message events))) end) (same_bytes (track_start profile) events)
    ∙ ap (λ n. tempo ++ events_bytes (track_start profile) events ++ end_bytes n end) (same_last 0 events)

same_file : (profile : Profile) (events : List TimedMessage) (end : ℕ) →
    file profile (map as_event (map as_message events)) end ≡ file profile events end
unfolding file
same_file profile events end = ap (λ z. with_length profile (length z) z) (same_track profile events end)

-- the file of the whole range is the file
pub whole_file : (profile : Profile) (events : List TimedMessage) (end : ℕ) → AreBegun [] (map as_message events) →
    AreEnded (map as_message events) →
    file profile (excerpt_events 0 None events end) (excerpt_end 0 None end) ≡ file profile events end
whole_file profile events end begun ended =
    ap (λ z. file profile (map as_event z) (excerpt_end 0 None end)) (whole_list (map as_message events) end begun ended)
    ∙ ap (file profile (map as_event (map as_message events))) (whole_end end) ∙ same_file profile events end
