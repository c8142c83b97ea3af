-- The messages and the times that a written track's entries give.
use Rattle.std.proofs.Common.{◌≡◌, ℕ, zero, suc, ◌+◌, ◌-◌, ◌*◌, ◌<◌, ◌≤◌, Bool, true, false, cond, ltb, List, [], ◌∷◌, ◌++◌, map, drop, Option, Some, None, ◌%◌, refl, ◌∙◌, ap, arith, lt-ltb, le-ltb}
use Rattle.std.proofs.lemmas.List.{append-nil}
use Rattle.std.proofs.lemmas.Bool.Decides.{nat_tests}
use Rattle.fm_msg.specs.declared.msg.Msg.{Msg}
use Rattle.fm_msg.specs.declared.msg.Msg.TheVariants.{On, Off, Control, Program, Bend}
use Rattle.fm_msg.specs.Event.{TimedMessage}
use Rattle.fm_msg.specs.Message.{message_bytes, is_in_range}
use Rattle.fm_msg.specs.declared.profile.Profile.{Profile}
use Rattle.fm_smf.specs.Track.{filler_count, remainder, last_time, NeverFalls, TrackState, track_start, status_of, state_with, leaves_out, message_in}
use Rattle.fm_smf.specs.declared.limits.TheConstants.{MAX_QUANTITY}
use Rattle.fm_read.specs.Reading.{Pair}
use Rattle.fm_read.specs.Decoded.{message_from, and_message, decoded}
use Rattle.fm_read.specs.Written.{filler_entries, timed, event_entries, track_entries, AreInRange, messages, whole_of, time_after, as_bytes, as_message}
use Rattle.fm_read.proofs.DecodedLemmas.{shown_is_decoded}

time_append : (now : ℕ) (xs ys : List Pair) → time_after now (xs ++ ys) ≡ time_after (time_after now xs) ys
time_append now [] ys = refl
time_append now (x ∷ xs) ys = time_append (now + x.delta) xs ys

first_then : (b : Bool) (x : ℕ × List ℕ) (p q : List (ℕ × List ℕ)) → cond b (x ∷ p ++ q) (p ++ q) ≡ cond b (x ∷ p) p ++ q
first_then true x p q = refl
first_then false x p q = refl

messages_append : (now : ℕ) (xs ys : List Pair) → messages now (xs ++ ys) ≡ messages now xs ++ messages (time_after now xs) ys
messages_append now [] ys = refl
messages_append now (x ∷ xs) ys =
    ap (λ z. cond (ltb x.status 240) ((now + x.delta, whole_of x.status x.bytes) ∷ z) z) (messages_append (now + x.delta) xs ys)
    ∙ first_then (ltb x.status 240) (now + x.delta, whole_of x.status x.bytes) (messages (now + x.delta) xs) _

fillers_silent : (now k : ℕ) → messages now (filler_entries k) ≡ []
unfolding filler_entries
fillers_silent now zero = refl
fillers_silent now (suc k) = fillers_silent (now + MAX_QUANTITY) k

-- the time behind so many fillers
pub fillers_last : (now k : ℕ) → time_after now (filler_entries k) ≡ now + MAX_QUANTITY * k
unfolding filler_entries
fillers_last now zero = omega arith
fillers_last now (suc k) = omega (arith, fillers_last (now + MAX_QUANTITY) k)

-- behind an event with its fillers
pub timed_last : (now ticks status : ℕ) (event : List ℕ) → time_after now (timed ticks status event) ≡ now + ticks
timed_last now ticks status event =
    time_append now (filler_entries (filler_count ticks)) _ ∙ omega (arith, fillers_last now (filler_count ticks))

timed_message : (now ticks status : ℕ) (event : List ℕ) → status < 240 →
    messages now (timed ticks status event) ≡ (now + ticks, whole_of status event) ∷ []
timed_message now ticks status event small =
    let at : time_after now (filler_entries (filler_count ticks)) + remainder ticks ≡ now + ticks =
    omega (arith, fillers_last now (filler_count ticks)) in
    messages_append now (filler_entries (filler_count ticks)) _
    ∙ rw (fillers_silent now (filler_count ticks), lt-ltb status 240 small) (ap (λ n. (n, whole_of status event) ∷ []) at)

timed_silent : (now ticks status : ℕ) (event : List ℕ) → 240 ≤ status → messages now (timed ticks status event) ≡ []
timed_silent now ticks status event large =
    messages_append now (filler_entries (filler_count ticks)) _
    ∙ rw (fillers_silent now (filler_count ticks), le-ltb status 240 large) refl

pub status_small : (m : Msg) → is_in_range m ≡ true → status_of m < 240
status_small (On channel key velocity) fits = let a : channel < 16 = grind (arith, nat_tests) in omega arith
status_small (Off channel key) fits = let a : channel < 16 = grind (arith, nat_tests) in omega arith
status_small (Control channel controller value) fits = let a : channel < 16 = grind (arith, nat_tests) in omega arith
status_small (Program channel program) fits = let a : channel < 16 = grind (arith, nat_tests) in omega arith
status_small (Bend channel bend) fits = let a : channel < 16 = grind (arith, nat_tests) in omega arith

-- the status byte is there already, or is put in front
pub whole_message : (m : Msg) → whole_of (status_of m) (message_bytes m) ≡ message_bytes m
whole_message (On channel key velocity) = rw (le-ltb (144 + channel) 128 (omega arith)) refl
whole_message (Off channel key) = rw (le-ltb (128 + channel) 128 (omega arith)) refl
whole_message (Control channel controller value) = rw (le-ltb (176 + channel) 128 (omega arith)) refl
whole_message (Program channel program) = rw (le-ltb (192 + channel) 128 (omega arith)) refl
whole_message (Bend channel bend) = rw (le-ltb (224 + channel) 128 (omega arith)) refl

pub whole_data : (m : Msg) → is_in_range m ≡ true → whole_of (status_of m) (drop 1 (message_bytes m)) ≡ message_bytes m
whole_data (On channel key velocity) fits = let a : key < 128 = grind (arith, nat_tests) in rw (lt-ltb key 128 a) refl
whole_data (Off channel key) fits = let a : key < 128 = grind (arith, nat_tests) in rw (lt-ltb key 128 a) refl
whole_data (Control channel controller value) fits = let a : controller < 128 = grind (arith, nat_tests) in
    rw (lt-ltb controller 128 a) refl
whole_data (Program channel program) fits = let a : program < 128 = grind (arith, nat_tests) in rw (lt-ltb program 128 a) refl
whole_data (Bend channel bend) fits = rw (lt-ltb (bend % 128) 128 (omega arith)) refl

pub whole_shown : (b : Bool) (m : Msg) → is_in_range m ≡ true →
    whole_of (status_of m) (drop (cond b 1 0) (message_bytes m)) ≡ message_bytes m
whole_shown true m fits = whole_data m fits
whole_shown false m fits = whole_message m

-- behind events
pub events_last : (s : TrackState) (events : List TimedMessage) → NeverFalls s.last events →
    time_after s.last (event_entries s events) ≡ last_time s.last events
events_last s [] rise = refl
events_last s (e ∷ events) rise =
    let at : s.last + (e.time - s.last) ≡ e.time = omega (arith, rise.0) in
    let next : List Pair = event_entries (state_with s e) events in
    time_append s.last (timed (e.time - s.last) (status_of e.msg) (message_in s (e.time - s.last) e.msg)) next
    ∙ ap (λ n. time_after n next) (timed_last s.last (e.time - s.last) _ _ ∙ at)
    ∙ events_last (state_with s e) events rise.1

events_messages : (s : TrackState) (events : List TimedMessage) → AreInRange events → NeverFalls s.last events →
    messages s.last (event_entries s events) ≡ map as_bytes events
events_messages s [] fits rise = refl
events_messages s (e ∷ events) fits rise =
    let at : s.last + (e.time - s.last) ≡ e.time = omega (arith, rise.0) in
    let bytes : List ℕ = message_in s (e.time - s.last) e.msg in
    let next : List Pair = event_entries (state_with s e) events in
    messages_append s.last (timed (e.time - s.last) (status_of e.msg) bytes) next
    ∙ ap (λ z. z ++ messages (time_after s.last (timed (e.time - s.last) (status_of e.msg) bytes)) next)
    (timed_message s.last (e.time - s.last) (status_of e.msg) bytes (status_small e.msg fits.0))
    ∙ ap (λ n. (s.last + (e.time - s.last), whole_of (status_of e.msg) bytes) ∷ messages n next)
    (timed_last s.last (e.time - s.last) _ _ ∙ at)
    ∙ ap (λ n. (n, whole_of (status_of e.msg) bytes) ∷ messages e.time next) at
    ∙ ap (λ z. (e.time, z) ∷ messages e.time next) (whole_shown _ e.msg fits.0)
    ∙ ap (λ z. as_bytes e ∷ z) (events_messages (state_with s e) events fits.1 rise.1)

-- the list comes back, the fillers merged
pub track_messages : (profile : Profile) (events : List TimedMessage) (end : ℕ) → AreInRange events → NeverFalls 0 events →
    messages 0 (track_entries profile events end) ≡ map as_bytes events
track_messages profile events end fits rise =
    messages_append 0 (event_entries (track_start profile) events) _
    ∙ ap (λ z. messages 0 (event_entries (track_start profile) events) ++ z) (timed_silent _ (end - last_time 0 events) 255 _ (omega arith))
    ∙ append-nil _ ∙ events_messages (track_start profile) events fits rise

-- and so does the end
pub track_end : (profile : Profile) (events : List TimedMessage) (end : ℕ) → NeverFalls 0 events → last_time 0 events ≤ end →
    time_after 0 (track_entries profile events end) ≡ end
track_end profile events end rise later =
    time_append 0 (event_entries (track_start profile) events) _ ∙ timed_last _ (end - last_time 0 events) 255 _
    ∙ omega (arith, events_last (track_start profile) events rise)

-- ---- the same as messages

decoded_append : (now : ℕ) (xs ys : List Pair) → decoded now (xs ++ ys) ≡ decoded now xs ++ decoded (time_after now xs) ys
decoded_append now [] ys = refl
decoded_append now (x ∷ xs) ys =
    ap (and_message (now + x.delta) (message_from x.status x.bytes)) (decoded_append (now + x.delta) xs ys)
    ∙ and_first (now + x.delta) (message_from x.status x.bytes) (decoded (now + x.delta) xs) _
  where
    and_first : (n : ℕ) (o : Option Msg) (p q : List (ℕ × Msg)) → and_message n o (p ++ q) ≡ and_message n o p ++ q
    and_first n None p q = refl
    and_first n (Some m) p q = refl

fillers_decoded : (now k : ℕ) → decoded now (filler_entries k) ≡ []
unfolding filler_entries message_from
fillers_decoded now zero = refl
fillers_decoded now (suc k) = fillers_decoded (now + MAX_QUANTITY) k

timed_decoded : (now ticks status : ℕ) (event : List ℕ) →
    decoded now (timed ticks status event) ≡ and_message (now + ticks) (message_from status event) []
timed_decoded now ticks status event =
    let at : time_after now (filler_entries (filler_count ticks)) + remainder ticks ≡ now + ticks =
    omega (arith, fillers_last now (filler_count ticks)) in
    decoded_append now (filler_entries (filler_count ticks)) _
    ∙ rw (fillers_decoded now (filler_count ticks)) (ap (λ n. and_message n (message_from status event) []) at)

events_decoded : (s : TrackState) (events : List TimedMessage) → AreInRange events → NeverFalls s.last events →
    decoded s.last (event_entries s events) ≡ map as_message events
events_decoded s [] fits rise = refl
events_decoded s (e ∷ events) fits rise =
    let at : s.last + (e.time - s.last) ≡ e.time = omega (arith, rise.0) in
    let bytes : List ℕ = message_in s (e.time - s.last) e.msg in
    let next : List Pair = event_entries (state_with s e) events in
    decoded_append s.last (timed (e.time - s.last) (status_of e.msg) bytes) next
    ∙ ap (λ z. z ++ decoded (time_after s.last (timed (e.time - s.last) (status_of e.msg) bytes)) next)
    (timed_decoded s.last (e.time - s.last) (status_of e.msg) bytes)
    ∙ ap (λ o. and_message (s.last + (e.time - s.last)) o [] ++ decoded
    (time_after s.last (timed (e.time - s.last) (status_of e.msg) bytes)) next)
    (shown_is_decoded (leaves_out s.running s.status (e.time - s.last) e.msg) e.msg fits.0)
    ∙ ap (λ n. (s.last + (e.time - s.last), e.msg) ∷ decoded n next) (timed_last s.last (e.time - s.last) _ _ ∙ at)
    ∙ ap (λ n. (n, e.msg) ∷ decoded e.time next) at
    ∙ ap (λ z. as_message e ∷ z) (events_decoded (state_with s e) events fits.1 rise.1)

pub track_decoded : (profile : Profile) (events : List TimedMessage) (end : ℕ) → AreInRange events → NeverFalls 0 events →
    decoded 0 (track_entries profile events end) ≡ map as_message events
unfolding message_from
track_decoded profile events end fits rise =
    decoded_append 0 (event_entries (track_start profile) events) _
    ∙ ap (λ z. decoded 0 (event_entries (track_start profile) events) ++ z) (timed_decoded _ (end - last_time 0 events) 255 _)
    ∙ append-nil _ ∙ events_decoded (track_start profile) events fits rise
