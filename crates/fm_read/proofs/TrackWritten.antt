-- A written track is read back, event by event.
use Rattle.std.proofs.Common.{◌≡◌, ℕ, zero, suc, ◌-◌, ◌<◌, ◌≤◌, Bool, true, false, ◌&&◌, cond, List, [], ◌∷◌, ◌++◌, length, drop, nat_eq, ◌%◌, Option, Some, None, Ok, refl, sym, ◌∙◌, ap, arith, lt-ltb, append_assoc}
use Rattle.std.proofs.lemmas.Bool.Decides.{nat_tests}
use Rattle.fm_msg.specs.declared.msg.Msg.{Msg}
use Rattle.fm_msg.specs.declared.msg.Msg.TheVariants.{On, Off, Control, Program, Bend}
use Rattle.fm_msg.specs.Event.{TimedMessage}
use Rattle.fm_msg.specs.Message.{message_bytes, is_in_range}
use Rattle.fm_smf.specs.VariableLength.{vlq}
use Rattle.fm_msg.specs.declared.profile.Profile.{Profile}
use Rattle.fm_smf.specs.Track.{filler, fillers, filler_count, remainder, delta, tempo, TrackState, track_start, status_of, state_with, leaves_out, event_bytes, end_bytes, events_bytes, last_time, track}
use Rattle.fm_smf.specs.declared.limits.TheConstants.{MAX_QUANTITY}
use Rattle.fm_smf.proofs.Fillers.{fillers-first}
use Rattle.fm_read.specs.Reading.{Pair, read_event, read_entry, in_force}
use Rattle.fm_read.specs.Tracks.{ends_track, entries}
use Rattle.fm_read.specs.Written.{filler_entry, filler_entries, timed, event_entries, tempo_entry, track_entries, AreInRange}
use Rattle.fm_read.proofs.EndsLemmas.{ends_shorter, entry_ends}
use Rattle.fm_read.proofs.TrackLemmas.{entries_step}
use Rattle.fm_read.proofs.WrittenLemmas.{meta_written, message_written, entry_written, data_is_read}
use Rattle.fm_read.proofs.Messages.{status_small}

-- the bytes are read as these entries, whatever status is in force before them
abbrev pub ReadsAs : List ℕ → List Pair → Type 0
ReadsAs bytes es = (running : Option ℕ) → entries running bytes ≡ Ok es

-- an entry in front that isn't the end
pub one_more : (running : Option ℕ) (bytes rest : List ℕ) (e : Pair) (es : List Pair) → read_entry running bytes ≡ Ok (e, rest) →
    ends_track e.bytes ≡ false → entries (in_force e.status) rest ≡ Ok es → entries running bytes ≡ Ok (e ∷ es)
one_more running bytes rest e es here goes_on more =
    let some : 0 < length bytes = omega (arith, ends_shorter _ _ (entry_ends running bytes (e, rest) here).ends) in
    entries_step running bytes (e, rest) here some ∙ rw (goes_on, more) refl

-- the end
pub last_one : (running : Option ℕ) (bytes : List ℕ) (e : Pair) → read_entry running bytes ≡ Ok (e, []) →
    ends_track e.bytes ≡ true → entries running bytes ≡ Ok (e ∷ [])
last_one running bytes e here ends =
    let some : 0 < length bytes = omega (arith, ends_shorter _ _ (entry_ends running bytes (e, []) here).ends) in
    entries_step running bytes (e, []) here some ∙ rw ends refl

filler_is_read : (running : Option ℕ) (rest : List ℕ) → read_entry running (filler ++ rest) ≡ Ok (filler_entry, rest)
unfolding vlq
filler_is_read running rest =
    entry_written running MAX_QUANTITY 255 (255 ∷ 1 ∷ 0 ∷ []) rest (omega arith)
    (meta_written running 1 0 [] rest (omega arith) (omega arith) refl)

tempo_is_read : (running : Option ℕ) (rest : List ℕ) → read_entry running (tempo ++ rest) ≡ Ok (tempo_entry, rest)
unfolding vlq
tempo_is_read running rest =
    entry_written running 0 255 (255 ∷ 81 ∷ 3 ∷ 7 ∷ 161 ∷ 32 ∷ []) rest (omega arith)
    (meta_written running 81 3 (7 ∷ 161 ∷ 32 ∷ []) rest (omega arith) (omega arith) refl)

filler_written : (rest : List ℕ) (es : List Pair) → ReadsAs rest es → ReadsAs (filler ++ rest) (filler_entry ∷ es)
filler_written rest es more running =
    one_more running (filler ++ rest) rest filler_entry es (filler_is_read running rest) refl (more None)

pub fillers_written : (k : ℕ) (rest : List ℕ) (es : List Pair) → ReadsAs rest es → ReadsAs (fillers k ++ rest) (filler_entries k ++ es)
unfolding fillers filler_entries
fillers_written zero rest es more running = more running
fillers_written (suc k) rest es more running =
    ap (λ z. entries running (z ++ rest)) (sym (fillers-first k))
    ∙ ap (entries running) (append_assoc filler (fillers k) rest)
    ∙ filler_written (fillers k ++ rest) (filler_entries k ++ es) (fillers_written k rest es more) running

remainder_small : (n : ℕ) → remainder n ≤ MAX_QUANTITY
remainder_small n = omega arith

-- a delta time and an event
pub timed_written : (ticks status : ℕ) (event rest : List ℕ) (es : List Pair) → ends_track event ≡ false →
    ((running : Option ℕ) → read_event running (event ++ rest) ≡ Ok (status, rest)) → ReadsAs rest es →
    ReadsAs (delta ticks ++ (event ++ rest)) (timed ticks status event ++ es)
unfolding delta
timed_written ticks status event rest es goes_on here more running =
    let one : ReadsAs (vlq (remainder ticks) ++ (event ++ rest))
    (record { delta = remainder ticks; status = status; lead = vlq (remainder ticks); bytes = event } ∷ es) =
    λ r. one_more r _ rest _ es (entry_written r (remainder ticks) status event rest (remainder_small ticks) (here r)) goes_on (more _) in
    ap (entries running) (append_assoc (fillers (filler_count ticks)) (vlq (remainder ticks)) (event ++ rest))
    ∙ fillers_written (filler_count ticks) _ _ one running
    ∙ ap Ok (sym (append_assoc (filler_entries (filler_count ticks)) _ es))

-- End of Track
pub end_written : (last end : ℕ) → ReadsAs (end_bytes last end) (timed (end - last) 255 (255 ∷ 47 ∷ 0 ∷ []))
unfolding end_bytes delta
end_written last end running =
    let ticks : ℕ = end - last in
    let one : ReadsAs (vlq (remainder ticks) ++ 255 ∷ 47 ∷ 0 ∷ [])
    (record { delta = remainder ticks; status = 255; lead = vlq (remainder ticks); bytes = 255 ∷ 47 ∷ 0 ∷ [] } ∷ []) =
    λ r. last_one r _ _ (entry_written r (remainder ticks) 255 (255 ∷ 47 ∷ 0 ∷ []) [] (remainder_small ticks)
    (meta_written r 47 0 [] [] (omega arith) (omega arith) refl)) refl in
    ap (entries running) (append_assoc (fillers (filler_count ticks)) (vlq (remainder ticks)) (255 ∷ 47 ∷ 0 ∷ []))
    ∙ fillers_written (filler_count ticks) _ _ one running

in_force_is : (m : Msg) → is_in_range m ≡ true → in_force (status_of m) ≡ Some (status_of m)
in_force_is m fits = rw (lt-ltb (status_of m) 240 (status_small m fits)) refl

-- a message is no End of Track
message_goes_on : (m : Msg) → is_in_range m ≡ true → ends_track (message_bytes m) ≡ false
message_goes_on (On channel key velocity) fits =
    let a : channel < 16 = grind (arith, nat_tests) in grind (arith, nat_tests)
message_goes_on (Off channel key) fits =
    let a : channel < 16 = grind (arith, nat_tests) in grind (arith, nat_tests)
message_goes_on (Control channel controller value) fits =
    let a : channel < 16 = grind (arith, nat_tests) in grind (arith, nat_tests)
message_goes_on (Program channel program) fits =
    let a : channel < 16 = grind (arith, nat_tests) in grind (arith, nat_tests)
message_goes_on (Bend channel bend) fits =
    let a : channel < 16 = grind (arith, nat_tests) in grind (arith, nat_tests)

-- nor is what stands of it under running status
data_goes_on : (m : Msg) → is_in_range m ≡ true → ends_track (drop 1 (message_bytes m)) ≡ false
data_goes_on (On channel key velocity) fits = let a : key < 128 = grind (arith, nat_tests) in grind (arith, nat_tests)
data_goes_on (Off channel key) fits = let a : key < 128 = grind (arith, nat_tests) in grind (arith, nat_tests)
data_goes_on (Control channel controller value) fits = let a : controller < 128 = grind (arith, nat_tests) in grind (arith, nat_tests)
data_goes_on (Program channel program) fits = refl
data_goes_on (Bend channel bend) fits = let a : bend % 128 < 128 = omega arith in grind (arith, nat_tests)

shown_goes_on : (b : Bool) (m : Msg) → is_in_range m ≡ true → ends_track (drop (cond b 1 0) (message_bytes m)) ≡ false
shown_goes_on true m fits = data_goes_on m fits
shown_goes_on false m fits = message_goes_on m fits

-- the reader has the writer's status in force, where the writer has one
abbrev pub Agrees : Option ℕ → Option ℕ → Type 0
Agrees None running = Unit {0}
Agrees (Some status) running = running ≡ Some status

-- the three tests of leaving a status byte out
middle : (a b d : Bool) → (a && b && d) ≡ true → b ≡ true
middle true true d is = refl
middle true false d is = absurd cc
middle false b d is = absurd cc

not_last : (a b d : Bool) → d ≡ false → (a && b && d) ≡ false
not_last true true d is = is
not_last true false d is = refl
not_last false b d is = refl

-- a status byte is left out only where it is in force
left_out : (writes : Bool) (before running : Option ℕ) (ticks : ℕ) (m : Msg) → Agrees before running →
    leaves_out writes before ticks m ≡ true → running ≡ Some (status_of m)
left_out writes None running ticks m agrees is = absurd cc
left_out writes (Some s) running ticks m agrees is =
    let same : nat_eq s (status_of m) ≡ true = middle writes _ (nat_eq (filler_count ticks) 0) is in
    let equal : s ≡ status_of m = grind (arith, nat_tests) in
    agrees ∙ ap Some equal

-- and not behind a filler
no_filler : (writes : Bool) (before : Option ℕ) (ticks : ℕ) (m : Msg) → 0 < filler_count ticks → leaves_out writes before ticks m ≡ false
no_filler writes None ticks m some = refl
no_filler writes (Some s) ticks m some =
    let more : nat_eq (filler_count ticks) 0 ≡ false = grind (arith, nat_tests) in not_last writes (nat_eq s (status_of m)) _ more

-- an event at the position where a filler may stand before it
shown_is_read : (short : Bool) (running : Option ℕ) (m : Msg) (rest : List ℕ) → is_in_range m ≡ true →
    (short ≡ true → running ≡ Some (status_of m)) →
    read_event running (drop (cond short 1 0) (message_bytes m) ++ rest) ≡ Ok (status_of m, rest)
shown_is_read false running m rest fits agrees = message_written running m rest fits
shown_is_read true running m rest fits agrees =
    ap (λ r. read_event r (drop 1 (message_bytes m) ++ rest)) (agrees refl) ∙ data_is_read m rest fits

-- a delta time and an event without fillers, or with some
shown_timed : (count ticks status : ℕ) (event rest : List ℕ) (es : List Pair) (running : Option ℕ) → filler_count ticks ≡ count →
    ends_track event ≡ false → read_event running (event ++ rest) ≡ Ok (status, rest) →
    (0 < count → (r : Option ℕ) → read_event r (event ++ rest) ≡ Ok (status, rest)) → entries (in_force status) rest ≡ Ok es →
    entries running (delta ticks ++ (event ++ rest)) ≡ Ok (timed ticks status event ++ es)
unfolding delta fillers filler_entries
shown_timed zero ticks status event rest es running none goes_on here free more =
    let whole =
    one_more running _ rest _ es
    (entry_written running (remainder ticks) status event rest (remainder_small ticks) here) goes_on more in
    ap (λ k. entries running ((fillers k ++ vlq (remainder ticks)) ++ (event ++ rest))) none ∙ whole
    ∙ ap (λ k. Ok
    ((filler_entries k ++ record {
      delta = remainder ticks;
      status = status;
      lead = vlq (remainder ticks);
      bytes =
          event;
    } ∷ []) ++ es)) (sym none)
shown_timed (suc k) ticks status event rest es running some goes_on here free more =
    let one : ReadsAs (vlq (remainder ticks) ++ (event ++ rest))
    (record { delta = remainder ticks; status = status; lead = vlq (remainder ticks); bytes = event } ∷ es) =
    λ r. one_more r _ rest _ es
    (entry_written r (remainder ticks) status event rest (remainder_small ticks) (free (omega arith) r)) goes_on more in
    ap (entries running) (append_assoc (fillers (filler_count ticks)) (vlq (remainder ticks)) (event ++ rest))
    ∙ fillers_written (filler_count ticks) _ _ one running
    ∙ ap Ok (sym (append_assoc (filler_entries (filler_count ticks)) _ es))

-- a list of events
pub events_written : (s : TrackState) (events : List TimedMessage) (rest : List ℕ) (es : List Pair) (running : Option ℕ) →
    AreInRange events → Agrees s.status running → ReadsAs rest es →
    entries running (events_bytes s events ++ rest) ≡ Ok (event_entries s events ++ es)
unfolding event_bytes
events_written s [] rest es running fits agrees more = more running
events_written s (e ∷ events) rest es running fits agrees more =
    let ticks : ℕ = e.time - s.last in
    let short : Bool = leaves_out s.running s.status ticks e.msg in
    let bytes : List ℕ = drop (cond short 1 0) (message_bytes e.msg) in
    let following : List ℕ = events_bytes (state_with s e) events ++ rest in
    let later = events_written (state_with s e) events rest es (in_force (status_of e.msg)) fits.1 (in_force_is e.msg fits.0) more in
    let here = shown_is_read short running e.msg following fits.0 (left_out s.running s.status running ticks e.msg agrees) in
    let free : 0 < filler_count ticks → (r : Option ℕ) → read_event r (bytes ++ following) ≡ Ok (status_of e.msg, following) =
    λ some r. shown_is_read short r e.msg following fits.0 (λ is. absurd (cc (no_filler s.running s.status ticks e.msg some))) in
    let whole = shown_timed (filler_count ticks) ticks (status_of e.msg) bytes following _ running refl
    (shown_goes_on short e.msg fits.0) here free later in
    let parts : ((delta ticks ++ bytes) ++ events_bytes (state_with s e) events) ++ rest ≡ delta ticks ++ (bytes ++ following) =
    simp append_assoc in
    ap (entries running) parts ∙ whole
    ∙ ap Ok (sym (append_assoc (timed ticks (status_of e.msg) bytes) (event_entries (state_with s e) events) es))

-- a whole track
pub track_written : (profile : Profile) (events : List TimedMessage) (end : ℕ) → AreInRange events →
    ReadsAs (track profile events end) (track_entries profile events end)
unfolding track
track_written profile events end fits running =
    let start : TrackState = track_start profile in
    let later = events_written start events (end_bytes (last_time 0 events) end) _ None fits tt (end_written (last_time 0 events) end) in
    ap (entries running) (append_assoc tempo (events_bytes start events) (end_bytes (last_time 0 events) end))
    ∙ one_more running _ _ tempo_entry _ (tempo_is_read running _) refl later
