-- The file of the parts of a list is read back, track by track.
use Rattle.std.proofs.Common.{◌≡◌, ℕ, ◌-◌, ◌^◌, ◌<◌, ◌≤◌, Bool, true, false, cond, List, [], ◌∷◌, ◌++◌, length, map, filter, drop, Option, None, Some, Ok, refl, sym, ◌∙◌, ap, arith, append_assoc, length-append}
use Rattle.std.specs.List.{flat_map}
use Rattle.std.proofs.lemmas.List.{map-append}
use Rattle.std.proofs.lemmas.List.Sums.{length-filter, count_by-le-length}
use Rattle.std.proofs.lemmas.Nat.{from_be_bytes-to_be_bytes_4}
use Rattle.fm_msg.specs.declared.msg.Msg.{Msg}
use Rattle.fm_msg.specs.declared.msg.TheConstants.{CHANNELS}
use Rattle.fm_msg.specs.declared.profile.Profile.{Profile}
use Rattle.fm_msg.specs.Event.{TimedMessage}
use Rattle.fm_msg.specs.Message.{message_bytes}
use Rattle.fm_smf.specs.Track.{tempo, delta, TrackState, track_start, leaves_out, event_bytes, events_bytes, end_bytes, state_with, last_time, NeverFalls, track}
use Rattle.fm_smf.specs.File.{first_profile}
use Rattle.fm_smf.specs.declared.limits.TheConstants.{MAX_TRACK}
use Rattle.fm_smf.proofs.Tracks.{length-end}
use Rattle.fm_read.specs.Reading.{Pair}
use Rattle.fm_read.specs.Tracks.{entries}
use Rattle.fm_read.specs.Decoded.{message_from}
use Rattle.fm_read.specs.Files.{Contents, contents, tracks}
use Rattle.fm_read.specs.FileForm.{IsChunk, AreChunks}
use Rattle.fm_read.specs.Kept.{joined_parts}
use Rattle.fm_read.specs.Written.{AreInRange, as_message, timed, event_entries, track_entries, time_after}
use Rattle.fm_read.specs.WrittenFile.{track_part, IsFileOf}
use Rattle.fm_read.proofs.FileFormRead.{file_read}
use Rattle.fm_read.proofs.FormTook.{track_took}
use Rattle.fm_read.proofs.Joined.{entries_joined}
use Rattle.fm_read.proofs.Messages.{track_decoded, track_end}
use Rattle.fm_read.proofs.TrackWritten.{events_written, end_written, track_written}
use Rattle.fm_parts.specs.Format1.{is_on_channel, on_channel, track_behind, tempo_track, track_of, numbers, channel_tracks, track_chunk, format1_header, all_tracks, format1}
use Rattle.fm_parts.specs.ReadBack.{parts_contents, heard, heard_of, all_heard}
use Rattle.fm_parts.proofs.Rising.{RisesTo, rises_filter, track_small}
use Rattle.fm_parts.proofs.WrittenBounds.{bounds}

-- ---- bodies that are read

-- each body has a length of four bytes, and is read as these entries
abbrev AreRead : List (List ℕ) → List (List Pair) → Type 0
AreRead [] [] = Unit {0}
AreRead [] (es ∷ more) = ⊥
AreRead (body ∷ bodies) [] = ⊥
AreRead (body ∷ bodies) (es ∷ more) = (length body ≤ MAX_TRACK) × (entries None body ≡ Ok es) × AreRead bodies more

read_append : (front back : List (List ℕ)) (xs ys : List (List Pair)) → AreRead front xs → AreRead back ys →
    AreRead (front ++ back) (xs ++ ys)
read_append [] back [] ys one two = two
read_append [] back (x ∷ xs) ys one two = absurd one
read_append (body ∷ front) back [] ys one two = absurd one
read_append (body ∷ front) back (x ∷ xs) ys one two = (one.0, one.1, read_append front back xs ys one.2 two)

chunk_is : (body : List ℕ) (es : List Pair) → length body ≤ MAX_TRACK → entries None body ≡ Ok es → IsChunk (track_part body)
chunk_is body es small is = record {
  head = refl;
  body = sym (from_be_bytes-to_be_bytes_4 (length body) (omega arith));
  track = λ flag. record { entries = es; form = track_took None body es is; parts = entries_joined None body es is };
}

chunks_are : (bodies : List (List ℕ)) (ess : List (List Pair)) → AreRead bodies ess → AreChunks (map track_part bodies)
chunks_are [] [] reads = tt
chunks_are [] (es ∷ more) reads = absurd reads
chunks_are (body ∷ bodies) [] reads = absurd reads
chunks_are (body ∷ bodies) (es ∷ more) reads = (chunk_is body es reads.0 reads.1, chunks_are bodies more reads.2)

tracks_are : (bodies : List (List ℕ)) (ess : List (List Pair)) → AreRead bodies ess → tracks (map track_part bodies) ≡ ess
tracks_are [] [] reads = refl
tracks_are [] (es ∷ more) reads = absurd reads
tracks_are (body ∷ bodies) [] reads = absurd reads
tracks_are (body ∷ bodies) (es ∷ more) reads = rw reads.1 (ap (λ z. es ∷ z) (tracks_are bodies more reads.2))

joined : (bodies : List (List ℕ)) → joined_parts (map track_part bodies) ≡ flat_map track_chunk bodies
joined [] = refl
joined (body ∷ bodies) = ap (λ z. track_chunk body ++ z) (joined bodies)

-- ---- one track

-- a message at a tick as an event
abbrev event_of : ℕ × Msg → TimedMessage
event_of x = record { time = x.0; process = 0; index = 0; msg = x.1 }

event_message : (list : List (ℕ × Msg)) → map as_message (map event_of list) ≡ list
event_message [] = refl
event_message (x ∷ list) = ap (λ z. x ∷ z) (event_message list)

-- the entries of messages and their end
abbrev list_entries : List (ℕ × Msg) → ℕ → List Pair
list_entries list end =
    event_entries (track_start first_profile) (map event_of list) ++ timed (end - last_time 0 (map event_of list)) 255 (255 ∷ 47 ∷ 0 ∷ [])

all_written : (b : Option ℕ) (ticks : ℕ) (m : Msg) → leaves_out false b ticks m ≡ false
all_written None ticks m = refl
all_written (Some s) ticks m = refl

-- the bytes of messages are those of events with each status byte
track_bytes : (s : TrackState) (list : List (ℕ × Msg)) (end : ℕ) → s.running ≡ false →
    track_behind s.last list end ≡ events_bytes s (map event_of list) ++ end_bytes (last_time s.last (map event_of list)) end
unfolding event_bytes
track_bytes s [] end plain = refl
track_bytes s (x ∷ list) end plain =
    ap (λ b. (delta (x.0 - s.last) ++ drop (cond b 1 0) (message_bytes x.1)) ++ track_behind x.0 list end)
    (sym (ap (λ r. leaves_out r s.status (x.0 - s.last) x.1) plain ∙ all_written s.status (x.0 - s.last) x.1))
    ∙ ap (λ z. event_bytes s (event_of x) ++ z) (track_bytes (state_with s (event_of x)) list end plain)
    ∙ sym (append_assoc (event_bytes s (event_of x)) (events_bytes (state_with s (event_of x)) (map event_of list))
    (end_bytes (last_time x.0 (map event_of list)) end))

-- and so they are read
list_read : (list : List (ℕ × Msg)) (end : ℕ) → AreInRange (map event_of list) →
    entries None (track_behind 0 list end) ≡ Ok (list_entries list end)
list_read list end fits =
    ap (entries None) (track_bytes (track_start first_profile) list end refl)
    ∙ events_written (track_start first_profile) (map event_of list) (end_bytes (last_time 0 (map event_of list)) end) _ None fits tt
    (end_written (last_time 0 (map event_of list)) end)

rises_events : (last : ℕ) (list : List (ℕ × Msg)) (end : ℕ) → RisesTo last list end → NeverFalls last (map event_of list)
rises_events last [] end rise = tt
rises_events last (x ∷ list) end rise = (rise.0, rises_events x.0 list end rise.1)

rises_last : (last : ℕ) (list : List (ℕ × Msg)) (end : ℕ) → RisesTo last list end → last_time last (map event_of list) ≤ end
rises_last last [] end rise = rise
rises_last last (x ∷ list) end rise = rises_last x.0 list end rise.1

-- what is heard of them
list_heard : (list : List (ℕ × Msg)) (end : ℕ) → AreInRange (map event_of list) → RisesTo 0 list end →
    heard (list_entries list end) ≡ (list, end)
unfolding message_from
list_heard list end fits rise =
    ap (λ z. (z, time_after 0 (list_entries list end)))
    (track_decoded first_profile (map event_of list) end fits (rises_events 0 list end rise) ∙ event_message list)
    ∙ ap (λ n. (list, n)) (track_end first_profile (map event_of list) end (rises_events 0 list end rise) (rises_last 0 list end rise))

-- the tempo alone
tempo_read : (end : ℕ) → entries None (tempo_track end) ≡ Ok (track_entries first_profile [] end)
unfolding track
tempo_read end = track_written first_profile [] end tt None

tempo_heard : (end : ℕ) → heard (track_entries first_profile [] end) ≡ ([], end)
tempo_heard end =
    ap (λ z. (z, time_after 0 (track_entries first_profile [] end))) (track_decoded first_profile [] end tt tt)
    ∙ ap (λ n. ([], n)) (track_end first_profile [] end tt (omega arith))

-- ---- all channels

module _ (list : List (ℕ × Msg)) (end : ℕ) (fits : AreInRange (map event_of list)) (rise : RisesTo 0 list end)
    (few : length list ≤ 2 ^ 25) (early : end ≤ 2 ^ 57) where
  -- the entries of a channel's track
  abbrev entries_of : List (ℕ × Msg) → List (List Pair)
  entries_of [] = []
  entries_of (x ∷ xs) = list_entries (x ∷ xs) end ∷ []

  filtered : (p : ℕ × Msg → Bool) (xs : List (ℕ × Msg)) → AreInRange (map event_of xs) → AreInRange (map event_of (filter p xs))
  filtered p [] one = tt
  filtered p (x ∷ xs) one = by_test (p x) (filtered p xs one.1)
    where
      by_test : (b : Bool) → AreInRange (map event_of (filter p xs)) → AreInRange (map event_of (cond b (x ∷ filter p xs) (filter p xs)))
      by_test true more = (one.0, more)
      by_test false more = more

  on_fits : (c : ℕ) → AreInRange (map event_of (on_channel c list))
  on_fits c = filtered (is_on_channel c) list fits

  on_rises : (c : ℕ) → RisesTo 0 (on_channel c list) end
  on_rises c = rises_filter (is_on_channel c) 0 list end rise

  on_few : (c : ℕ) → length (on_channel c list) ≤ 2 ^ 25
  on_few c = omega (arith, few, length-filter (is_on_channel c) list, count_by-le-length (is_on_channel c) list)

  channel_read : (xs : List (ℕ × Msg)) → AreInRange (map event_of xs) → RisesTo 0 xs end → length xs ≤ 2 ^ 25 →
      AreRead (track_of xs end) (entries_of xs)
  channel_read [] one two three = tt
  channel_read (x ∷ xs) one two three =
      (track_small (x ∷ xs) end two three early, list_read (x ∷ xs) end one, tt)

  channels_read : (cs : List ℕ) →
      AreRead (flat_map (λ c. track_of (on_channel c list) end) cs) (flat_map (λ c. entries_of (on_channel c list)) cs)
  channels_read [] = tt
  channels_read (c ∷ cs) =
      read_append (track_of (on_channel c list) end) _ (entries_of (on_channel c list)) _
      (channel_read (on_channel c list) (on_fits c) (on_rises c) (on_few c)) (channels_read cs)

  channel_heard : (xs : List (ℕ × Msg)) → AreInRange (map event_of xs) → RisesTo 0 xs end → map heard (entries_of xs) ≡ heard_of xs end
  channel_heard [] one two = refl
  channel_heard (x ∷ xs) one two = ap (λ z. z ∷ []) (list_heard (x ∷ xs) end one two)

  channels_heard : (cs : List ℕ) → map heard (flat_map (λ c. entries_of (on_channel c list)) cs)
      ≡ flat_map (λ c. heard_of (on_channel c list) end) cs
  channels_heard [] = refl
  channels_heard (c ∷ cs) =
      map-append heard (entries_of (on_channel c list)) (flat_map (λ k. entries_of (on_channel k list)) cs)
      ∙ ap (λ z. z ++ map heard (flat_map (λ k. entries_of (on_channel k list)) cs))
      (channel_heard (on_channel c list) (on_fits c) (on_rises c))
      ∙ ap (λ z. heard_of (on_channel c list) end ++ z) (channels_heard cs)

  abbrev all_entries : List (List Pair)
  all_entries = track_entries first_profile [] end ∷ flat_map (λ c. entries_of (on_channel c list)) (numbers CHANNELS)

  all_read : AreRead (all_tracks list end) all_entries
  unfolding channel_tracks
  all_read =
      let small : length (tempo_track end) ≤ MAX_TRACK = omega (arith, early, length-append tempo (end_bytes 0 end), length-end 0 end) in
      (small, tempo_read end, channels_read (numbers CHANNELS))

  all_are_heard : map heard all_entries ≡ all_heard list end
  all_are_heard =
      ap (λ z. z ∷ map heard (flat_map (λ c. entries_of (on_channel c list)) (numbers CHANNELS))) (tempo_heard end)
      ∙ ap (λ z. ([], end) ∷ z) (channels_heard (numbers CHANNELS))

  -- the whole file
  format1_read : (division : ℕ) → division < 2 ^ 15 → contents (format1 division list end) ≡ Ok (parts_contents division list end)
  unfolding format1 parts_contents
  format1_read division small =
      ap (λ z. contents (format1_header (length (all_tracks list end)) division ++ z)) (sym (joined (all_tracks list end)))
      ∙ file_read (parts_contents division list end) (record {
        header = record {
          kind = refl;
          six = omega arith;
          whole = refl;
          format = refl;
          stated = omega arith;
          division = omega arith;
          known = omega arith;
          ticks = omega arith;
        };
        chunks = chunks_are (all_tracks list end) all_entries all_read;
        some = refl;
      })

  format1_heard : (division : ℕ) → map heard (tracks (parts_contents division list end).parts) ≡ all_heard list end
  unfolding parts_contents
  format1_heard division = ap (map heard) (tracks_are (all_tracks list end) all_entries all_read) ∙ all_are_heard

-- ---- a written file

range_events : (events : List TimedMessage) → AreInRange events → AreInRange (map event_of (map as_message events))
range_events [] fits = tt
range_events (e ∷ es) fits = (fits.0, range_events es fits.1)

rises_to : (last : ℕ) (events : List TimedMessage) (end : ℕ) → NeverFalls last events → last_time last events ≤ end →
    RisesTo last (map as_message events) end
rises_to last [] end rise later = later
rises_to last (e ∷ es) end rise later = (rise.0, rises_to e.time es end rise.1 later)

module _ (profile : Profile) (events : List TimedMessage) (end : ℕ) (c : Contents) (is : IsFileOf profile events end c) where
  -- its parts are read
  pub parts_read : contents (format1 profile.division (map as_message events) end)
      ≡ Ok (parts_contents profile.division (map as_message events) end)
  parts_read =
      let within = bounds profile events end is.in_time is.small in
      format1_read (map as_message events) end (range_events events is.in_range) (rises_to 0 events end is.in_time is.later)
      within.few within.early profile.division is.division

  -- and heard
  pub parts_heard : map heard (tracks (parts_contents profile.division (map as_message events) end).parts)
      ≡ all_heard (map as_message events) end
  parts_heard =
      let within = bounds profile events end is.in_time is.small in
      format1_heard (map as_message events) end (range_events events is.in_range) (rises_to 0 events end is.in_time is.later)
      within.few within.early profile.division
