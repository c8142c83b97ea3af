-- The parts of a whole file.
use Rattle.std.proofs.Common.{◌≡◌, ℕ, ◌+◌, ◌<◌, List, [], ◌∷◌, ◌++◌, length, map, Some, sym, ◌∙◌, ap, arith, append_assoc, length-append}
use Rattle.std.specs.Prelude.{slice_get}
use Rattle.std.specs.List.{flat_map}
use Rattle.std.proofs.lemmas.List.Concat.{flat_map-cons}
use Rattle.fm_msg.specs.declared.msg.Msg.{Msg}
use Rattle.fm_msg.specs.declared.msg.TheConstants.{CHANNELS}
use Rattle.fm_msg.specs.declared.profile.Profile.{Profile}
use Rattle.fm_msg.specs.Event.{TimedMessage}
use Rattle.fm_smf.specs.Track.{tempo, end_bytes}
use Rattle.fm_read.specs.Reading.{Pair}
use Rattle.fm_read.specs.Decoded.{decoded}
use Rattle.fm_read.specs.Files.{Contents, tracks}
use Rattle.fm_read.specs.Written.{time_after, track_entries, as_message}
use Rattle.fm_read.specs.WrittenFile.{track_head, IsFileOf, IsWritten}
use Rattle.fm_read.proofs.WrittenFileLemmas.{written_tracks, written_division, written_decoded, written_end}
use Rattle.fm_parts.specs.Format1.{track_chunk, channel_tracks, tempo_track, all_tracks, format1_header, format1}
use Rattle.fm_parts.specs.Tally.{first_of, first_track, first_split}

-- the chunk of the tempo, part by part
pub tempo_parts : (end n : ℕ) → n ≡ length (end_bytes 0 end) →
    track_chunk (tempo_track end) ≡ (track_head (7 + n) ++ tempo) ++ end_bytes 0 end
tempo_parts end n is =
    let count : length (tempo_track end) ≡ 7 + n = omega (arith, is, length-append tempo (end_bytes 0 end)) in
    ap (λ k. track_head k ++ tempo_track end) count ∙ sym (append_assoc (track_head (7 + n)) tempo (end_bytes 0 end))

-- the whole file, part by part
pub format1_parts : (division : ℕ) (list : List (ℕ × Msg)) (end tracks : ℕ) → tracks ≡ length (channel_tracks CHANNELS list end) →
    format1 division list end
    ≡ (format1_header (1 + tracks) division ++ track_chunk (tempo_track end)) ++ flat_map track_chunk (channel_tracks CHANNELS list end)
unfolding format1
format1_parts division list end tracks is =
    let count : length (all_tracks list end) ≡ 1 + tracks = omega (arith, is) in
    ap (λ n. format1_header n division ++ flat_map track_chunk (all_tracks list end)) count
    ∙ ap (λ z. format1_header (1 + tracks) division ++ z) (flat_map-cons track_chunk (tempo_track end) (channel_tracks CHANNELS list end))
    ∙ sym (append_assoc (format1_header (1 + tracks) division) (track_chunk (tempo_track end)) _)

-- its length, part by part
pub format1_long : (division : ℕ) (list : List (ℕ × Msg)) (end tracks : ℕ) → tracks ≡ length (channel_tracks CHANNELS list end) →
    14 + length (track_chunk (tempo_track end)) + length (flat_map track_chunk (channel_tracks CHANNELS list end))
    ≡ length (format1 division list end)
format1_long division list end tracks is =
    omega (
      arith,
      ap length (format1_parts division list end tracks is),
      length-append (format1_header (1 + tracks) division ++ track_chunk (tempo_track end))
          (flat_map track_chunk (channel_tracks CHANNELS list end)),
      length-append (format1_header (1 + tracks) division) (track_chunk (tempo_track end)),
    )

-- the parts of a file's first track
pub split_parts : (c : Contents) (end tracks : ℕ) → end ≡ time_after 0 (first_track c) →
    tracks ≡ length (channel_tracks CHANNELS (decoded 0 (first_track c)) end) →
    first_split c
    ≡ (format1_header (1 + tracks) c.division ++ track_chunk (tempo_track end))
    ++ flat_map track_chunk (channel_tracks CHANNELS (decoded 0 (first_track c)) end)
split_parts c end tracks at_end count =
    ap (format1 c.division (decoded 0 (first_track c))) (sym at_end)
    ∙ format1_parts c.division (decoded 0 (first_track c)) end tracks count

-- their length
pub split_long : (c : Contents) (end tracks : ℕ) → end ≡ time_after 0 (first_track c) →
    tracks ≡ length (channel_tracks CHANNELS (decoded 0 (first_track c)) end) →
    14 + length (track_chunk (tempo_track end))
    + length (flat_map track_chunk (channel_tracks CHANNELS (decoded 0 (first_track c)) end))
    ≡ length (first_split c)
split_long c end tracks at_end count =
    format1_long c.division (decoded 0 (first_track c)) end tracks count
    ∙ ap (λ n. length (format1 c.division (decoded 0 (first_track c)) n)) at_end

-- the first of several tracks
pub first_is : (ts : List (List Pair)) (es : List Pair) → slice_get ts 0 ≡ Some es → first_of ts ≡ es
first_is [] es is = absurd cc
first_is (t ∷ ts) es is = cc

-- a file that was written has one track, and its parts are those of its events
pub written_split : (profile : Profile) (events : List TimedMessage) (end : ℕ) (c : Contents) → IsFileOf profile events end c →
    first_split c ≡ format1 profile.division (map as_message events) end
written_split profile events end c is =
    let first : first_track c ≡ track_entries profile events end = ap first_of (written_tracks profile events end c is) in
    ap (λ n. format1 n (decoded 0 (first_track c)) (time_after 0 (first_track c))) (written_division profile events end c is)
    ∙ ap (λ es. format1 profile.division (decoded 0 es) (time_after 0 es)) first
    ∙ ap (λ l. format1 profile.division l (time_after 0 (track_entries profile events end))) (written_decoded profile events end c is)
    ∙ ap (format1 profile.division (map as_message events)) (written_end profile events end c is)

-- it has a track
pub written_has_one : (c : Contents) → IsWritten c → 0 < length (tracks c.parts)
written_has_one c w = omega (arith, ap length (written_tracks w.profile w.events w.end c w.is))
