-- A written file is read back.
use Rattle.std.proofs.Common.{◌≡◌, ℕ, ◌+◌, ◌*◌, ◌/◌, ◌%◌, ◌^◌, ◌<◌, ◌≤◌, Bool, true, false, ◌&&◌, ltb, leb, nat_eq, codes, List, [], ◌∷◌, ◌++◌, length, take, drop, None, Ok, refl, sym, ◌∙◌, ap, arith, le-ltb, length-append}
use Rattle.std.specs.Int.{w32, to_be_bytes}
use Rattle.std.specs.Str.{bytes_eq}
use Rattle.std.proofs.lemmas.List.{append-nil, take_at, drop_at}
use Rattle.std.proofs.lemmas.Bool.Decides.{nat_tests}
use Rattle.std.proofs.lemmas.Nat.{from_be_bytes-to_be_bytes_4}
use Rattle.fm_msg.specs.Event.{TimedMessage}
use Rattle.fm_msg.specs.declared.profile.Profile.{Profile}
use Rattle.fm_smf.specs.Track.{track}
use Rattle.fm_smf.specs.File.{with_length, file}
use Rattle.fm_smf.specs.declared.limits.TheConstants.{MAX_TRACK}
use Rattle.fm_read.specs.Reading.{◌>>=◌, Pair}
use Rattle.fm_read.specs.Tracks.{entries}
use Rattle.fm_read.specs.Files.{Part, wide_at, short_at, has_kind, chunk_fault, held, past_chunk, passes, read_chunk, chunks, body_chunks, header_fault, header_of, behind_header, contents, tracks}
use Rattle.fm_read.specs.Written.{AreInRange, track_entries}
use Rattle.fm_read.specs.WrittenFile.{track_head, track_part, written_contents}
use Rattle.fm_read.proofs.ChunkLemmas.{chunks_step, chunks_none}
use Rattle.fm_read.proofs.TrackWritten.{track_written}

-- a track's chunk by its parts
chunk_by : (bytes head body rest : List ℕ) (es : List Pair) → ltb (length bytes) 8 ≡ false → has_kind (codes "MTrk") bytes ≡ true →
    passes bytes ≡ false → take 8 bytes ≡ head → held bytes ≡ body → past_chunk bytes ≡ rest → entries None body ≡ Ok es →
    read_chunk bytes ≡ Ok (record { head = head; body = body }, rest)
unfolding read_chunk chunk_fault
chunk_by bytes head body rest es long starts whole head_is held_is behind_is is =
    rw (long, starts, whole, head_is, held_is, behind_is, is) refl

begins_is : (kind rest : List ℕ) (a b d e : ℕ) (r : Bool) → bytes_eq (a ∷ b ∷ d ∷ e ∷ []) kind ≡ r →
    has_kind kind (a ∷ b ∷ d ∷ e ∷ rest) ≡ r
begins_is kind rest a b d e r is =
    let long : leb 4 (length (a ∷ b ∷ d ∷ e ∷ rest)) ≡ true = grind (arith, nat_tests) in
    ap (λ t. t && bytes_eq (a ∷ b ∷ d ∷ e ∷ []) kind) long ∙ is

-- a track's chunk, and what follows it
pub chunk_written : (body rest : List ℕ) (es : List Pair) → length body < 2 ^ 32 → entries None body ≡ Ok es →
    read_chunk (track_head (length body) ++ (body ++ rest)) ≡ Ok (track_part body, rest)
chunk_written body rest es small is =
    let bytes : List ℕ = track_head (length body) ++ (body ++ rest) in
    let count : wide_at 4 bytes ≡ length body = from_be_bytes-to_be_bytes_4 (length body) small in
    chunk_by bytes (track_head (length body)) body rest es (le-ltb _ _ (omega arith))
    (begins_is (codes "MTrk") (to_be_bytes w32 (length body) ++ (body ++ rest)) 77 84 114 107 true refl)
    (ap (ltb (length (body ++ rest))) count ∙ le-ltb _ _ (omega (arith, length-append body rest)))
    refl
    (ap (λ n. take n (body ++ rest)) count ∙ take_at body rest (length body) refl)
    (ap (λ n. drop n (body ++ rest)) count ∙ drop_at body rest (length body) refl)
    is

-- a header by its tests
pub header_by : (bytes : List ℕ) → has_kind (codes "RIFF") bytes ≡ false → has_kind (codes "MThd") bytes ≡ true →
    ltb (length bytes) 8 ≡ false →
    ltb (wide_at 4 bytes) 6 ≡ false → leb 10 (length bytes) ≡ true → nat_eq (short_at 8 bytes) 2 ≡ false →
    ltb 2 (short_at 8 bytes) ≡ false →
    leb 14 (length bytes) ≡ true → leb 32768 (short_at 12 bytes) ≡ false → ltb (length bytes) (8 + wide_at 4 bytes) ≡ false →
    header_fault bytes ≡ None
header_by bytes a b d e f g h i j k = rw (a, b, d, e, f, g, h, i, j, k) refl

-- a header of six bytes, of format 0 or 1
pub header_written : (format stated high low : ℕ) (rest : List ℕ) → format < 2 → high < 128 → low < 256 →
    header_fault (77 ∷ 84 ∷ 104 ∷ 100 ∷ 0 ∷ 0 ∷ 0 ∷ 6 ∷ 0 ∷ format ∷ 0 ∷ stated ∷ high ∷ low ∷ rest) ≡ None
header_written format stated high low rest f h l =
    let behind_four : List ℕ = 0 ∷ 0 ∷ 0 ∷ 6 ∷ 0 ∷ format ∷ 0 ∷ stated ∷ high ∷ low ∷ rest in
    let bytes : List ℕ = 77 ∷ 84 ∷ 104 ∷ 100 ∷ behind_four in
    header_by bytes
    (begins_is (codes "RIFF") behind_four 77 84 104 100 false refl) (begins_is (codes "MThd") behind_four 77 84 104 100 true refl)
    (le-ltb _ _ (omega arith)) refl (grind (arith, nat_tests)) (grind (arith, nat_tests)) (le-ltb _ _ (omega arith))
    (grind (arith, nat_tests)) (grind (arith, nat_tests)) (le-ltb _ _ (omega arith))

-- one track with these entries is the file's one chunk
pub track_alone : (body : List ℕ) (es : List Pair) → length body < 2 ^ 32 → entries None body ≡ Ok es →
    body_chunks (track_head (length body) ++ body) ≡ Ok (track_part body ∷ [])
track_alone body es small is =
    let one : read_chunk (track_head (length body) ++ body) ≡ Ok (track_part body, []) =
    ap (λ z. read_chunk (track_head (length body) ++ z)) (sym (append-nil body)) ∙ chunk_written body [] es small is in
    let all : chunks (track_head (length body) ++ body) ≡ Ok (track_part body ∷ []) =
    chunks_step (track_head (length body) ++ body) _ one (omega arith)
    ∙ ap (λ r. r >>= λ more. Ok (track_part body ∷ more)) (chunks_none [] refl) in
    rw all refl

-- a file by its parts
pub contents_by : (bytes : List ℕ) (ps : List Part) → header_fault bytes ≡ None → body_chunks (behind_header bytes) ≡ Ok ps →
    contents bytes ≡ Ok (record {
      head = header_of bytes;
      format = short_at 8 bytes;
      stated = short_at 10 bytes;
      division = short_at 12 bytes;
      parts = ps;
    })
unfolding contents
contents_by bytes ps fine there = rw (fine, there) refl

-- a whole file is read back
pub file_written : (profile : Profile) (events : List TimedMessage) (end : ℕ) → AreInRange events → profile.division < 2 ^ 15 →
    length (track profile events end) ≤ MAX_TRACK →
    contents (file profile events end) ≡ Ok (written_contents profile events end)
unfolding file with_length
file_written profile events end fits small short =
    let body : List ℕ = track profile events end in
    let es : List Pair = track_entries profile events end in
    let whole : profile.division / 256 * 256 + profile.division % 256 ≡ profile.division = omega arith in
    contents_by (file profile events end) (track_part body ∷ [])
    (header_written 0 1 (profile.division / 256) (profile.division % 256) (track_head (length body) ++ body)
    (omega arith) (omega arith) (omega arith))
    (track_alone body es (omega arith) (track_written profile events end fits None))
    ∙ ap (λ n. Ok (record {
      head = 77 ∷ 84 ∷ 104 ∷ 100 ∷ 0 ∷ 0 ∷ 0 ∷ 6 ∷ 0 ∷ 0 ∷ 0 ∷ 1 ∷ (profile.division / 256) ∷ (profile.division % 256) ∷ [];
      format = 0;
      stated = 1;
      division = n;
      parts = track_part body ∷ [];
    })) whole

-- its one track has these entries
pub one_track : (profile : Profile) (events : List TimedMessage) (end : ℕ) → AreInRange events →
    tracks (written_contents profile events end).parts ≡ track_entries profile events end ∷ []
one_track profile events end fits = rw (track_written profile events end fits None) refl
