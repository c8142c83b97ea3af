-- What has the form of a file is read.
use Rattle.std.proofs.Common.{◌≡◌, ℕ, ◌+◌, ◌<◌, ◌≤◌, Bool, true, false, ltb, leb, nat_eq, codes, List, [], ◌∷◌, ◌++◌, length, take, drop, None, Ok, refl, sym, ◌∙◌, ap, arith, le-ltb, length-append, append_assoc, subst}
use Rattle.std.specs.Str.{bytes_eq}
use Rattle.std.proofs.lemmas.Bool.{le-leb}
use Rattle.std.proofs.lemmas.List.{take_at, drop_at, take-append-le, drop-append-le, length-drop}
use Rattle.std.proofs.lemmas.Slice.Eq.{bytes_eq-Decides}
use Rattle.std.proofs.lemmas.Bool.Decides.{nat_tests}
use Rattle.fm_read.specs.Reading.{◌>>=◌}
use Rattle.fm_read.specs.Tracks.{entries}
use Rattle.fm_read.specs.Files.{Part, Contents, wide_at, short_at, has_kind, chunk_fault, held, past_chunk, passes, read_chunk, chunks, is_track, body_chunks, header_fault, header_of, behind_header, contents}
use Rattle.fm_read.specs.FileFaultForm.{headed}
use Rattle.fm_read.specs.FileForm.{IsBody, IsChunk, AreChunks, IsHeader, IsFile}
use Rattle.fm_read.specs.Kept.{joined_parts, bytes_of}
use Rattle.fm_read.proofs.ChunkLemmas.{chunks_step, chunks_none}
use Rattle.fm_read.proofs.FileWritten.{header_by, contents_by}
use Rattle.fm_read.proofs.FormRead.{track_read}

-- ---- fields in front of other bytes

-- bytes inside what stands in front
inside : (n at : ℕ) (xs ys : List ℕ) → at + n ≤ length xs → take n (drop at (xs ++ ys)) ≡ take n (drop at xs)
inside n at xs ys fits =
    ap (take n) (drop-append-le at xs ys (omega arith))
    ∙ take-append-le n (drop at xs) ys (omega (arith, length-drop at xs))

pub wide_inside : (at : ℕ) (xs ys : List ℕ) → at + 4 ≤ length xs → wide_at at (xs ++ ys) ≡ wide_at at xs
wide_inside at xs ys fits = rw (inside 4 at xs ys fits) refl

short_inside : (at : ℕ) (xs ys : List ℕ) → at + 2 ≤ length xs → short_at at (xs ++ ys) ≡ short_at at xs
short_inside at xs ys fits = rw (inside 2 at xs ys fits) refl

pub kind_inside : (kind xs ys : List ℕ) → 4 ≤ length xs → has_kind kind (xs ++ ys) ≡ has_kind kind xs
kind_inside kind xs ys fits =
    let a : leb 4 (length (xs ++ ys)) ≡ true = le-leb _ _ (omega (arith, length-append xs ys)) in
    let b : leb 4 (length xs) ≡ true = le-leb _ _ fits in
    rw (a, b, take-append-le 4 xs ys fits) refl

-- ---- chunks

body_good : (flag : Bool) (body : List ℕ) (n : ℕ) → (flag ≡ true → IsBody body) → chunk_fault flag false body n ≡ Ok tt
unfolding chunk_fault
body_good true body n track =
    let is = track refl in
    let read : entries None body ≡ Ok is.entries = ap (entries None) (sym is.parts) ∙ track_read None is.entries is.form in
    rw read refl
body_good false body n track = refl

chunk_by : (bytes : List ℕ) (p : Part) (rest : List ℕ) → ltb (length bytes) 8 ≡ false → take 8 bytes ≡ p.head → held bytes ≡ p.body →
    past_chunk bytes ≡ rest → chunk_fault (has_kind (codes "MTrk") bytes) (passes bytes) (held bytes) (length (past_chunk bytes)) ≡ Ok tt →
    read_chunk bytes ≡ Ok (p, rest)
unfolding read_chunk
chunk_by bytes p rest long head body rest_is good = rw (long, good) (rw (head, body, rest_is) refl)

pub chunk_read : (p : Part) (rest : List ℕ) → IsChunk p → read_chunk ((p.head ++ p.body) ++ rest) ≡ Ok (p, rest)
chunk_read p rest is =
    let bytes : List ℕ = (p.head ++ p.body) ++ rest in
    let parts : bytes ≡ p.head ++ (p.body ++ rest) = append_assoc p.head p.body rest in
    let front : take 8 bytes ≡ p.head = ap (take 8) parts ∙ take_at p.head (p.body ++ rest) 8 is.head in
    let after : drop 8 bytes ≡ p.body ++ rest = ap (drop 8) parts ∙ drop_at p.head (p.body ++ rest) 8 is.head in
    let count : wide_at 4 bytes ≡ length p.body =
    ap (wide_at 4) parts ∙ wide_inside 4 p.head (p.body ++ rest) (omega (arith, is.head)) ∙ sym is.body in
    let held_is : held bytes ≡ p.body = rw (count, after) (take_at p.body rest (length p.body) refl) in
    let behind_is : past_chunk bytes ≡ rest = rw (count, after) (drop_at p.body rest (length p.body) refl) in
    let whole : passes bytes ≡ false = rw (count, after) (le-ltb _ _ (omega (arith, length-append p.body rest))) in
    let flag : has_kind (codes "MTrk") bytes ≡ is_track p =
    ap (has_kind (codes "MTrk")) parts ∙ kind_inside (codes "MTrk") p.head (p.body ++ rest) (omega (arith, is.head)) in
    let long : ltb (length bytes) 8 ≡ false = le-ltb _ _ (omega (arith, is.head, ap length parts, length-append p.head (p.body ++ rest))) in
    let good : chunk_fault (has_kind (codes "MTrk") bytes) (passes bytes) (held bytes) (length (past_chunk bytes)) ≡ Ok tt =
    rw (flag, whole, held_is) (body_good (is_track p) p.body (length (past_chunk bytes)) is.track) in
    chunk_by bytes p rest long front held_is behind_is good

pub chunks_read : (ps : List Part) → AreChunks ps → chunks (joined_parts ps) ≡ Ok ps
chunks_read [] are = chunks_none [] refl
chunks_read (p ∷ ps) are =
    let some : 0 < length (joined_parts (p ∷ ps)) =
    omega (arith, are.0.head, length-append (p.head ++ p.body) (joined_parts ps), length-append p.head p.body) in
    chunks_step (joined_parts (p ∷ ps)) (p, joined_parts ps) (chunk_read p (joined_parts ps) are.0) some
    ∙ ap (λ r. r >>= λ more. Ok (p ∷ more)) (chunks_read ps are.1)

-- ---- the header

-- bytes of one kind aren't of another
pub other_kind : (bytes : List ℕ) → has_kind (codes "MThd") bytes ≡ true → has_kind (codes "RIFF") bytes ≡ false
other_kind bytes is = by_length (leb 4 (length bytes)) refl
  where
    by_length : (b : Bool) → leb 4 (length bytes) ≡ b → has_kind (codes "RIFF") bytes ≡ false
    by_length false short = rw short refl
    by_length true long =
        let same : bytes_eq (take 4 bytes) (codes "MThd") ≡ true = rw long at is in
        let equal : take 4 bytes ≡ codes "MThd" = grind (arith, bytes_eq-Decides) in
        rw (long, equal) refl

-- a header chunk in front of other bytes
pub header_read : (head rest : List ℕ) → IsHeader (headed head) →
    (header_fault (head ++ rest) ≡ None) × (behind_header (head ++ rest) ≡ rest)
header_read head rest h =
    let bytes : List ℕ = head ++ rest in
    let all : length bytes ≡ length head + length rest = length-append head rest in
    let wide : wide_at 4 bytes ≡ wide_at 4 head = wide_inside 4 head rest (omega (arith, h.six, h.whole)) in
    let format : short_at 8 bytes ≡ short_at 8 head = short_inside 8 head rest (omega (arith, h.six, h.whole)) in
    let division : short_at 12 bytes ≡ short_at 12 head = short_inside 12 head rest (omega (arith, h.six, h.whole)) in
    let kind : has_kind (codes "MThd") bytes ≡ true = kind_inside (codes "MThd") head rest (omega (arith, h.six, h.whole)) ∙ h.kind in
    let not_two : nat_eq (short_at 8 bytes) 2 ≡ false =
    rw format (let k : short_at 8 head < 2 = h.known in grind (arith, nat_tests)) in
    let low : ltb 2 (short_at 8 bytes) ≡ false = rw format (le-ltb _ _ (omega (arith, h.known))) in
    let small : leb 32768 (short_at 12 bytes) ≡ false =
    rw division (let k : short_at 12 head < 32768 = h.ticks in grind (arith, nat_tests)) in
    let fine = header_by bytes (other_kind bytes kind) kind (le-ltb _ _ (omega (arith, h.six, h.whole, all)))
    (le-ltb _ _ (omega (arith, h.six, wide))) (le-leb _ _ (omega (arith, h.six, h.whole, all))) not_two low
    (le-leb _ _ (omega (arith, h.six, h.whole, all))) small (le-ltb _ _ (omega (arith, h.whole, wide, all))) in
    (fine, drop_at head rest _ (h.whole ∙ ap (λ n. 8 + n) (sym wide)))

pub file_read : (c : Contents) → IsFile c → contents (bytes_of c) ≡ Ok c
file_read c is =
    let rest : List ℕ = joined_parts c.parts in
    let bytes : List ℕ = c.head ++ rest in
    let h : IsHeader c = is.header in
    let alone : IsHeader (headed c.head) = record {
      kind = h.kind;
      six = h.six;
      whole = h.whole;
      format = refl;
      stated = refl;
      division = refl;
      known = subst (λ n. n < 2) h.format h.known;
      ticks = subst (λ n. n < 32768) h.division h.ticks;
    } in
    let read = header_read c.head rest alone in
    let wide : wide_at 4 bytes ≡ wide_at 4 c.head = wide_inside 4 c.head rest (omega (arith, h.six, h.whole)) in
    let format : short_at 8 bytes ≡ c.format = short_inside 8 c.head rest (omega (arith, h.six, h.whole)) ∙ sym h.format in
    let stated : short_at 10 bytes ≡ c.stated = short_inside 10 c.head rest (omega (arith, h.six, h.whole)) ∙ sym h.stated in
    let division : short_at 12 bytes ≡ c.division = short_inside 12 c.head rest (omega (arith, h.six, h.whole)) ∙ sym h.division in
    let head_is : header_of bytes ≡ c.head = take_at c.head rest _ (h.whole ∙ ap (λ n. 8 + n) (sym wide)) in
    let there : body_chunks (behind_header bytes) ≡ Ok c.parts = rw (read.1, chunks_read c.parts is.chunks, is.some) refl in
    contents_by bytes c.parts read.0 there ∙ rw (head_is, format, stated, division) refl
