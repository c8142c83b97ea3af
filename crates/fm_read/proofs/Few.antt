-- No more chunks, tracks or entries than bytes.
use Rattle.std.proofs.Common.{◌≡◌, ◌+◌, ℕ, zero, suc, ◌-◌, ◌<◌, ◌≤◌, Bool, true, false, List, [], ◌∷◌, ◌++◌, length, None, Some, Ok, Err, refl, ap, arith, length-append}
use Rattle.std.specs.Prelude.{slice_get}
use Rattle.fm_read.specs.Reading.{Read, ◌>>=◌, Pair}
use Rattle.fm_read.specs.Tracks.{entries, pairs_read}
use Rattle.fm_read.specs.Files.{Part, Contents, chunks, read_chunk, chunks_from, is_track, tracks}
use Rattle.fm_read.specs.Kept.{joined_parts, bytes_of, chunks_of, parts_read, IsKept}
use Rattle.fm_read.specs.declared.limits.TheConstants.{MAX_FILE}
use Rattle.fm_read.proofs.EndsLemmas.{bind_ok, ok_is, ends_shorter}
use Rattle.fm_read.proofs.ChunkLemmas.{chunk_ends}
use Rattle.fm_read.proofs.FileLemmas.{file_joined}
use Rattle.fm_read.proofs.Joined.{entries_few}

-- ---- chunks

few_from : (k : ℕ) (bytes : List ℕ) (ps : List Part) → k ≤ length bytes → chunks_from k bytes ≡ Ok ps → length ps + k ≤ length bytes
unfolding chunks_from
few_from zero [] ps few e = omega (arith, ap length (ok_is [] ps e))
few_from (suc k) [] ps few e = absurd (omega arith)
few_from (suc k) (byte ∷ rest) ps few e = omega (arith, few_from k rest ps (omega arith) e)
few_from zero (byte ∷ rest) ps few e =
    let first = bind_ok (read_chunk (byte ∷ rest)) (λ x. chunks_from (length rest - length x.1) rest >>= λ more. Ok (x.0 ∷ more)) ps e in
    let later = bind_ok (chunks_from (length rest - length first.0.1) rest) (λ more. Ok (first.0.0 ∷ more)) ps first.2 in
    let shorter : length first.0.1 < length (byte ∷ rest) = ends_shorter _ _ (chunk_ends (byte ∷ rest) first.0 first.1) in
    omega (
      arith,
      ap length (ok_is (first.0.0 ∷ later.0) ps later.2),
      few_from (length rest - length first.0.1) rest later.0 (omega arith) later.1,
    )

pub chunks_few : (bytes : List ℕ) → length (chunks_of bytes) ≤ length bytes
chunks_few bytes = by_read (chunks bytes) refl
  where
    by_read : (r : Read (List Part)) → chunks bytes ≡ r → length (parts_read r) ≤ length bytes
    by_read (Ok ps) is = omega (arith, few_from 0 bytes ps (omega arith) is)
    by_read (Err s) is = omega arith

-- ---- tracks

listed_few : (body : List ℕ) → length (pairs_read (entries None body)) ≤ length body
listed_few body = by_read (entries None body) refl
  where
    by_read : (r : Read (List Pair)) → entries None body ≡ r → length (pairs_read r) ≤ length body
    by_read (Ok es) is = entries_few None body es is
    by_read (Err s) is = omega arith

-- a track in front of other chunks has no more entries than bytes
pub first_few : (p : Part) (ps : List Part) →
    length (pairs_read (entries None p.body)) + length (joined_parts ps) ≤ length (joined_parts (p ∷ ps))
first_few p ps =
    omega (arith, length-append (p.head ++ p.body) (joined_parts ps), length-append p.head p.body, listed_few p.body)

-- a track has no more entries than the chunks have bytes
pub track_few : (ps : List Part) (k : ℕ) (es : List Pair) → slice_get (tracks ps) k ≡ Some es → length es ≤ length (joined_parts ps)
track_few [] k es is = absurd cc
track_few (p ∷ ps) k es is = by_kind (is_track p) refl (λ j. track_few ps j es)
  where
    whole : length (joined_parts (p ∷ ps)) ≡ length p.head + length p.body + length (joined_parts ps)
    whole = omega (arith, length-append (p.head ++ p.body) (joined_parts ps), length-append p.head p.body)

    by_number : (k : ℕ) → ((j : ℕ) → slice_get (tracks ps) j ≡ Some es → length es ≤ length (joined_parts ps)) →
        slice_get (pairs_read (entries None p.body) ∷ tracks ps) k ≡ Some es → length es ≤ length (joined_parts (p ∷ ps))
    by_number zero later same =
        let first : pairs_read (entries None p.body) ≡ es = cc in omega (arith, whole, listed_few p.body, ap length first)
    by_number (suc k) later same = omega (arith, whole, later k same)

    by_kind : (b : Bool) → is_track p ≡ b → ((j : ℕ) → slice_get (tracks ps) j ≡ Some es → length es ≤ length (joined_parts ps)) →
        length es ≤ length (joined_parts (p ∷ ps))
    by_kind true flag later = by_number k later (rw flag at is)
    by_kind false flag later = omega (arith, whole, later k (rw flag at is))

-- ---- a file that is kept

pub kept_small : (rest bytes : List ℕ) (c : Contents) → IsKept rest bytes c → length (bytes_of c) ≤ MAX_FILE
kept_small rest bytes c kept = omega (arith, kept.small, ap length (file_joined bytes c kept.is_read))
