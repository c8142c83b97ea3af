-- What a file keeps has the form of a file, and so does each of its chunks.
use Rattle.std.proofs.Common.{◌≡◌, ℕ, ◌<◌, ◌≤◌, Bool, true, false, ◌||◌, List, [], ◌∷◌, length, take, Ok, Err, refl, sym, subst, arith, le-ltb}
use Rattle.fm_read.specs.Reading.{Read}
use Rattle.fm_read.specs.Tracks.{IsRead}
use Rattle.fm_read.specs.Files.{Part, Contents, chunks, read_chunk, held, past_chunk, is_track, any_track, tracks}
use Rattle.fm_read.specs.FileForm.{IsChunk, IsFile}
use Rattle.fm_read.specs.Kept.{IsKept, chunks_of, parts_read, joined_parts, behind_track}
use Rattle.fm_read.proofs.ChunkLemmas.{chunk_is, chunks_stop, chunks_joined}
use Rattle.fm_read.proofs.FileFormTook.{chunk_took, file_took}

-- ---- a file

pub kept_file : (rest bytes : List ℕ) (c : Contents) → IsKept rest bytes c → IsFile c
kept_file rest bytes c kept = file_took bytes c kept.is_read

-- a header has its eight bytes and at least six more
pub head_long : (c : Contents) → IsFile c → 14 ≤ length c.head
head_long c file = omega (arith, file.header.whole, file.header.six)

-- where some chunk is a track, there are tracks
pub some_tracks : (ps : List Part) → any_track ps ≡ true → 0 < length (tracks ps)
some_tracks [] any = absurd cc
some_tracks (p ∷ ps) any = by_kind (λ more. some_tracks ps more) (is_track p) refl any
  where
    by_kind : (any_track ps ≡ true → 0 < length (tracks ps)) → (b : Bool) → is_track p ≡ b → (b || any_track ps) ≡ true →
        0 < length (tracks (p ∷ ps))
    by_kind later true is same = rw is (omega arith)
    by_kind later false is same = rw is (later same)

-- bytes without a fault are read as their chunks
pub rest_read : (rest : List ℕ) → IsRead (chunks rest) → chunks rest ≡ Ok (chunks_of rest)
rest_read rest fine = by_read (chunks rest) refl fine
  where
    by_read : (r : Read (List Part)) → chunks rest ≡ r → IsRead r → chunks rest ≡ Ok (parts_read (chunks rest))
    by_read (Ok ps) is there = rw is refl
    by_read (Err s) is there = absurd there

-- and are these, joined
pub rest_joined : (rest : List ℕ) → IsRead (chunks rest) → rest ≡ joined_parts (chunks_of rest)
rest_joined rest fine = sym (chunks_joined rest (chunks_of rest) (rest_read rest fine))

-- ---- a chunk

-- the chunk at the front has the form of one
pub next_chunk : (bytes : List ℕ) → 8 ≤ length bytes → IsRead (chunks bytes) →
    IsChunk (record { head = take 8 bytes; body = held bytes })
unfolding read_chunk
next_chunk bytes long fine = by_read (read_chunk bytes) refl
  where
    by_read : (r : Read (Part × List ℕ)) → read_chunk bytes ≡ r → IsChunk (record { head = take 8 bytes; body = held bytes })
    by_read (Err s) is = absurd (subst IsRead (chunks_stop bytes s is (omega arith)) fine)
    by_read (Ok x) is =
        let parts = chunk_is (take 8 bytes) (held bytes) (past_chunk bytes) _ x (rw (le-ltb (length bytes) 8 long) at is) in
        subst IsChunk (sym parts.0) (chunk_took bytes x is)

-- a chunk that is a track, and one that is none
pub behind_this : (p : Part) (ps : List Part) → is_track p ≡ true → behind_track (p ∷ ps) ≡ ps
behind_this p ps is = rw is refl

pub behind_other : (p : Part) (ps : List Part) → is_track p ≡ false → behind_track (p ∷ ps) ≡ behind_track ps
behind_other p ps is = rw is refl
