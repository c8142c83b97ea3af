-- What a file keeps of the bytes behind its header.
use Rattle.std.specs.Prelude.{◌++◌, ◌≡◌, ℕ, ◌+◌, ◌≤◌, if◌then◌else◌, length, List, [], ◌∷◌, Ok, Err}
use Rattle.std.specs.List.{flat_map}
use Rattle.fm_read.specs.declared.limits.TheConstants.{MAX_FILE}
use Rattle.fm_read.specs.Reading.{Read}
use Rattle.fm_read.specs.Tracks.{IsRead}
use Rattle.fm_read.specs.Files.{contents, Part, Contents, chunks, is_track, header_of, behind_header, short_at, wide_at}

-- the chunks, where there is no fault
abbrev pub parts_read : Read (List Part) → List Part
parts_read (Ok ps) = ps
parts_read (Err s) = []

-- the chunks that bytes without a fault are
abbrev pub chunks_of : List ℕ → List Part
chunks_of rest = parts_read (chunks rest)

-- the file that bytes without a fault are
abbrev pub contents_of : List ℕ → Contents
contents_of bytes = record {
  head = header_of bytes;
  format = short_at 8 bytes;
  stated = short_at 10 bytes;
  division = short_at 12 bytes;
  parts = chunks_of (behind_header bytes);
}

-- there is a header of at least six bytes, whole
pub record HasHeader (bytes : List ℕ) : Type 0 where
  pub six : 6 ≤ wide_at 4 bytes
  pub whole : 8 + wide_at 4 bytes ≤ length bytes

-- the bytes are read as this file, those behind its header as its chunks, and they are within the limit
pub record IsKept (rest bytes : List ℕ) (c : Contents) : Type 0 where
  pub is_read : contents bytes ≡ Ok c
  pub there : IsRead (chunks rest)
  pub small : length bytes ≤ MAX_FILE

-- the chunks behind the first one that is a track; none where no chunk is
abbrev pub behind_track : List Part → List Part
behind_track [] = []
behind_track (p ∷ ps) = if is_track p then ps else behind_track ps

-- the bytes of chunks, one after another
abbrev pub joined_parts : List Part → List ℕ
joined_parts ps = flat_map (λ p. p.head ++ p.body) ps

-- the bytes of a whole file
abbrev pub bytes_of : Contents → List ℕ
bytes_of c = c.head ++ joined_parts c.parts
