-- A whole file: its header and its chunks. The first fault has the least position.
use Rattle.std.specs.Prelude.{ℕ, zero, suc, ◌+◌, ◌-◌, Bool, true, false, not, ◌&&◌, ◌||◌, nat_lt, nat_le, ◌==◌, if◌then◌else◌}
use Rattle.std.specs.Prelude.{List, [], ◌∷◌, codes, length, take, drop, Option, Some, None, Ok, Err}
use Rattle.std.specs.Int.{w32, w16, from_be_bytes}
use Rattle.std.specs.Str.{bytes_eq}
use Rattle.fm_read.specs.declared.fault.ReadKind.{ReadKind}
use Rattle.fm_read.specs.declared.fault.ReadKind.TheVariants.{Wrapped, NotMidi, Truncated, ShortHeader, FormatTwo, BadFormat, Smpte, NoTrack}
use Rattle.fm_read.specs.declared.fault.Stop.{Stop}
use Rattle.fm_read.specs.Reading.{Read, stop, cut, ◌>>=◌, Pair}
use Rattle.fm_read.specs.Tracks.{entries, pairs_read}

-- a chunk: its kind and its length, and its body
pub record Part : Type 0 where
  pub head : List ℕ
  pub body : List ℕ

-- the number that four bytes spell, the most significant first, so many bytes from the front
abbrev pub wide_at : ℕ → List ℕ → ℕ
wide_at at bytes = from_be_bytes w32 (take 4 (drop at bytes))

-- the number that two bytes spell
abbrev pub short_at : ℕ → List ℕ → ℕ
short_at at bytes = from_be_bytes w16 (take 2 (drop at bytes))

-- whether the bytes begin with these four
abbrev pub has_kind : List ℕ → List ℕ → Bool
has_kind kind bytes = nat_le 4 (length bytes) && bytes_eq (take 4 bytes) kind

-- the fault of a track's body, behind which so many bytes follow; of one that is cut, a fault in it or that it is cut
abbrev pub body_from : Bool → ℕ → Read (List Pair) → Read (Unit {0})
body_from false behind (Ok es) = Ok tt
body_from false behind (Err s) = stop s.kind (s.left + behind)
body_from true behind (Ok es) = cut
body_from true behind (Err s) = if s.left == 0 then cut else Err s

-- the fault of a chunk's body, which is a track's or not, and is cut or not
unfoldable pub chunk_fault : Bool → Bool → List ℕ → ℕ → Read (Unit {0})
chunk_fault true is_cut body behind = body_from is_cut behind (entries None body)
chunk_fault false true body behind = cut
chunk_fault false false body behind = Ok tt

-- the body of a chunk, as far as it is there
abbrev pub held : List ℕ → List ℕ
held bytes = take (wide_at 4 bytes) (drop 8 bytes)

-- what follows a chunk
abbrev pub past_chunk : List ℕ → List ℕ
past_chunk bytes = drop (wide_at 4 bytes) (drop 8 bytes)

-- whether a chunk passes the end
abbrev pub passes : List ℕ → Bool
passes bytes = nat_lt (length (drop 8 bytes)) (wide_at 4 bytes)

-- a chunk whose body was judged, and what follows it
abbrev pub chunk_of : List ℕ → List ℕ → List ℕ → Read (Unit {0}) → Read (Part × List ℕ)
chunk_of head body rest (Ok u) = Ok (record { head = head; body = body }, rest)
chunk_of head body rest (Err s) = Err s

-- a chunk and what follows it
unfoldable pub read_chunk : List ℕ → Read (Part × List ℕ)
read_chunk bytes =
    if nat_lt (length bytes) 8 then cut
    else chunk_of (take 8 bytes) (held bytes) (past_chunk bytes)
    (chunk_fault (has_kind (codes "MTrk") bytes) (passes bytes) (held bytes) (length (past_chunk bytes)))

-- the chunks of some bytes, of which so many belong to a chunk that is read already
unfoldable pub chunks_from : ℕ → List ℕ → Read (List Part)
chunks_from covered [] = Ok []
chunks_from (suc k) (byte ∷ rest) = chunks_from k rest
chunks_from zero (byte ∷ rest) =
    read_chunk (byte ∷ rest) >>= λ x. chunks_from (length rest - length x.1) rest >>= λ more. Ok (x.0 ∷ more)

-- the chunks of some bytes
abbrev pub chunks : List ℕ → Read (List Part)
chunks bytes = chunks_from 0 bytes

-- a file's three numbers, its header chunk, and its other chunks
pub record Contents : Type 0 where
  pub head : List ℕ
  pub format : ℕ
  pub stated : ℕ
  pub division : ℕ
  pub parts : List Part

-- whether a chunk is a track
abbrev pub is_track : Part → Bool
is_track p = has_kind (codes "MTrk") p.head

-- whether a chunk is
abbrev pub any_track : List Part → Bool
any_track [] = false
any_track (p ∷ ps) = is_track p || any_track ps

-- the tracks among the chunks, entry by entry
abbrev pub tracks : List Part → List (List Pair)
tracks [] = []
tracks (p ∷ ps) = if is_track p then pairs_read (entries None p.body) ∷ tracks ps else tracks ps

-- whether there is a track, or the fault of the chunks
abbrev pub tracked : Read (List Part) → Read Bool
tracked (Ok ps) = Ok (any_track ps)
tracked (Err s) = Err s

-- the faults of a header chunk in the order of their positions: a field counts where all its bytes are there
abbrev pub header_fault : List ℕ → Option Stop
header_fault bytes =
    if has_kind (codes "RIFF") bytes then Some (record { kind = Wrapped; left = length bytes })
    else if not (has_kind (codes "MThd") bytes) then Some (record { kind = NotMidi; left = length bytes })
    else if nat_lt (length bytes) 8 then Some (record { kind = Truncated; left = 0 })
    else if nat_lt (wide_at 4 bytes) 6 then Some (record { kind = ShortHeader; left = length bytes - 4 })
    else if nat_le 10 (length bytes) && (short_at 8 bytes == 2) then Some
    (record { kind = FormatTwo; left = length bytes - 8 })
    else if nat_le 10 (length bytes) && nat_lt 2 (short_at 8 bytes) then Some
    (record { kind = BadFormat; left = length bytes - 8 })
    else if nat_le 14 (length bytes) && nat_le 32768 (short_at 12 bytes) then Some
    (record { kind = Smpte; left = length bytes - 12 })
    else if nat_lt (length bytes) (8 + wide_at 4 bytes) then Some (record { kind = Truncated; left = 0 })
    else None

-- the chunks behind the header, of which one is a track
abbrev pub body_chunks : List ℕ → Read (List Part)
body_chunks rest = chunks rest >>= λ parts. if any_track parts then Ok parts else stop NoTrack 0

-- the fault of the header, or what is read behind it
abbrev pub or_fault : {A : Type 0} → Option Stop → Read A → Read A
or_fault (Some s) read = Err s
or_fault None read = read

-- the header chunk's bytes
abbrev pub header_of : List ℕ → List ℕ
header_of bytes = take (8 + wide_at 4 bytes) bytes

-- what follows the header chunk
abbrev pub behind_header : List ℕ → List ℕ
behind_header bytes = drop (8 + wide_at 4 bytes) bytes

-- the file that the bytes are, or its first fault
unfoldable pub contents : List ℕ → Read Contents
contents bytes =
    or_fault (header_fault bytes) (body_chunks (behind_header bytes) >>= λ parts. Ok (record {
      head = header_of bytes;
      format = short_at 8 bytes;
      stated = short_at 10 bytes;
      division = short_at 12 bytes;
      parts = parts;
    }))

-- the position of a fault in a file
abbrev pub position : List ℕ → Read Contents → Option (ReadKind × ℕ)
position bytes (Ok c) = None
position bytes (Err s) = Some (s.kind, length bytes - s.left)
