-- The form of a file in the format's own words, apart from any reader: its header, and chunks of which one is a track.
use Rattle.std.specs.Prelude.{◌≡◌, ℕ, ◌+◌, ◌<◌, ◌≤◌, true, codes, List, [], ◌∷◌, length, None}
use Rattle.fm_read.specs.Reading.{Pair}
use Rattle.fm_read.specs.Tracks.{joined_entries}
use Rattle.fm_read.specs.Form.{IsTrack}
use Rattle.fm_read.specs.Files.{Part, Contents, wide_at, short_at, has_kind, is_track, any_track}

-- the body of a track: the bytes of its entries; no status is in force where it begins
pub record IsBody (body : List ℕ) : Type 0 where
  pub entries : List Pair
  pub form : IsTrack None entries
  pub parts : joined_entries entries ≡ body

-- a chunk: its kind and its length in eight bytes, and as many bytes as the length says
pub record IsChunk (p : Part) : Type 0 where
  pub head : length p.head ≡ 8
  pub body : length p.body ≡ wide_at 4 p.head
  pub track : is_track p ≡ true → IsBody p.body

-- each of them is a chunk
abbrev pub AreChunks : List Part → Type 0
AreChunks [] = Unit {0}
AreChunks (p ∷ ps) = IsChunk p × AreChunks ps

-- a header chunk of at least six bytes, of format 0 or 1, with a division in ticks of a quarter note
pub record IsHeader (c : Contents) : Type 0 where
  pub kind : has_kind (codes "MThd") c.head ≡ true
  pub six : 6 ≤ wide_at 4 c.head
  pub whole : length c.head ≡ 8 + wide_at 4 c.head
  pub format : c.format ≡ short_at 8 c.head
  pub stated : c.stated ≡ short_at 10 c.head
  pub division : c.division ≡ short_at 12 c.head
  pub known : c.format < 2
  pub ticks : c.division < 32768

-- a file
pub record IsFile (c : Contents) : Type 0 where
  pub header : IsHeader c
  pub chunks : AreChunks c.parts
  pub some : any_track c.parts ≡ true
