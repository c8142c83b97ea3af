-- The faults of a file in the format's own words, apart from any reader: what stands at the position of each.
use Rattle.std.specs.Prelude.{◌≡◌, ℕ, ◌+◌, ◌-◌, ◌<◌, ◌≤◌, true, false, codes, List, [], ◌++◌, length, None}
use Rattle.fm_read.specs.declared.fault.ReadKind.TheVariants.{Wrapped, NotMidi, ShortHeader, FormatTwo, BadFormat, Smpte, NoTrack}
use Rattle.fm_read.specs.declared.fault.Stop.{Stop}
use Rattle.fm_read.specs.FaultForm.{cut_stop, NoBody}
use Rattle.fm_read.specs.Files.{Part, Contents, wide_at, short_at, has_kind, any_track}
use Rattle.fm_read.specs.FileForm.{AreChunks, IsHeader}
use Rattle.fm_read.specs.Kept.{joined_parts}

-- bytes begin with no header chunk, and this is why; a number counts where all its bytes are there
pub data NoHeader (bytes : List ℕ) (s : Stop) : Type 0 where
  wrapped : has_kind (codes "RIFF") bytes ≡ true → s ≡ record { kind = Wrapped; left = length bytes } → NoHeader bytes s
  not_midi : has_kind (codes "RIFF") bytes ≡ false → has_kind (codes "MThd") bytes ≡ false →
      s ≡ record { kind = NotMidi; left = length bytes } → NoHeader bytes s
  no_length : has_kind (codes "MThd") bytes ≡ true → length bytes < 8 → s ≡ cut_stop → NoHeader bytes s
  short_header : has_kind (codes "MThd") bytes ≡ true → 8 ≤ length bytes → wide_at 4 bytes < 6 →
      s ≡ record { kind = ShortHeader; left = length bytes - 4 } → NoHeader bytes s
  format_two : has_kind (codes "MThd") bytes ≡ true → 6 ≤ wide_at 4 bytes → 10 ≤ length bytes → short_at 8 bytes ≡ 2 →
      s ≡ record { kind = FormatTwo; left = length bytes - 8 } → NoHeader bytes s
  bad_format : has_kind (codes "MThd") bytes ≡ true → 6 ≤ wide_at 4 bytes → 10 ≤ length bytes → 2 < short_at 8 bytes →
      s ≡ record { kind = BadFormat; left = length bytes - 8 } → NoHeader bytes s
  smpte : has_kind (codes "MThd") bytes ≡ true → 6 ≤ wide_at 4 bytes → 14 ≤ length bytes → short_at 8 bytes < 2 →
      32768 ≤ short_at 12 bytes → s ≡ record { kind = Smpte; left = length bytes - 12 } → NoHeader bytes s
  cut_header : has_kind (codes "MThd") bytes ≡ true → 8 ≤ length bytes → 6 ≤ wide_at 4 bytes →
      length bytes < 8 + wide_at 4 bytes → (10 ≤ length bytes → short_at 8 bytes < 2) →
      (14 ≤ length bytes → short_at 12 bytes < 32768) → s ≡ cut_stop → NoHeader bytes s

-- the first eight bytes of a chunk that passes the end, and its body as far as it is there
pub record Passing (bytes head body : List ℕ) : Type 0 where
  pub parts : bytes ≡ head ++ body
  pub eight : length head ≡ 8
  pub past : length body < wide_at 4 head

-- bytes do not begin with a chunk, and this is why: its kind and length are not there; it passes the end; it is a track
-- with a fault, or passes the end and has a fault before the end
pub data NoChunk (bytes : List ℕ) (s : Stop) : Type 0 where
  no_head : length bytes < 8 → s ≡ cut_stop → NoChunk bytes s
  past_end : (head body : List ℕ) → Passing bytes head body → has_kind (codes "MTrk") head ≡ false → s ≡ cut_stop →
      NoChunk bytes s
  passing_track : (head body : List ℕ) → Passing bytes head body → has_kind (codes "MTrk") head ≡ true →
      ((t : Stop) → NoBody None body t → t.left ≡ 0) → s ≡ cut_stop → NoChunk bytes s
  in_passing_track : (head body : List ℕ) → Passing bytes head body → has_kind (codes "MTrk") head ≡ true →
      NoBody None body s → 0 < s.left → NoChunk bytes s
  in_track : (head body rest : List ℕ) (t : Stop) → bytes ≡ (head ++ body) ++ rest → length head ≡ 8 →
      length body ≡ wide_at 4 head → has_kind (codes "MTrk") head ≡ true → NoBody None body t →
      s ≡ record { kind = t.kind; left = t.left + length rest } → NoChunk bytes s

-- a header chunk and its numbers
abbrev pub headed : List ℕ → Contents
headed head = record {
  head = head;
  format = short_at 8 head;
  stated = short_at 10 head;
  division = short_at 12 head;
  parts = [];
}

-- bytes are no file, and this is why: there is no header; no chunk behind the header and some chunks; no track
pub data NoFile (bytes : List ℕ) (s : Stop) : Type 0 where
  no_header : NoHeader bytes s → NoFile bytes s
  no_chunk : (head : List ℕ) (ps : List Part) (rest : List ℕ) → bytes ≡ head ++ (joined_parts ps ++ rest) →
      IsHeader (headed head) → AreChunks ps → 0 < length rest → NoChunk rest s → NoFile bytes s
  no_track : (head : List ℕ) (ps : List Part) → bytes ≡ head ++ joined_parts ps → IsHeader (headed head) →
      AreChunks ps →
      any_track ps ≡ false → s ≡ record { kind = NoTrack; left = 0 } → NoFile bytes s
