-- The faults of a track in the format's own words, apart from any reader: what stands at the position of each.
use Rattle.std.specs.Prelude.{◌≡◌, ◌≢◌, ◌⊎◌, ℕ, ◌<◌, ◌≤◌, false, List, [], ◌∷◌, ◌++◌, length, Option, Some, None}
use Rattle.fm_read.specs.declared.fault.ReadKind.{ReadKind}
use Rattle.fm_read.specs.declared.fault.ReadKind.TheVariants.{Truncated, BadQuantity, BadStatus, BadData, NoStatus, NoEnd, AfterEnd}
use Rattle.fm_read.specs.declared.fault.Stop.{Stop}
use Rattle.fm_read.specs.Reading.{Pair, in_force}
use Rattle.fm_read.specs.Tracks.{ends_track, joined_entries}
use Rattle.fm_read.specs.Form.{Spells, AreData, data_count, IsEntry, IsTrack}

-- behind these bytes of an entry a quantity is due: the delta time, or the length of a sysex or meta event
pub data QuantityDue (before : List ℕ) : Type 0 where
  at_delta : before ≡ [] → QuantityDue before
  behind_sysex : (lead : List ℕ) (delta status : ℕ) → before ≡ lead ++ status ∷ [] → Spells lead delta →
      (status ≡ 240) ⊎ (status ≡ 247) → QuantityDue before
  behind_type : (lead : List ℕ) (delta kind : ℕ) → before ≡ lead ++ 255 ∷ kind ∷ [] → Spells lead delta → kind < 128 →
      QuantityDue before

-- behind these bytes of an entry a data byte is due, where this status is in force: of a channel message with its
-- status byte, or of one without that has a data byte already; or the type of a meta event
pub data DataDue (running : Option ℕ) (before : List ℕ) : Type 0 where
  behind_status : (lead given : List ℕ) (delta status : ℕ) → before ≡ lead ++ status ∷ given → Spells lead delta →
      128 ≤ status → status < 240 → AreData given → length given < data_count status → DataDue running before
  behind_data : (lead given : List ℕ) (delta status first : ℕ) → before ≡ lead ++ first ∷ given → Spells lead delta →
      running ≡ Some status → AreData (first ∷ given) → length (first ∷ given) < data_count status →
      DataDue running before
  behind_meta : (lead : List ℕ) (delta : ℕ) → before ≡ lead ++ 255 ∷ [] → Spells lead delta → DataDue running before

-- this byte can't stand behind these bytes of an entry, and is a fault of this kind: bit 7 in the fourth byte of a
-- quantity; bit 7 in a data byte or a type; behind a delta time, a byte that begins no event, and a data byte where no
-- status is in force
pub data BadByte (running : Option ℕ) (before : List ℕ) (byte : ℕ) (kind : ReadKind) : Type 0 where
  fourth : (due : List ℕ) (a b d : ℕ) → before ≡ due ++ a ∷ b ∷ d ∷ [] → QuantityDue due → 128 ≤ a → 128 ≤ b → 128 ≤ d →
      128 ≤ byte → kind ≡ BadQuantity → BadByte running before byte kind
  datum : DataDue running before → 128 ≤ byte → kind ≡ BadData → BadByte running before byte kind
  status : (delta : ℕ) → Spells before delta → 240 ≤ byte → byte ≢ 240 → byte ≢ 247 → byte ≢ 255 → kind ≡ BadStatus →
      BadByte running before byte kind
  no_status : (delta : ℕ) → Spells before delta → byte < 128 → running ≡ None → kind ≡ NoStatus →
      BadByte running before byte kind

-- the position is the end of the bytes, and they end too early
abbrev pub cut_stop : Stop
cut_stop = record { kind = Truncated; left = 0 }

-- bytes do not begin with an entry, and this is why: with some bytes more they would be one, or one of them is bad
pub data NoEntry (running : Option ℕ) (bytes : List ℕ) (s : Stop) : Type 0 where
  cut_off : (more : List ℕ) (e : Pair) → 0 < length more → IsEntry running e → bytes ++ more ≡ e.lead ++ e.bytes →
      s ≡ cut_stop →
      NoEntry running bytes s
  bad : (before rest : List ℕ) (byte : ℕ) → bytes ≡ before ++ byte ∷ rest → BadByte running before byte s.kind →
      s.left ≡ length (byte ∷ rest) → NoEntry running bytes s

-- entries of which none is End of Track
abbrev pub AreEntries : Option ℕ → List Pair → Type 0
AreEntries running [] = Unit {0}
AreEntries running (e ∷ es) = IsEntry running e × (ends_track e.bytes ≡ false) × AreEntries (in_force e.status) es

-- the status in force behind entries
abbrev pub force_after : Option ℕ → List Pair → Option ℕ
force_after running [] = running
force_after running (e ∷ es) = force_after (in_force e.status) es

-- bytes are no body of a track, and this is why: entries and no end; a byte behind End of Track; no entry behind
-- entries
pub data NoBody (running : Option ℕ) (body : List ℕ) (s : Stop) : Type 0 where
  no_end : (es : List Pair) → AreEntries running es → body ≡ joined_entries es → s ≡ record { kind = NoEnd; left = 0 } →
      NoBody running body s
  after_end : (es : List Pair) (rest : List ℕ) → IsTrack running es → 0 < length rest →
      body ≡ joined_entries es ++ rest →
      s ≡ record { kind = AfterEnd; left = length rest } → NoBody running body s
  no_entry : (es : List Pair) (rest : List ℕ) → AreEntries running es → 0 < length rest →
      body ≡ joined_entries es ++ rest →
      NoEntry (force_after running es) rest s → NoBody running body s
