-- The form of a track in the format's own words, apart from any reader: quantities, events, entries.
use Rattle.std.specs.Prelude.{◌≡◌, ◌⊎◌, ℕ, ◌<◌, ◌≤◌, true, false, if◌then◌else◌, List, [], ◌∷◌, ◌++◌, length, Option, Some}
use Rattle.fm_smf.specs.VariableLength.{spelt_after}
use Rattle.fm_read.specs.Reading.{Pair, has_one, in_force}
use Rattle.fm_read.specs.Tracks.{ends_track}

-- bit 7 is set on every byte but the last
abbrev pub EndsLast : List ℕ → Type 0
EndsLast [] = ⊥
EndsLast (byte ∷ []) = byte < 128
EndsLast (byte ∷ next ∷ bytes) = (128 ≤ byte) × EndsLast (next ∷ bytes)

-- a variable-length quantity of this value: at most four bytes, which need not be the fewest
pub record Spells (bytes : List ℕ) (value : ℕ) : Type 0 where
  pub form : EndsLast bytes
  pub few : length bytes ≤ 4
  pub is : spelt_after 0 bytes ≡ value

-- how many data bytes a channel message has: one of a program change and of a channel's pressure, else two
abbrev pub data_count : ℕ → ℕ
data_count status = if has_one status then 1 else 2

-- bit 7 is set on none of these bytes
abbrev pub AreData : List ℕ → Type 0
AreData [] = Unit {0}
AreData (byte ∷ bytes) = (byte < 128) × AreData bytes

-- the data bytes of a channel message of this status
pub record IsMessage (status : ℕ) (bytes : List ℕ) : Type 0 where
  pub count : length bytes ≡ data_count status
  pub below : AreData bytes

-- a length, and as many bytes
pub record IsText (bytes : List ℕ) : Type 0 where
  pub count : List ℕ
  pub text : List ℕ
  pub parts : bytes ≡ count ++ text
  pub spells : Spells count (length text)

-- the bytes of an event of this status, where another may be in force before it: a channel message with its status
-- byte; the data bytes of one whose status is in force; F0 or F7, and a text; FF, a type, and a text
pub data IsEvent (running : Option ℕ) (status : ℕ) (bytes : List ℕ) : Type 0 where
  own : (given : List ℕ) → bytes ≡ status ∷ given → 128 ≤ status → status < 240 → IsMessage status given →
      IsEvent running status bytes
  again : running ≡ Some status → IsMessage status bytes → IsEvent running status bytes
  sysex : (text : List ℕ) → bytes ≡ status ∷ text → (status ≡ 240) ⊎ (status ≡ 247) → IsText text →
      IsEvent running status bytes
  meta : (kind : ℕ) (text : List ℕ) → bytes ≡ 255 ∷ kind ∷ text → status ≡ 255 → kind < 128 → IsText text →
      IsEvent running status bytes

-- a delta time and an event
pub record IsEntry (running : Option ℕ) (e : Pair) : Type 0 where
  pub delta : Spells e.lead e.delta
  pub event : IsEvent running e.status e.bytes

-- the entries of a track: the last one, and only the last one, is End of Track
abbrev pub IsTrack : Option ℕ → List Pair → Type 0
IsTrack running [] = ⊥
IsTrack running (e ∷ []) = IsEntry running e × (ends_track e.bytes ≡ true)
IsTrack running (e ∷ next ∷ es) = IsEntry running e × (ends_track e.bytes ≡ false) × IsTrack (in_force e.status)
    (next ∷ es)
