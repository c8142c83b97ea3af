-- What stands in a record before its steps, and which of its fields is the first that cannot stand.
use Rattle.std.specs.Prelude.{◌≡◌, ℕ, ◌+◌, ◌≤◌, List, ◌∷◌, ◌++◌, length, Bool, not, ◌&&◌, ◌||◌, if◌then◌else◌, nat_eq, nat_lt, Option, Some, None}
use Rattle.fm_buffer.specs.declared.outbox.TheConstants.{MAX_ROOM}
use Rattle.fm_core.specs.declared.limits.TheConstants.{MAX_LEAD, MAX_SEATS}
use Rattle.fm_lex.specs.declared.lexer.TheConstants.{MAX_TEXT}
use Rattle.fm_record.specs.declared.limits.TheConstants.{MAX_RECORD}
use Rattle.fm_record.specs.Reading.{byte_at, four_at}
use Rattle.fm_record.specs.StepBytes.{four}

-- the limits of seats, room, lead and the text of the score
pub record IsHead (seats room lead : ℕ) (text : List ℕ) : Type 0 where
  pub some_seats : 1 ≤ seats
  pub few_seats : seats ≤ MAX_SEATS
  pub some_room : 1 ≤ room
  pub small_room : room ≤ MAX_ROOM
  pub short_lead : lead ≤ MAX_LEAD
  pub short_text : length text ≤ MAX_TEXT

-- `FMR1`, seats and room in one byte each, the lead in four, the text's length in four, and the text
abbrev pub head_bytes : ℕ → ℕ → ℕ → List ℕ → List ℕ
head_bytes seats room lead text =
    70 ∷ 77 ∷ 82 ∷ 49 ∷ seats ∷ room ∷ four lead ++ four (length text) ++ text

-- the bytes begin with `FMR1`
abbrev pub has_magic : List ℕ → Bool
has_magic bytes =
    nat_eq (byte_at bytes 0) 70
    && (nat_eq (byte_at bytes 1) 77 && (nat_eq (byte_at bytes 2) 82 && nat_eq (byte_at bytes 3) 49))

-- the position of the first field that is not whole or passes its limits; a byte that is not there is read as 0
abbrev pub bad_field : List ℕ → Option ℕ
bad_field bytes =
    if not (has_magic bytes) then Some 0
    else if nat_eq (byte_at bytes 4) 0 || nat_lt MAX_SEATS (byte_at bytes 4) then Some 4
    else if nat_eq (byte_at bytes 5) 0 || nat_lt MAX_ROOM (byte_at bytes 5) then Some 5
    else if nat_lt (length bytes) 10 || nat_lt MAX_LEAD (four_at bytes 6) then Some 6
    else if
    nat_lt (length bytes) 14 || (nat_lt MAX_TEXT (four_at bytes 10) || nat_lt (length bytes) (14 + four_at bytes 10))
    then Some 10
    else None

-- bytes that a record begins with, before its steps
pub record AreHead (bytes : List ℕ) : Type 0 where
  pub seats : ℕ
  pub room : ℕ
  pub lead : ℕ
  pub text : List ℕ
  pub limits : IsHead seats room lead text
  pub same : bytes ≡ head_bytes seats room lead text

-- the parts of a record that is read
pub record AreParts (seats room lead : ℕ) (text steps : List ℕ) : Type 0 where
  pub head : IsHead seats room lead text
  pub short : length steps ≤ MAX_RECORD
