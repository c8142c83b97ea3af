-- Reading from left to right: a quantity, an event, an entry of a track. The first fault ends it.
use Rattle.std.specs.Prelude.{◌≡◌, ℕ, ◌+◌, ◌-◌, ◌*◌, ◌%◌, Bool, ◌||◌, ◌&&◌, nat_lt, nat_le, ◌==◌, if◌then◌else◌}
use Rattle.std.specs.Prelude.{List, [], ◌∷◌, length, take, drop, Option, Some, None, Result, Ok, Err}
use Rattle.fm_read.specs.declared.fault.ReadKind.{ReadKind}
use Rattle.fm_read.specs.declared.fault.ReadKind.TheVariants.{Truncated, BadQuantity, BadStatus, BadData, NoStatus}
use Rattle.fm_read.specs.declared.fault.Stop.{Stop}

-- what a reader answers: a value, or the first fault with the number of bytes from its position on
abbrev pub Read : Type 0 → Type 0
Read A = Result A Stop

-- a fault
abbrev pub stop : {A : Type 0} → ReadKind → ℕ → Read A
stop kind left = Err (record { kind = kind; left = left })

-- the bytes end too early: the position is their end
abbrev pub cut : {A : Type 0} → Read A
cut = stop Truncated 0

infixl 10 ◌>>=◌
abbrev pub ◌>>=◌ : {A B : Type 0} → Read A → (A → Read B) → Read B
(Ok x) >>= f = f x
(Err e) >>= f = Err e

-- what a call answered, seen by `view`, is what reading gives
abbrev pub Gives : {X Y : Type 0} → (X → Y) → Result X Stop → Read Y → Type 0
Gives view (Ok x) read = read ≡ Ok (view x)
Gives view (Err e) read = read ≡ Err e

-- a quantity behind the number that its bytes so far spell, with so many bytes to come after the next one
unfoldable pub quantity_from : ℕ → ℕ → List ℕ → Read (ℕ × List ℕ)
quantity_from more before [] = cut
quantity_from more before (byte ∷ rest) =
    if nat_lt byte 128 then Ok (before * 128 + byte % 128, rest)
    else if more == 0 then stop BadQuantity (length (byte ∷ rest))
    else quantity_from (more - 1) (before * 128 + byte % 128) rest

-- a quantity of at most four bytes, which need not be the shortest, and what follows it
unfoldable pub read_quantity : List ℕ → Read (ℕ × List ℕ)
read_quantity bytes = quantity_from 3 0 bytes

-- what follows a data byte, or the type of a meta event
unfoldable pub past_data : List ℕ → Read (List ℕ)
past_data [] = cut
past_data (byte ∷ rest) = if nat_lt byte 128 then Ok rest else stop BadData (length (byte ∷ rest))

-- whether a channel message has one data byte: a program and a channel's pressure
abbrev pub has_one : ℕ → Bool
has_one status = nat_le 192 status && nat_lt status 224

-- what follows the data bytes of a channel message, which are two where they are not one
unfoldable pub past_message : ℕ → List ℕ → Read (List ℕ)
past_message status bytes = past_data bytes >>= λ rest. if has_one status then Ok rest else past_data rest

-- what follows a length and as many bytes
unfoldable pub past_text : List ℕ → Read (List ℕ)
past_text bytes =
    read_quantity bytes >>= λ n. if nat_lt (length n.1) n.0 then cut else Ok (drop n.0 n.1)

-- what follows a type, a length and as many bytes
unfoldable pub past_meta : List ℕ → Read (List ℕ)
past_meta bytes = past_data bytes >>= λ rest. past_text rest

-- a channel message of a status in force
unfoldable pub read_channel : Option ℕ → List ℕ → Read (ℕ × List ℕ)
read_channel None bytes = stop NoStatus (length bytes)
read_channel (Some status) bytes = past_message status bytes >>= λ rest. Ok (status, rest)

-- an event's status and what follows the event, where this status is in force before it
unfoldable pub read_event : Option ℕ → List ℕ → Read (ℕ × List ℕ)
read_event running [] = cut
read_event running (byte ∷ rest) =
    if nat_lt byte 128 then read_channel running (byte ∷ rest)
    else if nat_lt byte 240 then read_channel (Some byte) rest
    else if byte == 255 then (past_meta rest >>= λ after. Ok (byte, after))
    else if (byte == 240) || (byte == 247) then (past_text rest >>= λ after. Ok (byte, after))
    else stop BadStatus (length (byte ∷ rest))

-- an entry of a track: its delta, its status, the delta's bytes and the event's bytes
pub record Pair : Type 0 where
  pub delta : ℕ
  pub status : ℕ
  pub lead : List ℕ
  pub bytes : List ℕ

-- the front of some bytes, up to what follows it
abbrev pub front : List ℕ → List ℕ → List ℕ
front bytes rest = take (length bytes - length rest) bytes

-- an entry and what follows it
unfoldable pub read_entry : Option ℕ → List ℕ → Read (Pair × List ℕ)
read_entry running bytes =
    read_quantity bytes >>= λ delta. read_event running delta.1 >>= λ event.
    Ok (
      record { delta = delta.0; status = event.0; lead = front bytes delta.1; bytes = front delta.1 event.1 },
      event.1,
    )

-- the status in force behind an event: sysex and meta events leave none
abbrev pub in_force : ℕ → Option ℕ
in_force status = if nat_lt status 240 then Some status else None
