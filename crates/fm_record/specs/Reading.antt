-- How one step is read from the front of a list of bytes.
use Rattle.std.specs.Prelude.{ℕ, ◌+◌, ◌*◌, List, length, if◌then◌else◌, nat_eq, nat_lt, Option, Some, None, slice_index_or}
use Rattle.std.specs.Option.{option_map}
use Rattle.fm_core.specs.declared.step.Step.{Step}
use Rattle.fm_core.specs.declared.step.Step.TheVariants.{Look, Claim, Start, Record, Recall, Give, Publish, Pace, Release}

-- the byte at a position
abbrev pub byte_at : List ℕ → ℕ → ℕ
byte_at bytes i = slice_index_or bytes i 0

-- the number in the two bytes from a position on
abbrev pub two_at : List ℕ → ℕ → ℕ
two_at bytes i = byte_at bytes i * 256 + byte_at bytes (i + 1)

-- the number in the four bytes from a position on
abbrev pub four_at : List ℕ → ℕ → ℕ
four_at bytes i = two_at bytes i * 65536 + two_at bytes (i + 2)

-- the number in the six bytes from a position on
abbrev pub six_at : List ℕ → ℕ → ℕ
six_at bytes i = two_at bytes i * 4294967296 + four_at bytes (i + 2)

-- how many bytes a step of this kind has; 0 of no kind
abbrev pub size_of : ℕ → ℕ
size_of kind =
    if nat_eq kind 0 then 0
    else if nat_lt kind 6 then 4
    else if nat_eq kind 6 then 14
    else if nat_eq kind 7 then 1
    else if nat_eq kind 8 then 2
    else if nat_eq kind 9 then 5
    else 0

-- the step that whole fields make; none of no kind, or where an answer is neither 0 nor 1
abbrev pub made : List ℕ → Option Step
made bs =
    if nat_eq (byte_at bs 0) 1 then Some (Look (byte_at bs 1) (two_at bs 2))
    else if nat_eq (byte_at bs 0) 2 then Some (Claim (byte_at bs 1) (two_at bs 2))
    else if nat_eq (byte_at bs 0) 3 then Some (Start (byte_at bs 1) (two_at bs 2))
    else if nat_eq (byte_at bs 0) 4 then Some (Record (byte_at bs 1) (two_at bs 2))
    else if nat_eq (byte_at bs 0) 5 then Some (Recall (byte_at bs 1) (two_at bs 2))
    else if nat_eq (byte_at bs 0) 6 then
    (if nat_lt (byte_at bs 13) 2 then
    Some (Give (byte_at bs 1) (two_at bs 2) (byte_at bs 4) (two_at bs 5) (six_at bs 7) (nat_eq (byte_at bs 13) 1))
    else None)
    else if nat_eq (byte_at bs 0) 7 then Some Publish
    else if nat_eq (byte_at bs 0) 8 then Some (Pace (byte_at bs 1))
    else if nat_eq (byte_at bs 0) 9 then Some (Release (four_at bs 1))
    else None

-- the step that the bytes begin with, and how many bytes it has
abbrev pub read : List ℕ → Option (Step × ℕ)
read bs =
    if nat_lt (length bs) (size_of (byte_at bs 0)) then None
    else option_map (λ s. (s, size_of (byte_at bs 0))) (made bs)
