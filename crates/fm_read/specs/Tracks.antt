-- A track: entries one after another, of which End of Track is the last.
use Rattle.std.specs.Prelude.{ℕ, zero, suc, ◌-◌, Bool, false, ◌&&◌, ◌==◌, if◌then◌else◌, List, [], ◌∷◌, ◌++◌, length, Option, Ok, Err}
use Rattle.std.specs.List.{flat_map}
use Rattle.fm_read.specs.declared.fault.ReadKind.TheVariants.{NoEnd, AfterEnd}
use Rattle.fm_read.specs.declared.entry.Entry.{Entry}
use Rattle.fm_read.specs.Reading.{Read, stop, ◌>>=◌, Pair, read_entry, in_force}

-- an entry of the code as plain data
abbrev pub as_pair : Entry → Pair
as_pair e = record { delta = e.delta; status = e.status; lead = e.lead.now; bytes = e.bytes.now }

-- whether an event is End of Track
abbrev pub ends_track : List ℕ → Bool
ends_track [] = false
ends_track (status ∷ []) = false
ends_track (status ∷ kind ∷ more) = (status == 255) && (kind == 47)

-- what is read behind an entry: nothing behind End of Track, else the entries to come
abbrev pub then_entries : Pair → List ℕ → Read (List Pair) → Read (List Pair)
then_entries e rest more =
    if ends_track e.bytes then (if length rest == 0 then Ok (e ∷ []) else stop AfterEnd (length rest))
    else more >>= λ es. Ok (e ∷ es)

-- the entries of a track's body, of which so many bytes belong to an entry that is read already
unfoldable pub entries_from : ℕ → Option ℕ → List ℕ → Read (List Pair)
entries_from covered running [] = stop NoEnd 0
entries_from (suc k) running (byte ∷ rest) = entries_from k running rest
entries_from zero running (byte ∷ rest) =
    read_entry running (byte ∷ rest) >>= λ x.
    then_entries x.0 x.1 (entries_from (length rest - length x.1) (in_force x.0.status) rest)

-- the entries of a track's body, where this status is in force
abbrev pub entries : Option ℕ → List ℕ → Read (List Pair)
entries running body = entries_from 0 running body

-- the entries that are still to come: none behind End of Track
unfoldable pub entries_left : Option ℕ → List ℕ → Read (List Pair)
entries_left running [] = Ok []
entries_left running (byte ∷ rest) = entries running (byte ∷ rest)

-- whether there are entries, or the fault
abbrev pub judged : Read (List Pair) → Read (Unit {0})
judged (Ok es) = Ok tt
judged (Err s) = Err s

-- there is no fault
abbrev pub IsRead : {A : Type 0} → Read A → Type 0
IsRead (Ok x) = Unit {0}
IsRead (Err s) = ⊥

-- the entries, where there is no fault
abbrev pub pairs_read : Read (List Pair) → List Pair
pairs_read (Ok es) = es
pairs_read (Err s) = []

-- the bytes of entries, one after another
abbrev pub joined_entries : List Pair → List ℕ
joined_entries es = flat_map (λ e. e.lead ++ e.bytes) es
