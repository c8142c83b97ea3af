-- How sounds stand in time, and how many there are: what is said of them before and after they come out.
use Rattle.std.specs.Prelude.{◌≡◌, ℕ, ◌+◌, ◌≤◌, List, [], ◌∷◌, Bool, if◌then◌else◌}
use Rattle.std.specs.List.{AllByRecursion}
use Rattle.fm_msg.specs.declared.msg.Msg.{Msg}
use Rattle.fm_msg.specs.Event.{TimedMessage}
use Rattle.fm_line.specs.Sounds.{Sound, is_note_off}

-- ---- time

-- the same, to a last tick
abbrev pub RunsFrom : (low e : ℕ) → List Sound → Type 0
RunsFrom low e [] = low ≤ e
RunsFrom low e (x ∷ xs) = (low ≤ x.time) × RunsFrom x.time e xs

-- sounds that begin one after the other, from a tick to a last one; a note-off is not before the last beginning
abbrev pub BeginsFrom : (low e : ℕ) → List Sound → Type 0
BeginsFrom low e [] = low ≤ e
BeginsFrom low e (x ∷ xs) = (low ≤ x.time) × BeginsFrom (if is_note_off x.msg then low else x.time) e xs

-- none of the sounds is before a tick
abbrev pub AllFrom : ℕ → List Sound → Type 0
AllFrom low xs = AllByRecursion (λ (x : Sound). low ≤ x.time) xs

-- ---- number

-- one where a test holds
abbrev pub one_if : Bool → ℕ
one_if b = if b then 1 else 0

-- how many sounds have a message of this kind
abbrev pub count_of : (Msg → Bool) → List Sound → ℕ
count_of p [] = 0
count_of p (x ∷ xs) = one_if (p x.msg) + count_of p xs

-- events of the process j, numbered in turn from i on
abbrev pub AreInTurn : (j i : ℕ) → List TimedMessage → Type 0
AreInTurn j i [] = Unit {0}
AreInTurn j i (e ∷ es) = (e.process ≡ j) × (e.index ≡ i) × AreInTurn j (i + 1) es
