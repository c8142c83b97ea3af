-- Lists that are gone round by a cursor.
use Rattle.std.specs.Prelude.{◌≡◌, ℕ, ◌+◌, ◌%◌, ◌<◌, List, [], ◌∷◌, length, slice_index}

-- the entry of a list at a cursor, which goes on past the list's end at its begin
abbrev pub entry_at : List ℕ → ℕ → ℕ
entry_at list cursor = slice_index list (cursor % length list)

-- an index of a list is where a cursor that was moved so often stands
abbrev pub StandsAt : List ℕ → ℕ → ℕ → Type 0
StandsAt list index cursor = index ≡ cursor % length list

-- the result is the entry at the old index, and at whatever cursor that index is of; the new index, again one of the
-- list, is of the cursor after it
pub record IsNext (list : List ℕ) (old result new : ℕ) : Type 0 where
  pub at : result ≡ slice_index list old
  pub entry : (cursor : ℕ) → StandsAt list old cursor → result ≡ entry_at list cursor
  pub within : new < length list
  pub after : (cursor : ℕ) → StandsAt list old cursor → StandsAt list new (cursor + 1)

-- a list of calls from one index to another, with their results
abbrev pub AreNext : List ℕ → ℕ → List ℕ → ℕ → Type 0
AreNext list old [] new = old ≡ new
AreNext list old (result ∷ results) new = (middle : ℕ) × IsNext list old result middle × AreNext list middle results new
