-- Cursors modulo the length of a list.
use Rattle.std.proofs.Common.{◌≡◌, ℕ, zero, suc, ◌+◌, ◌*◌, ◌<◌, ◌/◌, ◌%◌, List, [], ◌∷◌, length, sym, ap, ◌∙◌, arith}
use Rattle.std.specs.Prelude.{slice_index}
use Rattle.std.proofs.lemmas.Nat.{div-add-mod', mod-mul-add}
use Rattle.fm_pattern.specs.Cycle.{entry_at, StandsAt, IsNext, AreNext}

-- the remainder of a number that is some multiple and a small rest
remainder : (number multiple size rest : ℕ) → number ≡ multiple * size + rest → rest < size → rest ≡ number % size
remainder number multiple size rest e lt = sym (ap (λ n. n % size) e ∙ mod-mul-add multiple size rest lt)

-- the first index is that of a cursor that was not moved
pub stands_at_first : (list : List ℕ) → 0 < length list → StandsAt list 0 0
stands_at_first list some = remainder 0 0 (length list) 0 (omega arith) some

-- one index on, where that is one of the list
pub stands_one_on : (list : List ℕ) (index cursor : ℕ) → StandsAt list index cursor → index + 1 < length list
    → StandsAt list (index + 1) (cursor + 1)
stands_one_on list index cursor at lt =
    let whole = div-add-mod' cursor (length list) in
    remainder (cursor + 1) (cursor / length list) (length list) (index + 1) (omega arith) lt

-- the entry at an index that is not the last one, and the index behind it
pub next_on : (list : List ℕ) (index old : ℕ) → index ≡ old → index + 1 < length list
    → IsNext list old (slice_index list index) (index + 1)
next_on list index old same lt = record {
  at = ap (slice_index list) same;
  entry = λ cursor at. ap (slice_index list) (same ∙ at);
  within = lt;
  after = λ cursor at. stands_one_on list index cursor (same ∙ at) lt;
}

-- the results of a list of calls are the entries from the first cursor on
pub nexts_are : (list : List ℕ) (old : ℕ) (results : List ℕ) (new cursor : ℕ) → AreNext list old results new
    → StandsAt list old cursor → (k : ℕ) → k < length results → slice_index results k ≡ entry_at list (cursor + k)
nexts_are list old [] new cursor calls at k lt = absurd (omega arith)
nexts_are list old (result ∷ results) new cursor calls at zero lt =
    calls.1.entry cursor at ∙ ap (entry_at list) (omega arith)
nexts_are list old (result ∷ results) new cursor calls at (suc k) lt =
    nexts_are list calls.0 results new (cursor + 1) calls.2 (calls.1.after cursor at) k (omega arith)
    ∙ ap (entry_at list) (omega arith)
