-- Processes that have not started, one after another.
use Rattle.std.proofs.Common.{◌≡◌, ◌⊎◌, ℕ, suc, ◌+◌, ◌*◌, ◌<◌, ◌≤◌, List, [], ◌∷◌, ◌++◌, length, map, sym, ap, ◌∙◌, subst, inl, inr, arith, length-append}
use Rattle.std.proofs.lemmas.Bool.{cases_lt}
use Rattle.fm_round.specs.declared.lane.Lane.{Lane}
use Rattle.fm_round.specs.Rounds.{AreFresh, first_room}
use Rattle.fm_round.specs.Lanes.{IsFresh, room_of, room_sum, lane}
use Rattle.fm_round.proofs.Running.{lane-left, lane-right}

-- one more
pub fresh_more : (n room : ℕ) (ss : List Lane) (s : Lane) → AreFresh n room ss → IsFresh room s → AreFresh (n + 1) room (ss ++ s ∷ [])
fresh_more n room ss s before new = record {
  count = omega (arith, length-append ss (s ∷ []), before.count);
  fresh = λ k within. by_place k within (cases_lt k (length ss));
}
  where
    by_place : (k : ℕ) → k < length (ss ++ s ∷ []) → (k < length ss) ⊎ (length ss ≤ k) → IsFresh room (lane (ss ++ s ∷ []) k)
    by_place k within (inl less) = subst (IsFresh room) (sym (lane-left ss (s ∷ []) k less)) (before.fresh k less)
    by_place k within (inr more) =
        let long = length-append ss (s ∷ []) in
        subst (IsFresh room) (sym (lane-right ss (s ∷ []) k 0 (omega arith))) new

sum_fresh : (room : ℕ) (ss : List Lane) → ((k : ℕ) → k < length ss → IsFresh room (lane ss k))
    → room_sum (map room_of ss) ≡ room * length ss
sum_fresh room [] fresh = omega arith
sum_fresh room (s ∷ ss) fresh =
    let here = (fresh 0 (omega arith)).room in
    let rest = sum_fresh room ss (λ k within. fresh (suc k) (omega arith)) in
    let more : room * suc (length ss) ≡ room * length ss + room = mul-suc-right room (length ss) in
    omega arith
  where
    mul-suc-right : (a b : ℕ) → a * suc b ≡ a * b + a
    mul-suc-right a b = omega arith

-- their room together
pub room_sum-fresh : {n : ℕ} (room : ℕ) (ss : List Lane) → AreFresh n room ss → room_sum (map room_of ss) ≡ room * n
room_sum-fresh room ss are = sum_fresh room ss are.fresh ∙ ap (λ k. room * k) are.count

-- where there are some, the first one has their room
pub first_fresh : (n room : ℕ) (ss : List Lane) → AreFresh n room ss → 0 < n → first_room ss ≡ room
first_fresh n room ss are some =
    let many = are.count in (are.fresh 0 (omega (arith, many, some))).room

-- and each of them has that of the first
pub fresh_as_first : (n room : ℕ) (ss : List Lane) → AreFresh n room ss → 0 < n → (k : ℕ) → k < length ss
    → IsFresh (first_room ss) (lane ss k)
fresh_as_first n room ss are some k within =
    subst (λ (r : ℕ). IsFresh r (lane ss k)) (sym (first_fresh n room ss are some)) (are.fresh k within)
