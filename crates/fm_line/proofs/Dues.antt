-- Of a rising list the events that are due stand in front.
use Rattle.std.proofs.Common.{◌≡◌, ℕ, suc, ◌+◌, Bool, true, false, List, [], ◌∷◌, refl, sym, ◌∙◌, arith}
use Rattle.std.specs.Prelude.{if◌then◌else◌, Option, Some, None}
use Rattle.std.proofs.lemmas.Bool.{both_ways}
use Rattle.fm_msg.specs.Event.{TimedMessage}
use Rattle.fm_line.specs.Piece.{Above, Rises}
use Rattle.fm_line.specs.Dues.{is_up_to, count_where, count_in_front, IsUpward}

-- who is before an event up to a pair is up to it
pub up_to_before : (key : Option (ℕ × ℕ)) → IsUpward (is_up_to key)
up_to_before None x y before up = refl
up_to_before (Some key) x y before up = grind (arith, before, up)

-- two counts of the events that pass a test, one wherever they stand and one from the front, are the same of a
-- rising list, whatever they are called
module _ (due : TimedMessage → Bool) (all front : List TimedMessage → ℕ)
    (all_none : all [] ≡ 0)
    (all_more : (e : TimedMessage) (es : List TimedMessage) → all (e ∷ es) ≡ (if due e then 1 else 0) + all es)
    (front_none : front [] ≡ 0)
    (front_more : (e : TimedMessage) (es : List TimedMessage) → front (e ∷ es) ≡ (if due e then suc (front es) else 0))
    (upward : IsUpward due) where
  -- behind one that is not due none is
  none_behind : (x : TimedMessage) (ys : List TimedMessage) → Above x ys → due x ≡ false → all ys ≡ 0
  none_behind x [] above not_due = all_none
  none_behind x (y ∷ ys) above not_due = by_test (none_behind x ys above.1 not_due) (due y) refl
    where
      by_test : all ys ≡ 0 → (b : Bool) → due y ≡ b → all (y ∷ ys) ≡ 0
      by_test rest true is = absurd (both_ways (due x) not_due (upward x y above.0 is))
      by_test rest false is = all_more y ys ∙ rw is (let h = rest in omega arith)

  -- what is due is what stands in front
  pub counts_agree : (xs : List TimedMessage) → Rises xs → all xs ≡ front xs
  counts_agree [] rises = all_none ∙ sym front_none
  counts_agree (x ∷ xs) rises = all_more x xs ∙ by_test (due x) refl (counts_agree xs rises.1) ∙ sym (front_more x xs)
    where
      by_test : (b : Bool) → due x ≡ b → all xs ≡ front xs
          → (if due x then 1 else 0) + all xs ≡ (if due x then suc (front xs) else 0)
      by_test true is rest = rw is (let h = rest in omega arith)
      by_test false is rest = rw is (let h = none_behind x xs rises.0 is in omega arith)

-- the same of the two counts that are defined here
pub due_in_front : (due : TimedMessage → Bool) → IsUpward due → (xs : List TimedMessage) → Rises xs
    → count_where due xs ≡ count_in_front due xs
due_in_front due upward xs rises =
    counts_agree due (count_where due) (count_in_front due) refl (λ e es. refl) refl (λ e es. refl) upward xs rises
