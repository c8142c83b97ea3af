use Rattle.std.proofs.Common.{◌≡◌, ◌+◌, ◌++◌, take, drop, length, ℕ, List, arith, sym, ◌∙◌, ap, length-take}
use Rattle.std.proofs.lemmas.List.Folds.{drop_split}
use Rattle.std.proofs.Math.Seq.{take-append_seam}
use Rattle.std.specs.List.{slice_range}
use Rattle.fm_edge.proofs.unread.Unread.take_into.Goals as goal

-- what was moved is the front of what was left
moved_front : (xs ys piece rest : List ℕ) (read count : ℕ) → ys ≡ xs → piece ≡ slice_range ys read (read + count) →
    length piece ≡ count →
    drop read xs ≡ take count (piece ++ rest) ++ drop (read + count) xs
moved_front xs ys piece rest read count same is len =
    drop_split xs read (read + count) (omega arith)
    ∙ ap (λ z. slice_range z read (read + count) ++ drop (read + count) xs) (sym same)
    ∙ ap (λ z. z ++ drop (read + count) xs) (sym is ∙ sym (take-append_seam piece rest) ∙ ap (λ k. take k (piece ++ rest)) len)

pub returns-clause-bytes : goal.returns-clause-bytes
returns-clause-bytes c =
    sym c.self.view_is
    ∙ moved_front _ _ _ _ _ _ c.deref.ensures.value c.copy_from_slice.ensures.after
    (omega (arith, c.copy_from_slice.ensures.len, length-take c.min-count.result c.args.into.now))
