-- The least pair of a sweep: one look at a time, and of a sweep that grows by one.
use Rattle.std.proofs.Common.{◌≡◌, ℕ, suc, ◌+◌, ◌<◌, ◌≤◌, List, [], ◌∷◌, ◌++◌, length, get_or, drop, Option, Some, None, refl, sym, ap, ◌∙◌, arith, add-one, drop-cons}
use Rattle.std.proofs.lemmas.List.{drop_all}
use Rattle.fm_core.specs.Sweep.{lesser, least, least_from, pair_at}
use Rattle.fm_core.specs.declared.sight.Sight.{Sight}

-- nothing is no less than any pair
lesser_none : (a : Option (ℕ × ℕ)) → lesser a None ≡ a
lesser_none None = refl
lesser_none (Some a) = refl

-- the lesser of three pairs, in either grouping
lesser_assoc : (a b c : Option (ℕ × ℕ)) → lesser (lesser a b) c ≡ lesser a (lesser b c)
lesser_assoc None b c = refl
lesser_assoc (Some a) None c = refl
lesser_assoc (Some a) (Some b) None = lesser_none (lesser (Some a) (Some b))
lesser_assoc (Some a) (Some b) (Some c) = grind arith

-- one look more of those that are there
pub least_more : (seen : List Sight) (k : ℕ) (d : Sight) (found : Option (ℕ × ℕ)) → k < length seen
    → lesser found (least_from k (drop k seen))
    ≡ lesser (lesser found (pair_at (get_or seen k d) k)) (least_from (k + 1) (drop (k + 1) seen))
least_more seen k d found lt = rw (add-one, drop-cons seen k d lt) (sym (lesser_assoc found _ _))

-- no look more
pub least_done : (seen : List Sight) (k : ℕ) (found : Option (ℕ × ℕ)) → length seen ≤ k
    → lesser found (least_from k (drop k seen)) ≡ found
least_done seen k found le = rw (drop_all k seen le) (lesser_none found)

-- a sweep that grows by one look, where it may begin at any process
least_appended : (k : ℕ) (seen : List Sight) (look : Sight)
    → least_from k (seen ++ look ∷ []) ≡ lesser (least_from k seen) (pair_at look (k + length seen))
least_appended k [] look = lesser_none (pair_at look k) ∙ ap (pair_at look) (omega arith)
least_appended k (one ∷ rest) look =
    ap (lesser (pair_at one k))
    (least_appended (suc k) rest look ∙ ap (λ n. lesser (least_from (suc k) rest) (pair_at look n)) (omega arith))
    ∙ sym (lesser_assoc (pair_at one k) (least_from (suc k) rest) (pair_at look (k + suc (length rest))))

-- the same of a whole sweep
pub least_grown : (seen : List Sight) (look : Sight)
    → least (seen ++ look ∷ []) ≡ lesser (least seen) (pair_at look (length seen))
least_grown seen look =
    least_appended 0 seen look ∙ ap (λ n. lesser (least seen) (pair_at look n)) (omega arith)
