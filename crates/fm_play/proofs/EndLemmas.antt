-- Where processes end, and which of them a process waits for.
use Rattle.std.proofs.Common.{◌≡◌, ◌⊎◌, ℕ, zero, suc, ◌<◌, List, [], ◌∷◌, ◌++◌, length, map, get_or, refl, sym, ap, ◌∙◌, subst, inl, inr, arith, length-append}
use Rattle.std.proofs.lemmas.Bool.{cases_eq}
use Rattle.std.proofs.lemmas.List.{get_or_append_left, get_or_at}
use Rattle.fm_nest.specs.declared.place.Place.{Place}
use Rattle.fm_program.specs.Parts.{PlanParts, process_program}
use Rattle.fm_program.specs.Fit.{PartsFit}
use Rattle.fm_program.proofs.Lines.{plan-lines-waits}
use Rattle.fm_strand.specs.Course.{end_place, first_place}
use Rattle.fm_strand.proofs.ValidLemmas.{lines-valid}
use Rattle.fm_play.specs.Places.{ends_below}

-- a predecessor has a smaller number
pub predecessor_less : (p : PlanParts) (j k : ℕ) → PartsFit p → k < length (process_program p j).predecessors
    → get_or (process_program p j).predecessors k 0 < j
predecessor_less p j k fits within =
    let below = (lines-valid p fits).below j in
    subst (λ (qs : List ℕ). k < length qs → get_or qs k 0 < j) (plan-lines-waits p j) (λ inside. below k 0 inside) within

-- a function of one element more
pub map-push : {A B : Type 0} (f : A → B) (xs : List A) (x : A) → map f (xs ++ x ∷ []) ≡ map f xs ++ f x ∷ []
map-push f [] x = refl
map-push f (y ∷ ys) x = ap (λ zs. f y ∷ zs) (map-push f ys x)

-- so many processes have so many ends
pub length-ends : (p : PlanParts) (n : ℕ) → length (ends_below p n) ≡ n
length-ends p zero = refl
length-ends p (suc n) = omega (arith, length-append (ends_below p n) (end_place p n ∷ []), length-ends p n)

-- the end of a process is found at its number
pub ends_at : (p : PlanParts) (n k : ℕ) (d : Place) → k < n → get_or (ends_below p n) k d ≡ end_place p k
ends_at p zero k d below = absurd (omega arith)
ends_at p (suc n) k d below = by_place (cases_eq k n) (ends_at p n k d)
  where
    by_place : (k ≡ n) ⊎ (k ≡ n → ⊥) → (k < n → get_or (ends_below p n) k d ≡ end_place p k)
        → get_or (ends_below p (suc n)) k d ≡ end_place p k
    by_place (inl same) before =
        get_or_at (ends_below p n) (end_place p n) [] d k (length-ends p n ∙ sym same) ∙ ap (end_place p) (sym same)
    by_place (inr apart) before =
        get_or_append_left (ends_below p n) (end_place p n ∷ []) d k (rw (length-ends p n) (omega (arith, apart)))
        ∙ before (omega (arith, apart))

-- the end that is read for a predecessor is its end
pub known_end : (p : PlanParts) (j k : ℕ) (ends : List Place) (qs : List ℕ) (end : Place) → PartsFit p → ends ≡ ends_below p j
    → qs ≡ (process_program p j).predecessors → k < length (process_program p j).predecessors
    → end ≡ get_or ends (get_or qs k 0) first_place → end ≡ end_place p (get_or (process_program p j).predecessors k 0)
known_end p j k ends qs end fits all waits within is =
    let own = (process_program p j).predecessors in
    is ∙ ap (λ (es : List Place). get_or es (get_or qs k 0) first_place) all
    ∙ ap (λ (xs : List ℕ). get_or (ends_below p j) (get_or xs k 0) first_place) waits
    ∙ ends_at p j (get_or own k 0) first_place (predecessor_less p j k fits within)
