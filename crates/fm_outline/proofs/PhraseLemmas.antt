-- What is found once of each phrase, in the order of the phrases.
use Rattle.std.proofs.Common.{◌≡◌, ℕ, ◌+◌, ◌<◌, ◌≤◌, List, [], ◌∷◌, ◌++◌, map, take, length, refl, sym, ap, ap₂, ◌∙◌}
use Rattle.std.specs.Prelude.{slice_index_or}
use Rattle.std.proofs.lemmas.List.{map-append, take_all}
use lib.ListN.{get_or-map}
use Rattle.fm_expansion.specs.Outline.{Block, done}
use Rattle.fm_outline.specs.declared.step.Step.{Step}
use Rattle.fm_outline.specs.View.{look_in, block_view, phrases_behind, phrases_view}
use Rattle.fm_outline.proofs.MapLemmas.{map_take_more}

-- a phrase behind others sees them
pub phrases_more : (blocks : List Block) (ps : List (List Step)) (p : List Step) → phrases_behind blocks (ps ++ p ∷ [])
    ≡ phrases_behind blocks ps ++ block_view (look_in (phrases_behind blocks ps)) p ∷ []
phrases_more blocks [] p = refl
phrases_more blocks (q ∷ ps) p = phrases_more (blocks ++ block_view (look_in blocks) q ∷ []) ps p

-- what is found of each phrase, by its number
pub found_by_number : {A : Type 0} (f : Block → A) (xs : List A) (blocks : List Block) → xs ≡ map f blocks
    → (n : ℕ) → slice_index_or xs n (f done) ≡ f (look_in blocks n)
found_by_number f xs blocks is n = ap (λ l. slice_index_or l n (f done)) is ∙ get_or-map f blocks n done

-- one phrase more
pub found_more : {A B : Type 0} (f : Block → A) (view : B → List Step) (ps : List B) (k : ℕ) (p : B) (xs : List A) (own : A)
    → k < length ps → p ≡ slice_index_or ps k p → xs ≡ map f (phrases_view (map view (take k ps)))
    → own ≡ f (block_view (look_in (phrases_view (map view (take k ps)))) (view p))
    → xs ++ own ∷ [] ≡ map f (phrases_view (map view (take (k + 1) ps)))
found_more f view ps k p xs own within is known here =
    let qs = map view (take k ps) in
    ap₂ (λ l b. l ++ b ∷ []) known here
    ∙ sym (ap (λ l. map f (phrases_view l)) (map_take_more view ps k p within is)
    ∙ ap (map f) (phrases_more [] qs (view p))
    ∙ map-append f (phrases_view qs) (block_view (look_in (phrases_view qs)) (view p) ∷ []))

-- all phrases
pub found_all : {A B : Type 0} (f : Block → A) (view : B → List Step) (ps : List B) (k : ℕ) (xs : List A) → length ps ≤ k
    → xs ≡ map f (phrases_view (map view (take k ps))) → (n : ℕ)
    → slice_index_or xs n (f done) ≡ f (look_in (phrases_view (map view ps)) n)
found_all f view ps k xs past known =
    found_by_number f xs (phrases_view (map view ps))
    (known ∙ ap (λ l. map f (phrases_view (map view l))) (take_all k ps past))
