-- Phrases stand behind those that they name.
use Rattle.std.proofs.Common.{◌≡◌, ℕ, zero, suc, ◌+◌, ◌<◌, ◌≤◌, List, [], ◌∷◌, ◌++◌, map, take, length, sym, ap, ap₂}
use Rattle.std.proofs.Common.{◌∙◌, arith, append_assoc, append-nil, length-append}
use Rattle.std.specs.Prelude.{slice_index_or}
use lib.ListN.{get_or-eq_default}
use Rattle.fm_expansion.specs.Outline.{Block, done}
use Rattle.fm_expansion.proofs.Programs.{at_seam}
use Rattle.fm_outline.specs.declared.step.Step.{Step}
use Rattle.fm_outline.specs.View.{look_in, block_view, phrases_behind, phrases_view}
use Rattle.fm_outline.proofs.LookLemmas.{phrases_length}
use Rattle.fm_plan.specs.Seen.{look_at}

-- phrases stay where they are
behind_first : (blocks : List Block) (ps : List (List Step)) → (more : List Block) × (phrases_behind blocks ps ≡ blocks ++ more)
behind_first blocks [] = ([], sym (append-nil blocks))
behind_first blocks (p ∷ ps) =
    let x = block_view (look_in blocks) p in
    let rest = behind_first (blocks ++ x ∷ []) ps in
    (x ∷ rest.0, rest.1 ∙ append_assoc blocks (x ∷ []) rest.0)

-- a phrase is seen with those before it
phrase_behind : (blocks : List Block) (ps : List (List Step)) (n : ℕ) → n < length ps
    → slice_index_or (phrases_behind blocks ps) (length blocks + n) done
    ≡ block_view (look_in (phrases_behind blocks (take n ps))) (slice_index_or ps n [])
phrase_behind blocks [] n within = absurd (omega (arith, within))
phrase_behind blocks (p ∷ ps) zero within =
    let x = block_view (look_in blocks) p in
    let rest = behind_first (blocks ++ x ∷ []) ps in
    let here : length blocks + 0 ≡ length blocks = omega arith in
    ap₂ (λ l k. slice_index_or l k done) (rest.1 ∙ append_assoc blocks (x ∷ []) rest.0) here ∙ at_seam blocks x rest.0 done
phrase_behind blocks (p ∷ ps) (suc n) within =
    let x = block_view (look_in blocks) p in
    let here : length blocks + suc n ≡ length (blocks ++ x ∷ []) + n = omega (arith, length-append blocks (x ∷ [])) in
    ap (λ k. slice_index_or (phrases_behind (blocks ++ x ∷ []) ps) k done) here
    ∙ phrase_behind (blocks ++ x ∷ []) ps n (omega (arith, within))

-- what a phrase stands for
pub phrase_stands : (ps : List (List Step)) (n : ℕ) → n < length ps
    → look_at ps n ≡ block_view (look_at (take n ps)) (slice_index_or ps n [])
phrase_stands ps n within =
    let here : n ≡ 0 + n = omega arith in
    ap (λ k. slice_index_or (phrases_view ps) k done) here ∙ phrase_behind [] ps n within

-- behind the last phrase there is none
pub phrase_past : (ps : List (List Step)) (n : ℕ) → length ps ≤ n → look_at ps n ≡ done
phrase_past ps n past = get_or-eq_default (phrases_view ps) done (omega (arith, past, phrases_length ps))
