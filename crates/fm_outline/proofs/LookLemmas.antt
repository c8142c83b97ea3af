-- What a look finds that extends the phrases so far.
use Rattle.std.proofs.Common.{◌≡◌, ℕ, zero, suc, ◌+◌, ◌<◌, List, [], ◌∷◌, ◌++◌, length, get_or, refl, ◌∙◌, arith}
use Rattle.std.proofs.lemmas.List.{length-append}
use Rattle.fm_expansion.specs.Outline.{Block, done}
use Rattle.fm_outline.specs.declared.step.Step.{Step}
use Rattle.fm_outline.specs.View.{Look, look_in, phrases_behind, phrases_view, block_view}
use Rattle.fm_outline.specs.Walked.{Extends}

-- behind others there are as many phrases as were defined
behind_length : (blocks : List Block) (ps : List (List Step))
    → length (phrases_behind blocks ps) ≡ length blocks + length ps
behind_length blocks [] = omega arith
behind_length blocks (p ∷ ps) =
    omega (
      arith,
      behind_length (blocks ++ block_view (look_in blocks) p ∷ []) ps,
      length-append blocks (block_view (look_in blocks) p ∷ []),
    )

-- there are as many phrases as were defined
pub phrases_length : (ps : List (List Step)) → length (phrases_view ps) ≡ length ps
phrases_length ps = omega (arith, behind_length [] ps)

-- an index before the end
pub get_before : {A : Type 0} (xs : List A) (y d : A) (n : ℕ) → n < length xs → get_or (xs ++ y ∷ []) n d ≡ get_or xs n d
get_before [] y d n within = absurd (omega arith)
get_before (x ∷ xs) y d zero within = refl
get_before (x ∷ xs) y d (suc n) within = get_before xs y d n (omega arith)

-- the index at the end
pub get_end : {A : Type 0} (xs : List A) (y d : A) → get_or (xs ++ y ∷ []) (length xs) d ≡ y
get_end [] y d = refl
get_end (x ∷ xs) y d = get_end xs y d

-- what extends more extends less
pub extends_less : (blocks : List Block) (b : Block) (look : Look) → Extends (blocks ++ b ∷ []) look
    → Extends blocks look
extends_less blocks b look more n within =
    more n (omega (arith, length-append blocks (b ∷ []))) ∙ get_before blocks b done n within

-- the last one
pub extends_last : (blocks : List Block) (b : Block) (look : Look) → Extends (blocks ++ b ∷ []) look
    → look (length blocks) ≡ b
extends_last blocks b look more =
    more (length blocks) (omega (arith, length-append blocks (b ∷ []))) ∙ get_end blocks b done
