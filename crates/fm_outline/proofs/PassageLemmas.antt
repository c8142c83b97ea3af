-- Statements, branches and phrases, one more at the end.
use Rattle.std.proofs.Common.{◌≡◌, ℕ, suc, ◌+◌, ◌<◌, List, [], ◌∷◌, ◌++◌, Bool, ◌||◌, nat_lt, max, drop, get_or, length}
use Rattle.std.proofs.Common.{sym, ap, ap₂, ◌∙◌, rules, append_assoc, append-nil, add-one, arith}
use Rattle.std.proofs.Math.Seq.{drop-cons}
use Rattle.std.proofs.lemmas.Grind.{common_steps}
use Rattle.fm_meaning.specs.Places.{Depths, place_faults, passage_faults, fork_faults, depth_faults}
use Rattle.fm_expansion.specs.Outline.{Tables, Block, play_in, passage_in, fork_in}
use Rattle.fm_outline.specs.declared.step.Step.{Step, the_lemmas}
use Rattle.fm_outline.specs.View.{Look, step_view, block_view, arms_of_blocks}
use Rattle.fm_outline.specs.declared.needs.Needs.{Needs}
use Rattle.fm_outline.specs.Asking.{Faults, TellsFaults, has}
use Rattle.fm_outline.proofs.NeedsLemmas.{lt_max}

-- an element passed of which indices ask
pub any_passed : {A : Type 0} (f : A → Bool) (h : List A → Bool) (xs : List A) (i : ℕ) (x : A) (l n k : ℕ)
    → ((y : A) (ys : List A) → h (y ∷ ys) ≡ (f y || h ys)) → i < length xs → nat_lt k n ≡ f (get_or xs i x)
    → (nat_lt k (max n l) || h (drop (i + 1) xs)) ≡ (nat_lt k l || h (drop i xs))
any_passed f h xs i x l n k first within is =
    ap₂ (λ a j. a || h (drop j xs)) (sym (lt_max k n l)) (add-one i)
    ∙ or_moved (nat_lt k n) (nat_lt k l) (h (drop (suc i) xs))
    ∙ ap (λ b. nat_lt k l || (b || h (drop (suc i) xs))) is
    ∙ ap (λ b. nat_lt k l || b) (sym (ap h (drop-cons xs i x within) ∙ first (get_or xs i x) (drop (suc i) xs)))
  where
    or_moved : (a b c : Bool) → ((a || b) || c) ≡ (b || (a || c))
    or_moved a b c = grind (arith, common_steps)

-- the same faults, said in another way
pub tells_same : (a b : Faults) (n : Needs) → ((e : Depths) → a e ≡ b e) → TellsFaults a n → TellsFaults b n
tells_same a b n same h = record { same = λ s e m. ap (λ l. has m (depth_faults s e ++ l)) (sym (same e)) ∙ h.same s e m }

-- one statement more
pub passage_more : (t : Tables) (look : Look) (xs : List Step) (x : Step) (d : Depths)
    → passage_faults (passage_in t (block_view look xs)) d ++ place_faults x.spot (play_in t (step_view look x).what) d
    ≡ passage_faults (passage_in t (block_view look (xs ++ x ∷ []))) d
passage_more t look [] x d =
    let spot : x.spot ≡ (step_view look x).spot = search (rules, the_lemmas) in
    ap (λ s. place_faults s (play_in t (step_view look x).what) d) spot
    ∙ sym (append-nil (place_faults (step_view look x).spot (play_in t (step_view look x).what) d))
passage_more t look (y ∷ xs) x d =
    append_assoc (place_faults (step_view look y).spot (play_in t (step_view look y).what) d) _ _
    ∙ ap (λ l. place_faults (step_view look y).spot (play_in t (step_view look y).what) d ++ l) (passage_more t look xs x d)

-- one branch more
pub fork_more : (t : Tables) (bs : List Block) (b : Block) (d : Depths)
    → fork_faults (fork_in t (arms_of_blocks bs)) d ++ passage_faults (passage_in t b) d
    ≡ fork_faults (fork_in t (arms_of_blocks (bs ++ b ∷ []))) d
fork_more t [] b d = sym (append-nil (passage_faults (passage_in t b) d))
fork_more t (c ∷ bs) b d =
    append_assoc (passage_faults (passage_in t c) d) _ _
    ∙ ap (λ l. passage_faults (passage_in t c) d ++ l) (fork_more t bs b d)
