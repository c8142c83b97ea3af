-- A tree that is told statement by statement.
use Rattle.std.proofs.Common.{◌≡◌, ℕ, ◌+◌, ◌<◌, ◌≤◌, List, [], ◌∷◌, ◌++◌, ◌∙◌, map, drop, length, get_or, sym, ap, refl, subst, append-nil, append_assoc, drop_of_length-le, Vec, Global}
use Rattle.std.specs.Prelude.{vec_items}
use Rattle.std.proofs.lemmas.List.{map-append}
use Rattle.fm_grammar.specs.declared.item.Item.{Item}
use Rattle.fm_grammar.specs.declared.item.What.{What}
use Rattle.fm_grammar.specs.Making.{AreMade, AreForked}
use Rattle.fm_grammar.specs.Score as text
use Rattle.fm_grammar.specs.View.{item_view, items_view, branches_of}
use Rattle.fm_grammar.proofs.StatementViews.{seen}
use Rattle.fm_outline.specs.declared.outliner.Outliner.{Outliner}
use Rattle.fm_outline.specs.declared.step.Step.{Step}
use Rattle.fm_outline.specs.Outlining.{IsOutlined}
use Rattle.fm_outline.proofs.GrowingLemmas.{items_from, arms_from}

-- a statement of the code of a known kind
pub of_kind : (i : Item) (w : What) → i.what ≡ w → item_view i ≡ seen i.spot w
of_kind i w is = ap (λ (x : What). seen i.spot x) is

-- what is made of all statements, with what is made of those from one on
abbrev pub ItemsSoFar : Outliner → List Item → ℕ → List Step → Outliner → Type 0
ItemsSoFar start xs i steps o =
    (rest : List Step) (p : Outliner) → AreMade IsOutlined o (items_view (drop i xs)) rest p
    → AreMade IsOutlined start (items_view xs) (steps ++ rest) p

-- a list with one more, and what stands behind it
one_behind : {A : Type 0} (xs grown rest : List A) (x : A) → grown ≡ xs ++ x ∷ [] → xs ++ x ∷ rest ≡ grown ++ rest
one_behind xs grown rest x pushed = sym (ap (λ l. l ++ rest) pushed ∙ append_assoc xs (x ∷ []) rest)

-- one statement more
pub items_more : (start o q : Outliner) (xs : List Item) (i : ℕ) (x : Item) (steps grown : List Step) (s : Step) → i < length xs
    → x ≡ get_or xs i x → grown ≡ steps ++ s ∷ [] → IsOutlined o (item_view x) s q → ItemsSoFar start xs i steps o
    → ItemsSoFar start xs (i + 1) grown q
items_more start o q xs i x steps grown s within is pushed made so_far rest p after =
    subst (λ l. AreMade IsOutlined start (items_view xs) l p) (one_behind steps grown rest s pushed)
    (so_far (s ∷ rest) p
    (subst (λ b. AreMade IsOutlined o b (s ∷ rest) p) (sym (items_from xs i x within is)) (q, made, after)))

-- no statement is left
pub items_end : (start o : Outliner) (xs : List Item) (i : ℕ) (steps : List Step) → length xs ≤ i → ItemsSoFar start xs i steps o
    → AreMade IsOutlined start (items_view xs) steps o
items_end start o xs i steps past so_far =
    subst (λ l. AreMade IsOutlined start (items_view xs) l o) (append-nil steps)
    (so_far [] o (subst (λ l. AreMade IsOutlined o (items_view l) [] o) (sym (drop_of_length-le xs past)) refl))

-- the blocks of branches
abbrev pub bodies : List (Vec Item Global) → List text.Body
bodies bs = map (λ b. items_view b.items) bs

-- what is made of all branches, with what is made of those from one on
abbrev pub BranchesSoFar : Outliner → List (Vec Item Global) → ℕ → List (Vec Step Global) → Outliner → Type 0
BranchesSoFar start bs i outlined o =
    (rest : List (List Step)) (p : Outliner) → AreForked IsOutlined o (branches_of (bodies (drop i bs))) rest p
    → AreForked IsOutlined start (branches_of (bodies bs)) (map vec_items outlined ++ rest) p

-- one branch more
pub branches_more : (start o q : Outliner) (bs : List (Vec Item Global)) (i : ℕ) (b : Vec Item Global)
    (outlined grown : List (Vec Step Global)) (v : Vec Step Global) → i < length bs → b ≡ get_or bs i b
    → grown ≡ outlined ++ v ∷ [] → AreMade IsOutlined o (items_view b.items) v.items q → BranchesSoFar start bs i outlined o
    → BranchesSoFar start bs (i + 1) grown q
branches_more start o q bs i b outlined grown v within is pushed made so_far rest p after =
    subst (λ l. AreForked IsOutlined start (branches_of (bodies bs)) l p)
    (one_behind (map vec_items outlined) (map vec_items grown) rest v.items
    (ap (map vec_items) pushed ∙ map-append vec_items outlined (v ∷ [])))
    (so_far (v.items ∷ rest) p
    (subst (λ x. AreForked IsOutlined o x (v.items ∷ rest) p)
    (sym (arms_from (λ (x : Vec Item Global). items_view x.items) bs i b within is)) (q, made, after)))

-- no branch is left
pub branches_end : (start o : Outliner) (bs : List (Vec Item Global)) (i : ℕ) (outlined : List (Vec Step Global)) → length bs ≤ i
    → BranchesSoFar start bs i outlined o → AreForked IsOutlined start (branches_of (bodies bs)) (map vec_items outlined) o
branches_end start o bs i outlined past so_far =
    subst (λ l. AreForked IsOutlined start (branches_of (bodies bs)) l o) (append-nil (map vec_items outlined))
    (so_far [] o
    (subst (λ l. AreForked IsOutlined o (branches_of (bodies l)) [] o) (sym (drop_of_length-le bs past)) refl))
