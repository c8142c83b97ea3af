-- Lists of followers: what is put into them, and taken out.
use Rattle.std.proofs.Common.{◌≡◌, ◌⊎◌, ℕ, zero, suc, ◌+◌, ◌<◌, List, [], ◌∷◌, ◌++◌, length, get_or, set, true, false, Option, Some, None, refl, sym, ap, ◌∙◌, subst, inl, inr, arith, length-append, length-set}
use Rattle.std.specs.Prelude.{Vec, Contains, IsSome, is_some, option_to_list}
use Rattle.std.specs.Global.{Global}
use Rattle.std.proofs.lemmas.Bool.{cases_eq}
use Rattle.std.proofs.lemmas.List.Elements.{Contains-append_cases, Contains-append_left, Contains-push}
use Rattle.fm_program.specs.Fit.{PartsFit}
use Rattle.fm_program.specs.Parts.{PlanParts}
use Rattle.fm_play.proofs.PlanFacts.{plan_valid}
use Rattle.fm_round.specs.Lanes.{predecessors}
use Rattle.fm_round.specs.Watching.{AllLater, AllListed, AreEmpty, Lists, Takes, list_of, predecessor}
use Rattle.fm_round.proofs.Births.{predecessor_below}

-- ---- one list of several

list_of-same : (vs : List (Vec ℕ Global)) (q : ℕ) (v : Vec ℕ Global) → q < length vs → list_of (set vs q v) q ≡ v.items
list_of-same [] q v within = absurd (omega arith)
list_of-same (w ∷ vs) zero v within = refl
list_of-same (w ∷ vs) (suc q) v within = list_of-same vs q v (omega arith)

list_of-other : (vs : List (Vec ℕ Global)) (q k : ℕ) (v : Vec ℕ Global) → (k ≡ q → ⊥) → list_of (set vs q v) k ≡ list_of vs k
list_of-other [] q k v apart = refl
list_of-other (w ∷ vs) zero zero v apart = absurd (apart refl)
list_of-other (w ∷ vs) zero (suc k) v apart = refl
list_of-other (w ∷ vs) (suc q) zero v apart = refl
list_of-other (w ∷ vs) (suc q) (suc k) v apart = list_of-other vs q k v (λ same. apart (ap suc same))

list_of-at : (vs : List (Vec ℕ Global)) (q : ℕ) (d : Vec ℕ Global) → q < length vs → (get_or vs q d).items ≡ list_of vs q
list_of-at [] q d within = absurd (omega arith)
list_of-at (w ∷ vs) zero d within = refl
list_of-at (w ∷ vs) (suc q) d within = list_of-at vs q d (omega arith)

pub list_of-push : (vs : List (Vec ℕ Global)) (v : Vec ℕ Global) → v.items ≡ [] → ((q : ℕ) → list_of vs q ≡ [])
    → (q : ℕ) → list_of (vs ++ v ∷ []) q ≡ []
list_of-push [] v empty all zero = empty
list_of-push [] v empty all (suc q) = refl
list_of-push (w ∷ vs) v empty all zero = all 0
list_of-push (w ∷ vs) v empty all (suc q) = list_of-push vs v empty (λ k. all (suc k)) q

-- one is put into a list
pub listed_one : (vs : List (Vec ℕ Global)) (q x : ℕ) (v d : Vec ℕ Global) → q < length vs → v.items ≡ (get_or vs q d).items ++ x ∷ []
    → Lists q x vs (set vs q v)
listed_one vs q x v d within is = record {
  size = length-set vs q v;
  here = list_of-same vs q v within ∙ is ∙ ap (λ xs. xs ++ x ∷ []) (list_of-at vs q d within);
  others = λ k apart. list_of-other vs q k v apart;
}

-- the last one is taken out of a list
pub taken_one : (vs : List (Vec ℕ Global)) (q : ℕ) (taken : Option ℕ) (v d : Vec ℕ Global) → q < length vs
    → (get_or vs q d).items ≡ v.items ++ option_to_list taken → (taken ≡ None → v.items ≡ []) → Takes q vs taken (set vs q v)
taken_one vs q taken v d within is none = record {
  size = length-set vs q v;
  here = sym (list_of-at vs q d within) ∙ is ∙ ap (λ xs. xs ++ option_to_list taken) (sym (list_of-same vs q v within));
  none = λ was. list_of-same vs q v within ∙ none was;
  others = λ k apart. list_of-other vs q k v apart;
}

-- ---- members

in_one : (x y : ℕ) → Contains (x ∷ []) y → y ≡ x
in_one x y (zero, within, is) = sym is
in_one x y (suc k, within, is) = absurd (omega arith)

pub in_none : (y : ℕ) → Contains [] y → ⊥
in_none y (k, within, is) = omega arith

pub lists_kept : (q x : ℕ) (old new : List (Vec ℕ Global)) → Lists q x old new → (k y : ℕ) → Contains (list_of old k) y
    → Contains (list_of new k) y
lists_kept q x old new puts k y i = by_place (cases_eq k q)
  where
    by_place : (k ≡ q) ⊎ (k ≡ q → ⊥) → Contains (list_of new k) y
    by_place (inl same) =
        subst (λ (n : ℕ). Contains (list_of new n) y) (sym same)
        (subst (λ (xs : List ℕ). Contains xs y) (sym puts.here)
        (Contains-append_left (list_of old q) (x ∷ []) y (subst (λ (n : ℕ). Contains (list_of old n) y) same i)))
    by_place (inr apart) = subst (λ (xs : List ℕ). Contains xs y) (sym (puts.others k apart)) i

pub lists_there : (q x : ℕ) (old new : List (Vec ℕ Global)) → Lists q x old new → Contains (list_of new q) x
lists_there q x old new puts = subst (λ (xs : List ℕ). Contains xs x) (sym puts.here) (Contains-push (list_of old q) x)

pub lists_later : (p : PlanParts) (q x : ℕ) (old new : List (Vec ℕ Global)) → Lists q x old new → q < x → x < length p.programs
    → AllLater p old → AllLater p new
lists_later p q x old new puts less within later k y i = by_place (cases_eq k q)
  where
    by_side : k ≡ q → (Contains (list_of old q) y) ⊎ (Contains (x ∷ []) y) → (k < y) × (y < length p.programs)
    by_side same (inl before) = later k y (subst (λ (n : ℕ). Contains (list_of old n) y) (sym same) before)
    by_side same (inr one) = let is = in_one x y one in (omega arith, omega arith)

    by_place : (k ≡ q) ⊎ (k ≡ q → ⊥) → (k < y) × (y < length p.programs)
    by_place (inl same) =
        by_side same (Contains-append_cases (list_of old q) (x ∷ []) y
        (subst (λ (xs : List ℕ). Contains xs y) puts.here (subst (λ (n : ℕ). Contains (list_of new n) y) same i)))
    by_place (inr apart) = later k y (subst (λ (xs : List ℕ). Contains xs y) (puts.others k apart) i)

pub takes_kept : (q : ℕ) (old : List (Vec ℕ Global)) (taken : Option ℕ) (new : List (Vec ℕ Global)) → Takes q old taken new
    → (k y : ℕ) → Contains (list_of new k) y → Contains (list_of old k) y
takes_kept q old taken new takes k y i = by_place (cases_eq k q)
  where
    by_place : (k ≡ q) ⊎ (k ≡ q → ⊥) → Contains (list_of old k) y
    by_place (inl same) =
        subst (λ (n : ℕ). Contains (list_of old n) y) (sym same)
        (subst (λ (xs : List ℕ). Contains xs y) (sym takes.here)
        (Contains-append_left (list_of new q) (option_to_list taken) y (subst (λ (n : ℕ). Contains (list_of new n) y) same i)))
    by_place (inr apart) = subst (λ (xs : List ℕ). Contains xs y) (takes.others k apart) i

pub takes_there : (q x : ℕ) (old new : List (Vec ℕ Global)) → Takes q old (Some x) new → Contains (list_of old q) x
takes_there q x old new takes = subst (λ (xs : List ℕ). Contains xs x) (sym takes.here) (Contains-push (list_of new q) x)

-- whoever was in a list is still there, or was taken out
pub takes_one : (q x : ℕ) (old new : List (Vec ℕ Global)) → Takes q old (Some x) new → (k y : ℕ) → Contains (list_of old k) y
    → (Contains (list_of new k) y) ⊎ (y ≡ x)
takes_one q x old new takes k y i = by_place (cases_eq k q)
  where
    by_side : k ≡ q → (Contains (list_of new q) y) ⊎ (Contains (x ∷ []) y) → (Contains (list_of new k) y) ⊎ (y ≡ x)
    by_side same (inl stays) = inl (subst (λ (n : ℕ). Contains (list_of new n) y) (sym same) stays)
    by_side same (inr one) = inr (in_one x y one)

    by_place : (k ≡ q) ⊎ (k ≡ q → ⊥) → (Contains (list_of new k) y) ⊎ (y ≡ x)
    by_place (inl same) =
        by_side same (Contains-append_cases (list_of new q) (x ∷ []) y
        (subst (λ (xs : List ℕ). Contains xs y) takes.here (subst (λ (n : ℕ). Contains (list_of old n) y) same i)))
    by_place (inr apart) = inl (subst (λ (xs : List ℕ). Contains xs y) (sym (takes.others k apart)) i)

-- ---- what is built and popped

no_items : (xs : List ℕ) → length xs ≡ 0 → xs ≡ []
no_items [] long = refl
no_items (x ∷ xs) long = absurd (omega arith)

-- nothing is popped of an empty list alone
pop_none : (taken : Option ℕ) (many : ℕ) → taken ≡ None → (0 < many → IsSome taken) → many ≡ 0
pop_none taken zero none some = refl
pop_none taken (suc many) none some = let never : true ≡ false = sym (some (omega arith)) ∙ ap is_some none in cc

pub empty_pop : (ys : List ℕ) (taken : Option ℕ) (many : ℕ) → taken ≡ None → (0 < many → IsSome taken)
    → length ys + length (option_to_list taken) ≡ many → ys ≡ []
empty_pop ys taken many none some long = no_items ys (omega (arith, pop_none taken many none some))

pub empty_more : (n : ℕ) (vs : List (Vec ℕ Global)) (v : Vec ℕ Global) → AreEmpty n vs → v.items ≡ [] → AreEmpty (n + 1) (vs ++ v ∷ [])
empty_more n vs v before empty = record {
  size = omega (arith, length-append vs (v ∷ []), before.size);
  empty = list_of-push vs v empty before.empty;
}

-- a predecessor has a lesser number
pub predecessor_less : (p : PlanParts) (qs : List ℕ) (j i : ℕ) → PartsFit p → qs ≡ predecessors p j → i < length qs → get_or qs i 0 < j
predecessor_less p qs j i fits are within =
    let inside : i < length (predecessors p j) = rw (← are) within in
    let below = predecessor_below p (plan_valid p fits) j i inside in rw are below

-- one list more has the process
pub listed_here : (p : PlanParts) (qs : List ℕ) (j at : ℕ) (old new : List (Vec ℕ Global)) → qs ≡ predecessors p j
    → Lists (get_or qs at 0) j old new
    → ((i : ℕ) → i < at → Contains (list_of old (predecessor p j i)) j)
    → (i : ℕ) → i < at + 1 → Contains (list_of new (predecessor p j i)) j
listed_here p qs j at old new are puts before i below = by_place (cases_eq i at)
  where
    by_place : (i ≡ at) ⊎ (i ≡ at → ⊥) → Contains (list_of new (predecessor p j i)) j
    by_place (inl same) =
        subst (λ (n : ℕ). Contains (list_of new (predecessor p j n)) j) (sym same)
        (subst (λ (xs : List ℕ). Contains (list_of new (get_or xs at 0)) j) are (lists_there (get_or qs at 0) j old new puts))
    by_place (inr apart) =
        lists_kept (get_or qs at 0) j old new puts (predecessor p j i) j (before i (omega arith))

-- the lists have one process more
pub listed_more : (p : PlanParts) (j : ℕ) (vs : List (Vec ℕ Global)) → AllListed p j vs
    → ((i : ℕ) → i < length (predecessors p j) → Contains (list_of vs (predecessor p j i)) j) → AllListed p (j + 1) vs
listed_more p j vs before here k i below inside = by_place (cases_eq k j)
  where
    by_place : (k ≡ j) ⊎ (k ≡ j → ⊥) → Contains (list_of vs (predecessor p k i)) k
    by_place (inl same) =
        subst (λ (n : ℕ). Contains (list_of vs (predecessor p n i)) n) (sym same)
        (here i (subst (λ (n : ℕ). i < length (predecessors p n)) same inside))
    by_place (inr apart) = before k i (omega arith) inside
