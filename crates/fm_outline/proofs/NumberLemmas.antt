-- The numbers of the faults in a list.
use Rattle.std.proofs.Common.{◌≡◌, ℕ, Bool, ◌&&◌, ◌||◌, nat_eq, List, ◌++◌, sym, ap₂, ◌∙◌, arith}
use Rattle.std.proofs.lemmas.Grind.{common_steps}
use Rattle.std.proofs.lemmas.List.Folds.{list_any-append}
use Rattle.fm_lex.specs.declared.spot.Spot.{Spot}
use Rattle.fm_meaning.specs.Fault.{NumberedFault, fork_in_choice, play_outside_rhythm, index_outside_loop, too_deep}
use Rattle.fm_meaning.specs.Places.{gathered}
use Rattle.fm_outline.specs.Needs.{four_faults}
use Rattle.fm_outline.specs.Asking.{has}

-- in two lists
pub has_append : (m : ℕ) (a b : List NumberedFault) → has m (a ++ b) ≡ (has m a || has m b)
has_append m a b = list_any-append (λ f. nat_eq f.number m) a b

has_four : (m : ℕ) (s : Spot) (a b c e : Bool)
    → has m (four_faults s a b c e)
    ≡ ((((a && nat_eq fork_in_choice m) || (b && nat_eq play_outside_rhythm m)) || (c && nat_eq index_outside_loop m))
    || (e && nat_eq too_deep m))
has_four m s a b c e = grind (arith, common_steps)

-- the spot plays no part
pub any_spot : (m : ℕ) (s z : Spot) (a b c e : Bool) → has m (four_faults s a b c e) ≡ has m (four_faults z a b c e)
any_spot m s z a b c e = has_four m s a b c e ∙ sym (has_four m z a b c e)

-- of four tests
or_pairs : (a b i j : Bool) → ((a || b) || (i || j)) ≡ ((a || i) || (b || j))
or_pairs a b i j = grind (arith, common_steps)

and_pair : (a i p : Bool) → ((a && p) || (i && p)) ≡ ((a || i) && p)
and_pair a i p = grind (arith, common_steps)

-- the numbers of two lists
pub four_both : (m : ℕ) (s : Spot) (a b c e i j k l : Bool)
    → (has m (four_faults s a b c e) || has m (four_faults s i j k l)) ≡ has m (four_faults s (a || i) (b || j) (c || k) (e || l))
four_both m s a b c e i j k l =
    let p = nat_eq fork_in_choice m in
    let q = nat_eq play_outside_rhythm m in
    let r = nat_eq index_outside_loop m in
    let t = nat_eq too_deep m in
    ap₂ (λ x y. x || y) (has_four m s a b c e) (has_four m s i j k l)
    ∙ or_pairs (((a && p) || (b && q)) || (c && r)) (e && t) (((i && p) || (j && q)) || (k && r)) (l && t)
    ∙ ap₂ (λ x y. x || y)
    (or_pairs ((a && p) || (b && q)) (c && r) ((i && p) || (j && q)) (k && r)
    ∙ ap₂ (λ x y. x || y)
    (or_pairs (a && p) (b && q) (i && p) (j && q) ∙ ap₂ (λ x y. x || y) (and_pair a i p) (and_pair b j q))
    (and_pair c k r))
    (and_pair e l t)
    ∙ sym (has_four m s (a || i) (b || j) (c || k) (e || l))

-- the same tests
pub same_four : (s : Spot) (a b c e i j k l : Bool) → a ≡ i → b ≡ j → c ≡ k → e ≡ l → four_faults s a b c e ≡ four_faults s i j k l
same_four s a b c e i j k l p q r t =
    ap₂ (λ x y. four_faults s x y c e) p q ∙ ap₂ (λ x y. four_faults s i j x y) r t

-- lists with faults of the same numbers, at one spot
pub gathered_same : (s : Spot) (a b : List NumberedFault) → ((m : ℕ) → has m a ≡ has m b) → gathered s a ≡ gathered s b
gathered_same s a b h = same_gathered (h fork_in_choice) (h play_outside_rhythm) (h index_outside_loop) (h too_deep)
  where
    same_gathered : has fork_in_choice a ≡ has fork_in_choice b → has play_outside_rhythm a ≡ has play_outside_rhythm b
        → has index_outside_loop a ≡ has index_outside_loop b → has too_deep a ≡ has too_deep b
        → gathered s a ≡ gathered s b
    same_gathered p q r t = cc

-- faults at one spot already
pub gathered_four : (s : Spot) (a b c e : Bool) → gathered s (four_faults s a b c e) ≡ four_faults s a b c e
gathered_four s a b c e = grind (arith, common_steps)
