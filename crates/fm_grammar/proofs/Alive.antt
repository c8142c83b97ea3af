-- What fits is within the limits, and something fits each stack within the limits.
use Rattle.std.proofs.Common.{◌≡◌, ℕ, zero, suc, ◌+◌, ◌≤◌, Bool, true, false, ◌⊎◌, inl, inr, ◌==◌, List, [], ◌∷◌, ◌++◌, Some, refl, arith}
use Rattle.std.specs.Prelude.{max, if◌then◌else◌}
use Rattle.std.specs.List.{list_all}
use Rattle.std.proofs.lemmas.Bool.Decides.{nat_tests}
use Rattle.fm_lex.specs.Tokens.{Lexed}
use Rattle.fm_grammar.specs.Within.{Limits}
use Rattle.fm_grammar.specs.Rules.{Sym, inner, factor, terms, sums, Rule, kind_code, rules_of, may_end, inside}
use Rattle.fm_grammar.specs.Table.{taking, after_token, left_out, opened, peak, need, want}
use Rattle.fm_grammar.proofs.Fits.{Fits, Derives}

-- ---- the rule that was taken

-- one of the rules has this first token and what follows it
abbrev pub In : ℕ → List Sym → List Rule → Type 0
In code next [] = ⊥
In code next (r ∷ rs) = ((kind_code r.first ≡ code) × (r.next ≡ next)) ⊎ In code next rs

some_same : {A : Type 0} (x y : A) → Some x ≡ Some y → x ≡ y
some_same x y same = cc

in_rule : (code : ℕ) (next : List Sym) (r : Rule) (rs : List Rule) (b : Bool) → (kind_code r.first == code) ≡ b
    → taking code (r ∷ rs) ≡ Some next → (taking code rs ≡ Some next → In code next rs) → In code next (r ∷ rs)
in_rule code next r rs true same took on =
    let here : Some r.next ≡ Some next = rw same at took in inl (grind (arith, nat_tests), some_same r.next next here)
in_rule code next r rs false same took on =
    let later : taking code rs ≡ Some next = rw same at took in inr (on later)

-- a rule that was taken is one of the rules
pub taking_in : (code : ℕ) (next : List Sym) (rs : List Rule) → taking code rs ≡ Some next → In code next rs
taking_in code next [] took = cc
taking_in code next (r ∷ rs) took = in_rule code next r rs (kind_code r.first == code) refl took (taking_in code next rs)

-- what is true of each rule is true of the one that was taken
pub each_rule : (holds : List Sym → Bool) (code : ℕ) (next : List Sym) (rs : List Rule)
    → list_all (λ r. holds r.next) rs ≡ true → In code next rs → holds next ≡ true
each_rule holds code next [] all found = absurd found
each_rule holds code next (r ∷ rs) all (inl (first, same)) = rw (← same) (grind arith)
each_rule holds code next (r ∷ rs) all (inr found) = each_rule holds code next rs (grind arith) found

-- ---- the tokens that are wanted

want_more : (ss : List Sym) (u v : ℕ) → u ≤ v → want u ss ≤ want v ss
want_more [] u v le = le
want_more (s ∷ ss) u v le =
    let on : want (u + need s) ss ≤ want (v + need s) ss = want_more ss (u + need s) (v + need s) (omega arith) in
    elim (inside s) as
    (λ b. (if b then want (u + need s) ss else max u (want 0 ss)) ≤ (if b then want (v + need s) ss else max v (want 0 ss)))
    [ true ↦ on | false ↦ omega arith ]

-- no less is wanted than was read
pub want_least : (ss : List Sym) (u : ℕ) → u ≤ want u ss
want_least [] u = omega arith
want_least (s ∷ ss) u =
    let on : u + need s ≤ want (u + need s) ss = want_least ss (u + need s) in
    elim (inside s) as (λ b. u ≤ (if b then want (u + need s) ss else max u (want 0 ss))) [ true ↦ omega arith | false ↦ omega arith ]

-- a part of a stack wants no more than the whole
want_below : (xs ss : List Sym) (v : ℕ) → want 0 ss ≤ want v (xs ++ ss)
want_below [] ss v = want_more ss 0 v (omega arith)
want_below (x ∷ xs) ss v =
    let later : want 0 ss ≤ want (v + need x) (xs ++ ss) = want_below xs ss (v + need x) in
    let apart : want 0 ss ≤ want 0 (xs ++ ss) = want_below xs ss 0 in
    elim (inside x) as (λ b. want 0 ss ≤ (if b then want (v + need x) (xs ++ ss) else max v (want 0 (xs ++ ss))))
    [ true ↦ later | false ↦ omega arith ]

-- symbols of an expression
abbrev pub all_inside : List Sym → Bool
all_inside ss = list_all inside ss

-- the tokens before them count
want_behind : (xs ss : List Sym) (v : ℕ) → all_inside xs ≡ true → want v ss ≤ want v (xs ++ ss)
want_behind [] ss v all = omega arith
want_behind (x ∷ xs) ss v all =
    let is : inside x ≡ true = grind arith in
    let others : all_inside xs ≡ true = grind arith in
    let on : want (v + need x) ss ≤ want (v + need x) (xs ++ ss) = want_behind xs ss (v + need x) others in
    let wide : want v ss ≤ want (v + need x) ss = want_more ss v (v + need x) (omega arith) in
    rw is (omega arith)

-- the rules of an expression stay inside it
rules_inside : (s : Sym) → inside s ≡ true → list_all (λ r. all_inside r.next) (rules_of s) ≡ true
rules_inside (inner k) is = refl
rules_inside factor is = refl
rules_inside terms is = refl
rules_inside sums is = refl
rules_inside s is = cc

need_small : (s : Sym) → need s ≤ 1
need_small (inner k) = omega arith
need_small factor = omega arith
need_small s = omega arith

-- a symbol that may be left out needs nothing
pub need_none : (s : Sym) → may_end s ≡ true → need s ≡ 0
need_none (inner k) may = cc
need_none factor may = cc
need_none s may = refl

-- ---- the braces that are wanted

-- a part of a stack needs no more braces than the whole
pub peak_below : (xs ss : List Sym) → peak ss ≤ peak (xs ++ ss)
peak_below [] ss = omega arith
peak_below (x ∷ xs) ss = let on : peak ss ≤ peak (xs ++ ss) = peak_below xs ss in omega arith

-- the open braces are among those that are needed
pub opened_peak : (ss : List Sym) → opened ss ≤ peak ss
opened_peak [] = omega arith
opened_peak (s ∷ ss) = omega arith

-- ---- what fits is within the limits

fits_peak : (most : Limits) (n u : ℕ) (ss : List Sym) (ts : List Lexed) → Fits most n u ss ts → peak ss ≤ most.braces
fits_peak most zero u ss ts fits = absurd fits
fits_peak most (suc n) u [] ts fits = omega arith
fits_peak most (suc n) u (s ∷ ss) ts (inl t) =
    omega (arith, t.opens, peak_below t.next ss, fits_peak most n (after_token s u) (t.next ++ ss) t.rest t.fits)
fits_peak most (suc n) u (s ∷ ss) ts (inr l) = omega (arith, l.opens, fits_peak most n (left_out s u) ss ts l.fits)

take_wants : (most : Limits) (u : ℕ) (s : Sym) (ss next : List Sym) (b : Bool) → inside s ≡ b → u ≤ most.tokens
    → (inside s ≡ true → all_inside next ≡ true)
    → want (if b then u + 1 else 0) (next ++ ss) ≤ most.tokens → want u (s ∷ ss) ≤ most.tokens
take_wants most u s ss next true is counts all later =
    let behind : want (u + 1) ss ≤ want (u + 1) (next ++ ss) = want_behind next ss (u + 1) (all is) in
    let small : want (u + need s) ss ≤ want (u + 1) ss = want_more ss (u + need s) (u + 1) (omega (arith, need_small s)) in
    rw is (omega arith)
take_wants most u s ss next false is counts all later =
    let below : want 0 ss ≤ want 0 (next ++ ss) = want_below next ss 0 in rw is (omega arith)

leave_wants : (most : Limits) (u : ℕ) (s : Sym) (ss : List Sym) (b : Bool) → inside s ≡ b → u ≤ most.tokens → may_end s ≡ true
    → want (if b then u else 0) ss ≤ most.tokens → want u (s ∷ ss) ≤ most.tokens
leave_wants most u s ss true is counts may later =
    let none : need s ≡ 0 = need_none s may in
    let same : u + need s ≡ u = omega arith in
    rw (is, same) later
leave_wants most u s ss false is counts may later = rw is (omega arith)

fits_want : (most : Limits) (n u : ℕ) (ss : List Sym) (ts : List Lexed) → Fits most n u ss ts → want u ss ≤ most.tokens
fits_want most zero u ss ts fits = absurd fits
fits_want most (suc n) u [] ts fits = fits.1
fits_want most (suc n) u (s ∷ ss) ts (inl t) =
    take_wants most u s ss t.next (inside s) refl t.counts
    (λ is. each_rule all_inside (kind_code t.token.kind) t.next (rules_of s) (rules_inside s is) (taking_in _ t.next (rules_of s) t.rule))
    (fits_want most n (after_token s u) (t.next ++ ss) t.rest t.fits)
fits_want most (suc n) u (s ∷ ss) ts (inr l) =
    leave_wants most u s ss (inside s) refl l.counts l.may (fits_want most n (left_out s u) ss ts l.fits)

-- a stack is within the limits
pub record IsAlive (most : Limits) (u : ℕ) (ss : List Sym) : Type 0 where
  pub peaks : peak ss ≤ most.braces
  pub wants : want u ss ≤ most.tokens

-- what fits is within the limits
pub alive : (most : Limits) (u : ℕ) (ss : List Sym) (ts : List Lexed) → Derives most u ss ts → IsAlive most u ss
alive most u ss ts d = record {
  peaks = fits_peak most d.steps u ss ts d.fits;
  wants = fits_want most d.steps u ss ts d.fits;
}
