-- How the names of a table answer.
use Rattle.std.proofs.Common.{◌≡◌, ℕ, ◌<◌, List, Bool, true, false, cond, refl, sym, ap, subst, ◌∙◌, Some, None, Option}
use Rattle.std.specs.Bool.{Decides}
use Rattle.std.specs.Borrow.{Bor}
use Rattle.std.specs.BTreeMap.{BTreeMap, Updates, UpdatesBy, get_by}
use Rattle.std.specs.declared.cmp.Ordering.{Ordering}
use Rattle.std.specs.declared.cmp.Ordering.TheVariants.{Less, Equal, Greater}
use Rattle.std.specs.Ordering.{MatchOrdering, is_eq, nat_cmp}
use Rattle.std.specs.Cmp.{ranks, nat_cmp_is}
use Rattle.std.specs.Cmp.Lexicographic.{slice_cmp}
use Rattle.std.specs.Str.{bytes_eq}
use Rattle.std.proofs.lemmas.Slice.Eq.{bytes_eq-Decides}
use Rattle.std.proofs.lemmas.Map.Text.{btree_map_updates_str}
use Rattle.fm_names.specs.declared.names.First.{First}
use Rattle.fm_names.specs.Key.{key_of}
use Rattle.fm_names.specs.Named.{chosen, is_free}

-- ---- tests

-- two tests of facts that follow from each other
same_test : (p q : Bool) (P Q : Type 0) → Decides p P → Decides q Q → (P → Q) → (Q → P) → p ≡ q
same_test true true P Q d e there back = refl
same_test false false P Q d e there back = refl
same_test true false P Q d e there back = sym (e.1 (there (d.0 refl)))
same_test false true P Q d e there back = d.1 (back (e.0 refl))

-- the test of two names has no first and second
pub bytes_eq_symmetric : (a b : List ℕ) → bytes_eq a b ≡ bytes_eq b a
bytes_eq_symmetric a b =
    same_test _ _ (a ≡ b) (b ≡ a) (bytes_eq-Decides a b) (bytes_eq-Decides b a) (λ e. sym e) (λ e. sym e)

same_number : (o : Ordering) (P Q R : Type 0) → MatchOrdering o P Q R → is_eq o ≡ true → Q
same_number Less P Q R m e = let no : false ≡ true = e in absurd (cc)
same_number Equal P Q R m e = m
same_number Greater P Q R m e = let no : false ≡ true = e in absurd (cc)

is_eq-same : (m n : ℕ) → is_eq (nat_cmp m n) ≡ true → m ≡ n
is_eq-same m n e = same_number (nat_cmp m n) (m < n) (m ≡ n) (n < m) (ranks m n) e

same-is_eq : (m n : ℕ) → m ≡ n → is_eq (nat_cmp m n) ≡ true
same-is_eq m n e = sym (ap is_eq (nat_cmp_is m n Equal e))

-- ---- one definition more

kept : {V : Type 0} (e b : Bool) (other : List ℕ) (first : First V) (before : Option (First V)) (o : Option V)
    → bytes_eq first.text.now other ≡ b → (b ≡ true → e ≡ true)
    → (e ≡ true → b ≡ false → chosen other before o ≡ o)
    → chosen other (cond e (Some first) before) o ≡ cond b (Some first.value) (chosen other before o)
kept true true other first before o is up same = ap (λ t. cond t (Some first.value) o) is
kept true false other first before o is up same = ap (λ t. cond t (Some first.value) o) is ∙ sym (same refl refl)
kept false true other first before o is up same = let no : false ≡ true = up refl in cc
kept false false other first before o is up same = refl

-- a key that is free for one name has nothing of another
free_of : {V : Type 0} (name other : List ℕ) (first : Option (First V)) (o : Option V)
    → is_free name first ≡ true → bytes_eq name other ≡ false → chosen other first o ≡ o
free_of name other None o free apart = refl
free_of name other (Some first) o free apart =
    let texts : first.text.now ≡ name = (bytes_eq-Decides first.text.now name).0 free in
    ap (λ t. cond t (Some first.value) o) (ap (λ n. bytes_eq n other) texts ∙ apart)

-- a name at its key
pub first_defined : {V : Type 0} (m n : BTreeMap ℕ (First V)) (o : Option V) (name other : List ℕ) (number : ℕ)
    (first : First V) → number ≡ key_of name → first.text.now ≡ name
    → is_free name (get_by (nat_cmp (key_of name)) m) ≡ true → Updates nat_cmp m n number (Some first)
    → chosen other (get_by (nat_cmp (key_of other)) n) o
    ≡ cond (bytes_eq other name) (Some first.value) (chosen other (get_by (nat_cmp (key_of other)) m) o)
first_defined m n o name other number first is texts free updates =
    ap (λ f. chosen other f o) (updates.0 (key_of other))
    ∙ kept (is_eq (nat_cmp number (key_of other))) (bytes_eq other name) other first
    (get_by (nat_cmp (key_of other)) m) o
    (ap (λ t. bytes_eq t other) texts ∙ bytes_eq_symmetric name other)
    (λ e. same-is_eq number (key_of other) (is ∙ ap key_of (sym ((bytes_eq-Decides other name).0 e))))
    (λ e apart.
    free_of name other (get_by (nat_cmp (key_of other)) m) o
    (subst (λ (p : ℕ). is_free name (get_by (nat_cmp p) m) ≡ true)
    (sym is ∙ is_eq-same number (key_of other) e) free)
    (bytes_eq_symmetric name other ∙ apart))

passed : {V : Type 0} (b : Bool) (other : List ℕ) (first : Option (First V)) (v : V) (o : Option V)
    → (b ≡ true → is_free other first ≡ false)
    → chosen other first (cond b (Some v) o) ≡ cond b (Some v) (chosen other first o)
passed true other None v o taken = let no : true ≡ false = taken refl in cc
passed true other (Some first) v o taken = ap (λ t. cond t (Some first.value) (Some v)) (taken refl)
passed false other first v o taken = refl

-- a name whose key is another's
pub other_defined : {V : Type 0} (firsts : BTreeMap ℕ (First V)) (m n : BTreeMap (Bor (List ℕ)) V) (name other : List ℕ)
    (v : V) → is_free name (get_by (nat_cmp (key_of name)) firsts) ≡ false
    → UpdatesBy (λ x y. slice_cmp nat_cmp x.now y.now) (λ k. slice_cmp nat_cmp name k.now) m n (Some v)
    → chosen other (get_by (nat_cmp (key_of other)) firsts) (get_by (λ k. slice_cmp nat_cmp other k.now) n)
    ≡ cond (bytes_eq other name) (Some v)
    (chosen other (get_by (nat_cmp (key_of other)) firsts) (get_by (λ k. slice_cmp nat_cmp other k.now) m))
other_defined firsts m n name other v taken updates =
    ap (chosen other (get_by (nat_cmp (key_of other)) firsts))
    (btree_map_updates_str name m n (Some v) updates other
    ∙ ap (λ b. cond b (Some v) (get_by (λ k. slice_cmp nat_cmp other k.now) m)) (bytes_eq_symmetric name other))
    ∙ passed (bytes_eq other name) other (get_by (nat_cmp (key_of other)) firsts) v
    (get_by (λ k. slice_cmp nat_cmp other k.now) m)
    (λ e.
    subst (λ (q : List ℕ). is_free q (get_by (nat_cmp (key_of q)) firsts) ≡ false)
    (sym ((bytes_eq-Decides other name).0 e)) taken)
