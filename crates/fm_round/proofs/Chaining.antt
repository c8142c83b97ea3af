-- A chain of numbers into which one is put, and out of which one is taken.
use Rattle.std.proofs.Common.{◌≡◌, ◌⊎◌, ℕ, ◌<◌, ◌≤◌, List, length, set, refl, sym, ◌∙◌, subst, inl, inr, arith, get_or-set_same, get_or-set_other}
use Rattle.std.proofs.lemmas.Bool.{cases_eq, cases_lt}
use Rattle.std.proofs.Math.ListN.{length-set}
use Rattle.fm_round.specs.Chain.{IsChain, IsIdle, Joins, OthersIdle, link}
use Rattle.fm_round.specs.Lanes.{lane}
use Rattle.fm_round.specs.declared.lane.Lane.{Lane}

-- a number of the chain has an index
pub chained_within : (ns : List ℕ) → IsChain ns → (x : ℕ) → 0 < link ns x → x < length ns
chained_within ns chain x on = let rises = chain.rises x on in let within = chain.within x in omega arith

-- between a number and the one behind it there is none
pub none_between : (ns : List ℕ) → IsChain ns → (x k : ℕ) → 0 < link ns k → x < k → link ns x ≤ k
none_between ns chain x k on above = by_order (cases_lt k (link ns x))
  where
    by_order : (k < link ns x) ⊎ (link ns x ≤ k) → link ns x ≤ k
    by_order (inl less) = let off = chain.passed x k above less in absurd (omega arith)
    by_order (inr more) = more

-- ---- two numbers are set

-- what holds at an index and its number behind it, where those of two indices were set
by_index : (ns : List ℕ) (a b u v : ℕ) → a < length ns → b < length ns → (a ≡ b → ⊥) → (P : ℕ → ℕ → Type 0) → P a u → P b v
    → ((k : ℕ) → (k ≡ a → ⊥) → (k ≡ b → ⊥) → P k (link ns k)) → (k : ℕ) → P k (link (set (set ns a u) b v) k)
by_index ns a b u v in_a in_b apart P at_a at_b elsewhere k = by_a (cases_eq k a)
  where
    long : length (set ns a u) ≡ length ns
    long = length-set ns a u

    not_a : (k ≡ a → ⊥) → (k ≡ b) ⊎ (k ≡ b → ⊥) → P k (link (set (set ns a u) b v) k)
    not_a far (inl same) =
        subst (λ (i : ℕ). P i (link (set (set ns a u) b v) i)) (sym same)
        (subst (P b) (sym (get_or-set_same (set ns a u) b v 0 (omega (arith, long)))) at_b)
    not_a far (inr other) =
        subst (P k) (sym (get_or-set_other (set ns a u) b k v 0 other ∙ get_or-set_other ns a k u 0 far)) (elsewhere k far other)

    by_a : (k ≡ a) ⊎ (k ≡ a → ⊥) → P k (link (set (set ns a u) b v) k)
    by_a (inl same) =
        subst (λ (i : ℕ). P i (link (set (set ns a u) b v) i)) (sym same)
        (subst (P a) (sym (get_or-set_other (set ns a u) b a v 0 apart ∙ get_or-set_same ns a u 0 in_a)) at_a)
    by_a (inr far) = not_a far (cases_eq k b)

two_long : (ns : List ℕ) (a b u v : ℕ) → length (set (set ns a u) b v) ≡ length ns
two_long ns a b u v = length-set (set ns a u) b v ∙ length-set ns a u

-- ---- x is put behind `at`

module _ (ns : List ℕ) (at x : ℕ) (chain : IsChain ns) (on : 0 < link ns at) (above : at < x) (below : x < link ns at) where
  x_within : x < length ns
  x_within = let within = chain.within at in omega arith

  joined_at : (P : ℕ → ℕ → Type 0) → P x (link ns at) → P at x
      → ((k : ℕ) → (k ≡ x → ⊥) → (k ≡ at → ⊥) → P k (link ns k)) → (k : ℕ) → P k (link (set (set ns x (link ns at)) at x) k)
  joined_at = by_index ns x at (link ns at) x x_within (chained_within ns chain at on) (λ same. absurd (omega arith))

  joined_kept : (k : ℕ) → 0 < link ns k → 0 < link (set (set ns x (link ns at)) at x) k
  joined_kept = joined_at (λ k v. 0 < link ns k → 0 < v) (λ was. on) (λ was. omega arith) (λ k far other was. was)

  joined_on : 0 < link (set (set ns x (link ns at)) at x) x
  joined_on = joined_at (λ k v. k ≡ x → 0 < v) (λ is. on) (λ is. omega arith) (λ k far other is. absurd (far is)) x refl

  joined_off : (k : ℕ) → (k ≡ x → ⊥) → link ns k ≡ 0 → link (set (set ns x (link ns at)) at x) k ≡ 0
  joined_off = joined_at (λ k v. (k ≡ x → ⊥) → link ns k ≡ 0 → v ≡ 0) (λ far was. absurd (far refl))
      (λ far was. absurd (omega arith)) (λ k far other apart was. was)

  joined_chain : IsChain (set (set ns x (link ns at)) at x)
  joined_chain = record {
    first = joined_kept 0 chain.first;
    rises = joined_at (λ k v. 0 < v → k < v) (λ some. below) (λ some. above) (λ k far other some. chain.rises k some);
    within = λ k. rw two_long (joined_at (λ k v. v ≤ length ns) (chain.within at) (omega (arith, x_within)) (λ k far other.
        chain.within k) k);
    linked = λ k some less. joined_at
        (λ k v. 0 < v → v < length ns → 0 < link (set (set ns x (link ns at)) at x) v)
        (λ some less. joined_kept (link ns at) (chain.linked at on less))
        (λ some less. joined_on)
        (λ k far other some less. joined_kept (link ns k) (chain.linked k some less)) k some
        (simp two_long at less);
    passed = λ y. joined_at (λ y v. (k : ℕ) → y < k → k < v → link (set (set ns x (link ns at)) at x) k ≡ 0)
        (λ k more less. joined_off k (λ same. absurd (omega arith)) (chain.passed at k (omega arith) less))
        (λ k more less. joined_off k (λ same. absurd (omega arith)) (chain.passed at k more (omega arith)))
        (λ y far other k more less. joined_off k (λ same. not_over y other (omega arith) (omega arith)) (chain.passed y k more less)) y;
  }
    where
      not_over : (y : ℕ) → (y ≡ at → ⊥) → y < x → x < link ns y → ⊥
      not_over y other less more = by_order (cases_lt y at)
        where
          by_order : (y < at) ⊎ (at ≤ y) → ⊥
          by_order (inl before) = let off = chain.passed y at before (omega arith) in absurd (omega arith)
          by_order (inr after) = let off = chain.passed at y (omega arith) (omega arith) in absurd (omega arith)

  pub joins : Joins x ns (set (set ns x (link ns at)) at x)
  joins = record {
    chain = joined_chain;
    size = two_long ns x at (link ns at) x;
    joined = joined_on;
    kept = joined_kept;
  }

-- ---- what is behind `at` is taken out

module _ (ns : List ℕ) (at a : ℕ) (chain : IsChain ns) (on : 0 < link ns at) (is : link ns at ≡ a) (there : a < length ns) where
  above : at < a
  above = let rises = chain.rises at on in omega arith

  on_a : 0 < link ns a
  on_a = subst (λ (i : ℕ). 0 < link ns i) is (chain.linked at on (omega arith))

  left_at : (P : ℕ → ℕ → Type 0) → P at (link ns a) → P a 0
      → ((k : ℕ) → (k ≡ at → ⊥) → (k ≡ a → ⊥) → P k (link ns k)) → (k : ℕ) → P k (link (set (set ns at (link ns a)) a 0) k)
  left_at = by_index ns at a (link ns a) 0 (chained_within ns chain at on) there (λ same. absurd (omega (arith, above)))

  -- those behind another one stay in the chain
  left_kept : (k : ℕ) → (k ≡ a → ⊥) → 0 < link ns k → 0 < link (set (set ns at (link ns a)) a 0) k
  left_kept = left_at (λ k v. (k ≡ a → ⊥) → 0 < link ns k → 0 < v) (λ far was. on_a) (λ far was. absurd (far refl))
      (λ k far other apart was. was)

  left_off : (k : ℕ) → (k ≡ at → ⊥) → link ns k ≡ 0 → link (set (set ns at (link ns a)) a 0) k ≡ 0
  left_off = left_at (λ k v. (k ≡ at → ⊥) → link ns k ≡ 0 → v ≡ 0) (λ far was. absurd (far refl)) (λ far was. refl)
      (λ k far other apart was. was)

  a_off : (k : ℕ) → k ≡ a → link (set (set ns at (link ns a)) a 0) k ≡ 0
  a_off = left_at (λ k v. k ≡ a → v ≡ 0) (λ same. absurd (omega (arith, above))) (λ same. refl)
      (λ k far other same. absurd (other same))

  only : (y : ℕ) → (y ≡ at → ⊥) → 0 < link ns y → link ns y ≡ a → ⊥
  only y far some same = by_order (cases_lt y at)
    where
      by_order : (y < at) ⊎ (at ≤ y) → ⊥
      by_order (inl before) = let off = chain.passed y at before (omega (arith, above)) in absurd (omega arith)
      by_order (inr after) =
          let rises = chain.rises y some in
          let off = chain.passed at y (omega arith) (omega arith) in absurd (omega arith)

  pub left_chain : IsChain (set (set ns at (link ns a)) a 0)
  left_chain = record {
    first = left_kept 0 (λ same. absurd (omega (arith, above))) chain.first;
    rises = left_at (λ k v. 0 < v → k < v) (λ some. let rises = chain.rises a on_a in omega (arith, above)) (λ some. absurd (omega arith))
        (λ k far other some. chain.rises k some);
    within = λ k. rw two_long (left_at (λ k v. v ≤ length ns) (chain.within a) (omega arith) (λ k far other. chain.within k) k);
    linked = λ k some less. left_at
        (λ k v. 0 < v → v < length ns → 0 < link (set (set ns at (link ns a)) a 0) v)
        (λ some less. left_kept (link ns a) (λ same. let rises = chain.rises a on_a in absurd (omega arith)) (chain.linked a on_a less))
        (λ some less. absurd (omega arith))
        (λ k far other some less. left_kept (link ns k) (λ same. only k far some same) (chain.linked k some less)) k some
        (simp two_long at less);
    passed = λ y. left_at (λ y v. (k : ℕ) → y < k → k < v → link (set (set ns at (link ns a)) a 0) k ≡ 0)
        (λ k more less. between k more less (cases_eq k a))
        (λ k more less. absurd (omega arith))
        (λ y far other k more less. left_off k (λ same. not_at y k same more less) (chain.passed y k more less)) y;
  }
    where
      by_side : (k : ℕ) → at < k → k < link ns a → (k ≡ a → ⊥) → (k < a) ⊎ (a ≤ k) → link ns k ≡ 0
      by_side k more less far (inl before) = chain.passed at k more (omega arith)
      by_side k more less far (inr after) = chain.passed a k (omega arith) less

      between : (k : ℕ) → at < k → k < link ns a → (k ≡ a) ⊎ (k ≡ a → ⊥) → link (set (set ns at (link ns a)) a 0) k ≡ 0
      between k more less (inl same) = a_off k same
      between k more less (inr far) =
          left_off k (λ same. absurd (omega arith)) (by_side k more less far (cases_lt k a))

      not_at : (y k : ℕ) → k ≡ at → y < k → k < link ns y → ⊥
      not_at y k same more less =
          let off : link ns at ≡ 0 = subst (λ (i : ℕ). link ns i ≡ 0) same (chain.passed y k more less) in absurd (omega arith)

  pub left_size : length (set (set ns at (link ns a)) a 0) ≡ length ns
  left_size = two_long ns at a (link ns a) 0

  pub left_on : 0 < link (set (set ns at (link ns a)) a 0) at
  left_on = left_kept at (λ same. absurd (omega (arith, above))) on

  pub left_behind : link (set (set ns at (link ns a)) a 0) at ≡ link ns a
  left_behind = left_at (λ k v. k ≡ at → v ≡ link ns a) (λ same. refl) (λ same. absurd (omega (arith, above)))
      (λ k far other same. absurd (far same)) at refl

  pub left_idle : (ss : List Lane) → OthersIdle ns ss → IsIdle (lane ss a) → OthersIdle (set (set ns at (link ns a)) a 0) ss
  left_idle ss idle here j within = left_at (λ j v. j < length ss → v ≡ 0 → IsIdle (lane ss j))
      (λ inside off. absurd (omega (arith, on_a)))
      (λ inside off. here)
      (λ k far other inside off. idle k inside off) j within

pub leaves : (ns : List ℕ) (at a v : ℕ) (ss : List Lane) → IsChain ns → 0 < link ns at → link ns at ≡ a → v ≡ link ns a → a < length ns
    → OthersIdle ns ss → IsIdle (lane ss a)
    → IsChain (set (set ns at v) a 0) × (length (set (set ns at v) a 0) ≡ length ns) × OthersIdle (set (set ns at v) a 0) ss
    × (0 < link (set (set ns at v) a 0) at)
leaves ns at a v ss chain on is is_v there idle here =
    subst (λ (u : ℕ). IsChain (set (set ns at u) a 0) × (length (set (set ns at u) a 0) ≡ length ns)
    × OthersIdle (set (set ns at u) a 0) ss × (0 < link (set (set ns at u) a 0) at)) (sym is_v) (
      left_chain ns at a chain on is there,
      left_size ns at a chain on is there,
      left_idle ns at a chain on is there ss idle here,
      left_on ns at a chain on is there,
    )
