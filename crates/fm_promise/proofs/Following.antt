-- Marks whose notes end with their durations: where they lie, and that those of one process sound in their order.
use Rattle.std.proofs.Common.{◌≡◌, ℕ, ◌≤◌, ◌⊎◌, inl, inr, Bool, true, false, List, [], ◌∷◌, ◌++◌, map, max, refl, arith}
use Rattle.std.specs.Prelude.{if◌then◌else◌}
use Rattle.std.specs.List.{AllByRecursion}
use Rattle.fm_line.specs.Marks.{Mark, mapped, has_ending, mark_time}
use Rattle.fm_promise.proofs.Lists.{each_append, each_mapped, each_weaken}
use Rattle.fm_promise.proofs.Ordered.{time_from}

-- a map that keeps order, and another one that keeps order and lies nowhere above it
pub record TwoMaps (f g : ℕ → ℕ) : Type 0 where
  pub onsets : (x y : ℕ) → x ≤ y → f x ≤ f y
  pub endings : (x y : ℕ) → x ≤ y → g x ≤ g y
  pub below : (x : ℕ) → g x ≤ f x

-- ---- one mark

-- it begins and ends between two positions; only a note-off has an ending of its own
pub record Inside (low high : ℕ) (m : Mark) : Type 0 where
  pub from : low ≤ m.onset
  pub to : m.onset ≤ high
  pub ends : m.ending ≤ high
  pub steady : has_ending m.msg ≡ false → m.ending ≡ m.onset

-- inside wider positions
pub inside_wider : (low high lower higher : ℕ) → lower ≤ low → high ≤ higher → (m : Mark) → Inside low high m → Inside lower higher m
inside_wider low high lower higher down up m b = record {
  from = omega (arith, down, b.from);
  to = omega (arith, up, b.to);
  ends = omega (arith, up, b.ends);
  steady = b.steady;
}

-- the ending of a mapped mark is not above that of its onset's map
mapped_ending : (f g : ℕ → ℕ) (m : Mark) → TwoMaps f g → (mapped f g m).ending ≤ f m.ending
mapped_ending f g m maps = by_kind f g (has_ending m.msg) m.ending maps
  where
    by_kind : (f g : ℕ → ℕ) (off : Bool) (x : ℕ) → TwoMaps f g → (if off then g x else f x) ≤ f x
    by_kind f g true x maps = maps.below x
    by_kind f g false x maps = omega arith

-- a mark without an ending of its own is mapped as its onset
mapped_steady : (f g : ℕ → ℕ) (off : Bool) (x y : ℕ) → off ≡ false → x ≡ y → (if off then g x else f x) ≡ f y
mapped_steady f g off x y is same = rw (is, same) refl

-- mapped inside the maps of both positions
pub inside_mapped : (f g : ℕ → ℕ) (low high : ℕ) → TwoMaps f g → (m : Mark) → Inside low high m → Inside (f low) (f high) (mapped f g m)
inside_mapped f g low high maps m b = record {
  from = maps.onsets low m.onset b.from;
  to = maps.onsets m.onset high b.to;
  ends = omega (arith, mapped_ending f g m maps, maps.onsets m.ending high b.ends);
  steady = λ is. mapped_steady f g (has_ending m.msg) m.ending m.onset is (b.steady is);
}

-- ---- two marks

-- two note-offs, the second of which ends no earlier
pub record BothEnd (x y : Mark) : Type 0 where
  pub first : has_ending x.msg ≡ true
  pub second : has_ending y.msg ≡ true
  pub order : x.ending ≤ y.ending

-- the second begins no earlier than the first begins, and than it ends, or both end
pub record Follows (x y : Mark) : Type 0 where
  pub begins : x.onset ≤ y.onset
  pub ends : (x.ending ≤ y.onset) ⊎ BothEnd x y

-- a note-off is mapped by the second map
mapped_off : (f g : ℕ → ℕ) (off : Bool) (x : ℕ) → off ≡ true → (if off then g x else f x) ≡ g x
mapped_off f g off x is = rw is refl

-- so they stay mapped
follows_mapped : (f g : ℕ → ℕ) → TwoMaps f g → (x y : Mark) → Follows x y → Follows (mapped f g x) (mapped f g y)
follows_mapped f g maps x y o = record {
  begins = maps.onsets x.onset y.onset o.begins;
  ends = elim o.ends as (λ _. ((mapped f g x).ending ≤ f y.onset) ⊎ BothEnd (mapped f g x) (mapped f g y)) [
    | inl apart ↦ inl (omega (arith, mapped_ending f g x maps, maps.onsets x.ending y.onset apart))
    | inr both ↦ inr (record {
      first = both.first;
      second = both.second;
      order = omega (
        arith,
        mapped_off f g (has_ending x.msg) x.ending both.first,
        mapped_off f g (has_ending y.msg) y.ending both.second,
        maps.endings x.ending y.ending both.order,
      );
    })
  ];
}

-- when a mark sounds, by its kind
time_by : (off : Bool) (x y : ℕ) → (if off then max x y else x) ≤ max x y
time_by true x y = omega arith
time_by false x y = omega arith

-- a mark sounds no later than it begins or ends
time_to : (m : Mark) (t : ℕ) → m.onset ≤ t → m.ending ≤ t → mark_time m ≤ t
time_to m t begins ends = omega (arith, time_by (has_ending m.msg) m.onset m.ending, begins, ends)

-- a note-off sounds no earlier than it ends
off_time : (off : Bool) (x y : ℕ) → off ≡ true → y ≤ (if off then max x y else x)
off_time off x y is = rw is (omega arith)

-- such marks sound in their order
pub following_times : (x y : Mark) → Follows x y → mark_time x ≤ mark_time y
following_times x y o =
    time_to x (mark_time y) (omega (arith, o.begins, time_from y))
    (elim o.ends as (λ _. x.ending ≤ mark_time y) [
      | inl apart ↦ omega (arith, apart, time_from y)
      | inr both ↦ omega (arith, both.order, off_time (has_ending y.msg) y.onset y.ending both.second)
    ])

-- ---- lists

-- the second follows the first where both are of one process
abbrev pub Later : Mark → Mark → Type 0
Later x y = x.process ≡ y.process → Follows x y

-- each mark follows those of its process before it
abbrev pub InOrder : List Mark → Type 0
InOrder [] = Unit {0}
InOrder (x ∷ xs) = AllByRecursion (Later x) xs × InOrder xs

-- each of the second list follows those of its process in the first
abbrev pub FollowEach : List Mark → List Mark → Type 0
FollowEach xs ys = AllByRecursion (λ x. AllByRecursion (Later x) ys) xs

-- two lists joined
pub order_append : (xs ys : List Mark) → InOrder xs → InOrder ys → FollowEach xs ys → InOrder (xs ++ ys)
order_append [] ys first second across = second
order_append (x ∷ xs) ys first second across =
    (each_append (Later x) xs ys first.0 across.0, order_append xs ys first.1 second across.1)

-- a mark that is over by a position before one that begins there
pub over_before : (t : ℕ) (x y : Mark) → x.onset ≤ t → x.ending ≤ t → t ≤ y.onset → Follows x y
over_before t x y begun over later = record {
  begins = omega (arith, begun, later);
  ends = inl (omega (arith, over, later));
}

-- lists that lie apart
pub follow_apart : (low t high : ℕ) (xs ys : List Mark) → AllByRecursion (Inside low t) xs → AllByRecursion (Inside t high) ys
    → FollowEach xs ys
follow_apart low t high xs ys first second =
    each_weaken (Inside low t) (λ x. AllByRecursion (Later x) ys)
    (λ x b. each_weaken (Inside t high) (Later x) (λ y c _. over_before t x y b.to b.ends c.from) ys second) xs first

-- lists that are mapped
pub order_mapped : (f g : ℕ → ℕ) (ms : List Mark) → TwoMaps f g → InOrder ms → InOrder (map (mapped f g) ms)
order_mapped f g [] maps order = tt
order_mapped f g (x ∷ xs) maps order = (
  each_mapped (Later x) (Later (mapped f g x)) (mapped f g) (λ y b is. follows_mapped f g maps x y (b is)) xs order.0,
  order_mapped f g xs maps order.1,
)
