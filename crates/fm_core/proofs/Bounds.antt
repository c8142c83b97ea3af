-- The greatest of some numbers, and bounds: they never fall.
use Rattle.std.proofs.Common.{◌≡◌, ℕ, zero, suc, ◌<◌, ◌≤◌, List, [], ◌∷◌, length, get_or, Bool, true, false, refl, arith, le_trans}
use Rattle.std.specs.Prelude.{map, if◌then◌else◌}
use Rattle.fm_line.specs.Line.{line, greatest, ValidLines}
use Rattle.fm_core.specs.State.{Setting, State, cell, cell_in}
use Rattle.fm_core.specs.Sweep.{bound_within, bound}
use Rattle.fm_core.specs.Tags.{is_unborn}
use Rattle.fm_core.specs.declared.cell.Cell.{Cell}

-- each number of a list is at most the greatest
pub greatest_above : (f : ℕ → ℕ) (xs : List ℕ) (i : ℕ) → i < length xs → f (get_or xs i 0) ≤ greatest (map f xs)
greatest_above f [] i lt = absurd (omega arith)
greatest_above f (x ∷ xs) zero lt = omega arith
greatest_above f (x ∷ xs) (suc i) lt = let a = greatest_above f xs i (omega arith) in omega arith

-- the greatest of the same numbers is the same
pub same_greatest : (f g : ℕ → ℕ) (xs : List ℕ) → ((i : ℕ) → i < length xs → f (get_or xs i 0) ≡ g (get_or xs i 0))
    → greatest (map f xs) ≡ greatest (map g xs)
same_greatest f g [] each = refl
same_greatest f g (x ∷ xs) each = let a = each 0 (omega arith) in let b = same_greatest f g xs (λ i lt. each (suc i) (omega arith)) in
    rw (a, b) refl

-- numbers that are nowhere greater have no greater greatest
pub greatest_on : (f g : ℕ → ℕ) (xs : List ℕ) → ((i : ℕ) → i < length xs → f (get_or xs i 0) ≤ g (get_or xs i 0))
    → greatest (map f xs) ≤ greatest (map g xs)
greatest_on f g [] each = omega arith
greatest_on f g (x ∷ xs) each = let a = each 0 (omega arith) in let b = greatest_on f g xs (λ i lt. each (suc i) (omega arith)) in
    omega arith

-- the greatest is at most what each is at most
pub greatest_below : (f : ℕ → ℕ) (xs : List ℕ) (m : ℕ) → ((i : ℕ) → i < length xs → f (get_or xs i 0) ≤ m) → greatest (map f xs) ≤ m
greatest_below f [] m each = omega arith
greatest_below f (x ∷ xs) m each = let a = each 0 (omega arith) in let b = greatest_below f xs m (λ i lt. each (suc i) (omega arith)) in
    omega arith

-- more births change nothing once there are enough
pub enough : (g : Setting) (cs : List Cell) → ValidLines g.lines → (n j : ℕ) → j < n → bound_within n g cs j ≡ bound_within (suc n) g cs j
enough g cs valid zero j lt = absurd (omega arith)
enough g cs valid (suc n) j lt = go (is_unborn (cell_in cs j).tag) (λ i less. enough g cs valid n i (omega arith))
  where
    go : (x : Bool) → ((i : ℕ) → i < j → bound_within n g cs i ≡ bound_within (suc n) g cs i)
        → (if x then greatest (map (bound_within n g cs) (line g.lines j).predecessors) else (cell_in cs j).clock)
        ≡ (if x then greatest (map (bound_within (suc n) g cs) (line g.lines j).predecessors) else (cell_in cs j).clock)
    go true before = same_greatest (bound_within n g cs) (bound_within (suc n) g cs) (line g.lines j).predecessors
        (λ i near. before (get_or (line g.lines j).predecessors i 0) (valid.below j i 0 near))
    go false before = refl

-- the bound of a born process is its clock
pub bound_born : (g : Setting) (h : State) (j : ℕ) → is_unborn (cell h j).tag ≡ false → bound g h j ≡ (cell h j).clock
bound_born g h j e = rw e refl

-- the bound of an unborn process is the greatest of its predecessors' bounds
pub bound_unborn : (g : Setting) (h : State) → ValidLines g.lines → (j : ℕ) → j < length h.cells → is_unborn (cell h j).tag ≡ true
    → bound g h j ≡ greatest (map (bound g h) (line g.lines j).predecessors)
bound_unborn g h valid j lt e = rw e (same_greatest (bound_within (length h.cells) g h.cells) (bound g h) (line g.lines j).predecessors
    (λ i near. let low = valid.below j i 0 near in
    enough g h.cells valid (length h.cells) (get_or (line g.lines j).predecessors i 0) (omega arith)))

-- an unborn process's bound is at least the bound of each predecessor
pub bound_above : (g : Setting) (h : State) → ValidLines g.lines → (j i : ℕ) → j < length h.cells → is_unborn (cell h j).tag ≡ true
    → i < length (line g.lines j).predecessors → bound g h (get_or (line g.lines j).predecessors i 0) ≤ bound g h j
bound_above g h valid j i lt e near = rw (bound_unborn g h valid j lt e) (greatest_above (bound g h) (line g.lines j).predecessors i near)

-- no clock falls, and who is born begins where its predecessors are
pub record Onward (g : Setting) (cs ds : List Cell) : Type 0 where
  pub born : (j : ℕ) → is_unborn (cell_in cs j).tag ≡ false → (is_unborn (cell_in ds j).tag ≡ false)
      × ((cell_in cs j).clock ≤ (cell_in ds j).clock)
  pub births : (j i : ℕ) → is_unborn (cell_in cs j).tag ≡ true → is_unborn (cell_in ds j).tag ≡ false
      → i < length (line g.lines j).predecessors
      → (is_unborn (cell_in cs (get_or (line g.lines j).predecessors i 0)).tag ≡ false)
      × ((cell_in cs (get_or (line g.lines j).predecessors i 0)).clock ≤ (cell_in ds j).clock)

when_born : (n : ℕ) (g : Setting) (cs : List Cell) (j : ℕ) → is_unborn (cell_in cs j).tag ≡ false
    → bound_within n g cs j ≤ (cell_in cs j).clock
when_born zero g cs j e = omega arith
when_born (suc n) g cs j e = rw e (omega arith)

-- no bound falls
pub bounds_rise : (n : ℕ) (g : Setting) (cs ds : List Cell) → Onward g cs ds → (j : ℕ) → bound_within n g cs j ≤ bound_within n g ds j
bounds_rise zero g cs ds m j = omega arith
bounds_rise (suc n) g cs ds m j = go (is_unborn (cell_in cs j).tag) (is_unborn (cell_in ds j).tag) refl refl (bounds_rise n g cs ds m)
  where
    go : (x y : Bool) → is_unborn (cell_in cs j).tag ≡ x → is_unborn (cell_in ds j).tag ≡ y
        → ((i : ℕ) → bound_within n g cs i ≤ bound_within n g ds i)
        → (if x then greatest (map (bound_within n g cs) (line g.lines j).predecessors) else (cell_in cs j).clock)
        ≤ (if y then greatest (map (bound_within n g ds) (line g.lines j).predecessors) else (cell_in ds j).clock)
    go false false e f before_it = (m.born j e).1
    go false true e f before_it = let k = (m.born j e).0 in absurd (cc)
    go true false e f before_it = greatest_below (bound_within n g cs) (line g.lines j).predecessors (cell_in ds j).clock
        (λ i lt. let k = m.births j i e f lt in le_trans (when_born n g cs (get_or (line g.lines j).predecessors i 0) k.0) k.1)
    go true true e f before_it = greatest_on (bound_within n g cs) (bound_within n g ds) (line g.lines j).predecessors
        (λ i lt. before_it (get_or (line g.lines j).predecessors i 0))
