-- Open frames by their number: what is read and changed at one of them.
use Rattle.std.proofs.Common.{◌≡◌, ◌≢◌, refl, sym, ◌∙◌, ap, subst, arith, ℕ, zero, suc, ◌+◌, ◌-◌, ◌<◌, ◌≤◌, List, [], ◌∷◌, ◌++◌, length, Bool, true, false, nat_eq, if◌then◌else◌, slice_index_or, slice_set, length-append, length-set, drop, All}
use Rattle.std.proofs.lemmas.Bool.{eqb-true, eq-eqb}
use Rattle.std.specs.List.{refill}
use Rattle.std.proofs.lemmas.List.{take_at, get_or-set_other, get_or-set_same, get_or_default}
use Rattle.std.proofs.lemmas.List.Elements.{All-cons, All-nil, All-append}
use Rattle.std.proofs.Math.ListN.{get_or-append}
use Rattle.std.proofs.Math.Seq.{get_or-append_seam}
use Rattle.fm_program.specs.Parts.{StockParts}
use Rattle.fm_program.specs.Needs.{loops_back}
use Rattle.fm_program.specs.State.{OpenFrame, counting, cycling, Standing, entry_drawn, frame_index, index_at, frame_entry, frame_moved, cycle_entry, cycle_moved}
use Rattle.fm_program.specs.Run.{round_over}
use Rattle.fm_player.specs.declared.frame.Frame.{Frame}
use Rattle.fm_player.specs.declared.frame.Frame.TheVariants.{Counting, Cycling}
use Rattle.fm_player.specs.declared.draws.Draws.{Draws}
use Rattle.fm_player.specs.Drawing.{no_frame, no_open, frame_at, FrameStands, FramesStand, DrawsStand, DrawsTo, IsFrame}

-- ---- tests on numbers

pub nat_eq-same : (n : ℕ) → nat_eq n n ≡ true
nat_eq-same n = eq-eqb n n refl

-- a test of two other numbers fails
pub nat_eq-other : (k n : ℕ) → k ≢ n → nat_eq k n ≡ false
nat_eq-other k n apart = go (nat_eq k n) refl
  where
    go : (b : Bool) → nat_eq k n ≡ b → nat_eq k n ≡ false
    go true e = absurd (apart (eqb-true k n e))
    go false e = e

pub nat_eq-less : (k n : ℕ) → k < n → nat_eq k n ≡ false
nat_eq-less k n less = nat_eq-other k n (λ e. omega arith)

-- a list that was lent as a slice comes back whole
pub refilled : {A : Type 0} (xs back : List A) → length back ≡ length xs → refill (length xs) xs back ≡ back
refilled xs back same = take_at back (drop (length back) xs) (length xs) same

pub false_true : false ≡ true → ⊥
false_true is = cc

-- a test that fails is of two numbers
nat_eq-apart : (k n : ℕ) → nat_eq k n ≡ false → k ≢ n
nat_eq-apart k n is = λ e. false_true (sym is ∙ eq-eqb k n e)

-- ---- one frame

-- the innermost frame has the number of those outside it
pub frame_at-inner : (f : OpenFrame) (fs : List OpenFrame) → frame_at (length fs) (f ∷ fs) ≡ f
frame_at-inner f fs = rw nat_eq-same refl

-- a frame keeps its number where one more is opened
pub frame_at-outer : (k : ℕ) (f : OpenFrame) (fs : List OpenFrame) → k < length fs → frame_at k (f ∷ fs) ≡ frame_at k fs
frame_at-outer k f fs less = rw (nat_eq-less k (length fs) less) refl

choose : {A B : Type 0} (b : Bool) (g : A → B) (x y : A) (z : B) → g y ≡ z
    → g (if b then x else y) ≡ (if b then g x else z)
choose true g x y z is = refl
choose false g x y z is = is

-- the index of a frame
pub index_at-frame : (k : ℕ) (fs : List OpenFrame) → index_at k fs ≡ frame_index (frame_at k fs)
index_at-frame k [] = refl
index_at-frame k (f ∷ fs) = sym (choose (nat_eq k (length fs)) frame_index f _ _ (sym (index_at-frame k fs)))

-- the next entry of a frame
pub cycle_entry-frame : (k : ℕ) (fs : List OpenFrame) → cycle_entry k fs ≡ frame_entry (frame_at k fs)
cycle_entry-frame k [] = refl
cycle_entry-frame k (f ∷ fs) = sym (choose (nat_eq k (length fs)) frame_entry f _ _ (sym (cycle_entry-frame k fs)))

-- ---- a frame that is not there

pub frame_at-none : (k : ℕ) (fs : List OpenFrame) → length fs ≤ k → frame_at k fs ≡ no_open
frame_at-none k [] past = refl
frame_at-none k (f ∷ fs) past = rw other (frame_at-none k fs (omega arith))
  where
    other : nat_eq k (length fs) ≡ false
    other = nat_eq-other k (length fs) (λ e. omega arith)

pub cycle_moved-none : (k : ℕ) (fs : List OpenFrame) → length fs ≤ k → cycle_moved k fs ≡ fs
cycle_moved-none k [] past = refl
cycle_moved-none k (f ∷ fs) past = rw other (ap (λ ys. f ∷ ys) (cycle_moved-none k fs (omega arith)))
  where
    other : nat_eq k (length fs) ≡ false
    other = nat_eq-other k (length fs) (λ e. omega arith)

-- ---- a cursor that moves on

pub cycle_moved-length : (k : ℕ) (fs : List OpenFrame) → length (cycle_moved k fs) ≡ length fs
cycle_moved-length k [] = refl
cycle_moved-length k (f ∷ fs) = on (nat_eq k (length fs)) (cycle_moved-length k fs)
  where
    on : (b : Bool) → length (cycle_moved k fs) ≡ length fs
        → length (if b then frame_moved f ∷ fs else f ∷ cycle_moved k fs) ≡ suc (length fs)
    on true later = refl
    on false later = ap suc later

-- the frame with the number
pub frame_at-moved : (k : ℕ) (fs : List OpenFrame) → k < length fs
    → frame_at k (cycle_moved k fs) ≡ frame_moved (frame_at k fs)
frame_at-moved k [] less = absurd (omega arith)
frame_at-moved k (f ∷ fs) less = on (frame_at-moved k fs) (nat_eq k (length fs)) refl
  where
    on : (k < length fs → frame_at k (cycle_moved k fs) ≡ frame_moved (frame_at k fs))
        → (b : Bool) → nat_eq k (length fs) ≡ b
        → frame_at k (if b then frame_moved f ∷ fs else f ∷ cycle_moved k fs)
        ≡ frame_moved (if b then f else frame_at k fs)
    on later true is = rw is refl
    on later false is =
        let apart = nat_eq-apart k (length fs) is in
        rw (cycle_moved-length, is) (later (omega arith))

-- any other one
pub frame_at-kept : (j k : ℕ) (fs : List OpenFrame) → j ≢ k → frame_at j (cycle_moved k fs) ≡ frame_at j fs
frame_at-kept j k [] other = refl
frame_at-kept j k (f ∷ fs) other = on (frame_at-kept j k fs other) (nat_eq k (length fs)) refl
  where
    on : frame_at j (cycle_moved k fs) ≡ frame_at j fs → (b : Bool) → nat_eq k (length fs) ≡ b
        → frame_at j (if b then frame_moved f ∷ fs else f ∷ cycle_moved k fs)
        ≡ (if nat_eq j (length fs) then f else frame_at j fs)
    on later true is = rw apart refl
      where
        apart : nat_eq j (length fs) ≡ false
        apart = nat_eq-other j (length fs) (λ e. other (e ∙ sym (eqb-true k (length fs) is)))
    on later false is = rw (cycle_moved-length, later) refl

-- ---- frames of a state

-- the index of a loop that stands for a frame
pub frame-shown : (t : StockParts) (i l b : ℕ) (y : OpenFrame) → FrameStands t (Counting i l b) y → i ≡ frame_index y
frame-shown t i l b (counting i' l' b') stands = stands.0
frame-shown t i l b (cycling es c) stands = absurd stands

-- a list has none
pub frame-hidden : (t : StockParts) (l c : ℕ) (y : OpenFrame) → FrameStands t (Cycling l c) y → 0 ≡ frame_index y
frame-hidden t l c (counting i' l' b') stands = absurd stands
frame-hidden t l c (cycling es n) stands = refl

-- the frame with a number, read with any default
pub FramesStand-stored : (t : StockParts) (xs : List Frame) (fs : List OpenFrame) (k : ℕ) (d : Frame) → FramesStand t xs fs
    → k < length xs → FrameStands t (slice_index_or xs k d) (frame_at k fs)
FramesStand-stored t xs fs k d stands within =
    subst (λ (y : Frame). FrameStands t y (frame_at k fs)) (get_or_default xs k no_frame d within) (stands.each k within)

-- the same of an element that is read
pub FramesStand-at : (t : StockParts) (xs : List Frame) (fs : List OpenFrame) (k : ℕ) (x : Frame) → FramesStand t xs fs
    → k < length xs → x ≡ slice_index_or xs k x → FrameStands t x (frame_at k fs)
FramesStand-at t xs fs k x stands within is =
    subst (λ (y : Frame). FrameStands t y (frame_at k fs)) (sym is) (FramesStand-stored t xs fs k x stands within)

-- the list whose cursor moved on stands for the frame that did
pub FramesStand-moved : (t : StockParts) (xs : List Frame) (fs : List OpenFrame) (k : ℕ) (y : Frame)
    → FramesStand t xs fs → k < length xs → FrameStands t y (frame_moved (frame_at k fs))
    → FramesStand t (slice_set xs k y) (cycle_moved k fs)
FramesStand-moved t xs fs k y stands within moved = record {
  count = omega (arith, length-set xs k y, cycle_moved-length k fs, stands.count);
  each = λ j below. at j (omega (arith, length-set xs k y)) (nat_eq j k) refl;
}
  where
    inside : k < length fs
    inside = omega (arith, stands.count)

    at : (j : ℕ) → j < length xs → (b : Bool) → nat_eq j k ≡ b
        → FrameStands t (slice_index_or (slice_set xs k y) j no_frame) (frame_at j (cycle_moved k fs))
    at j below true is =
        let here = eqb-true j k is in
        rw (here, get_or-set_same, frame_at-moved k fs inside) moved
    at j below false is =
        let apart = nat_eq-apart j k is in
        rw (get_or-set_other, frame_at-kept j k fs apart) (stands.each j below)

-- a frame that is opened
pub FramesStand-pushed : (t : StockParts) (xs : List Frame) (fs : List OpenFrame) (x : Frame) (f : OpenFrame)
    → FramesStand t xs fs → FrameStands t x f → FramesStand t (xs ++ x ∷ []) (f ∷ fs)
FramesStand-pushed t xs fs x f stands one = record {
  count = omega (arith, length-append xs (x ∷ []), stands.count);
  each = λ k below. at k (omega (arith, length-append xs (x ∷ []))) (nat_eq k (length fs)) refl;
}
  where
    at : (k : ℕ) → k < suc (length xs) → (b : Bool) → nat_eq k (length fs) ≡ b
        → FrameStands t (slice_index_or (xs ++ x ∷ []) k no_frame) (if b then f else frame_at k fs)
    at k below true is =
        let same = eqb-true k (length fs) is in
        let here : k ≡ length xs = omega (arith, stands.count) in
        rw (here, get_or-append_seam xs x [] no_frame) one
    at k below false is =
        let apart = nat_eq-apart k (length fs) is in
        let less : k < length xs = omega (arith, stands.count) in
        rw get_or-append (stands.each k less)

-- a frame that is closed
pub FramesStand-popped : (t : StockParts) (xs : List Frame) (fs : List OpenFrame) (x : Frame) (f : OpenFrame)
    → FramesStand t (xs ++ x ∷ []) (f ∷ fs) → FramesStand t xs fs
FramesStand-popped t xs fs x f stands = record {
  count = omega (arith, stands.count, length-append xs (x ∷ []));
  each = λ k below. at k below (nat_eq k (length fs)) refl;
}
  where
    counted : length xs ≡ length fs
    counted = omega (arith, stands.count, length-append xs (x ∷ []))

    at : (k : ℕ) → k < length xs → (b : Bool) → nat_eq k (length fs) ≡ b → FrameStands t (slice_index_or xs k no_frame) (frame_at k fs)
    at k below true is = let same = eqb-true k (length fs) is in absurd (omega (arith, counted))
    at k below false is =
        rw (← frame_at-outer k f fs (omega (arith, counted)), ← get_or-append xs (x ∷ []) no_frame k below)
        (stands.each k (omega (arith, length-append xs (x ∷ []))))

pub FrameStands-popped : (t : StockParts) (xs : List Frame) (fs : List OpenFrame) (x : Frame) (f : OpenFrame)
    → FramesStand t (xs ++ x ∷ []) (f ∷ fs) → FrameStands t x f
FrameStands-popped t xs fs x f stands =
    let counted : length xs ≡ length fs = omega (arith, stands.count, length-append xs (x ∷ [])) in
    let one = stands.each (length xs) (omega (arith, length-append xs (x ∷ []))) in
    let seen = subst (λ (y : Frame). FrameStands t y (frame_at (length xs) (f ∷ fs))) (get_or-append_seam xs x [] no_frame) one in
    let numbered = subst (λ (k : ℕ). FrameStands t x (frame_at k (f ∷ fs))) counted seen in
    subst (FrameStands t x) (frame_at-inner f fs) numbered

-- ---- rounds

-- no list is innermost where a loop goes back
pub no_list-goes_back : (t : StockParts) (l c back : ℕ) (xs : List Frame) (fs : List OpenFrame)
    → FramesStand t (xs ++ Cycling l c ∷ []) fs → loops_back back fs ≡ true → ⊥
no_list-goes_back t l c back xs [] stands goes = false_true goes
no_list-goes_back t l c back xs (counting i n b ∷ fs) stands goes = FrameStands-popped t xs fs _ _ stands
no_list-goes_back t l c back xs (cycling es n ∷ fs) stands goes = false_true goes

-- a loop with rounds left goes back with the next index
pub round-goes : (t : StockParts) (d : Draws) (s : Standing) (fs : List OpenFrame) (xs : List Frame) (i l b back : ℕ)
    → d.registers ≡ s.registers → d.dice ≡ s.dice → d.frames.items ≡ xs ++ Counting (i + 1) (l - 1) b ∷ []
    → FramesStand t (xs ++ Counting i l b ∷ []) fs → loops_back back fs ≡ true → 0 < l
    → DrawsStand t d (round_over back s fs) × ((round_over back s fs).operation ≡ back)
round-goes t d s [] xs i l b back registers dice items stands goes more = absurd (false_true goes)
round-goes t d s (cycling es c ∷ fs) xs i l b back registers dice items stands goes more = absurd (false_true goes)
round-goes t d s (counting j zero b' ∷ fs) xs i l b back registers dice items stands goes more =
    let one = FrameStands-popped t xs fs _ _ stands in absurd (omega (arith, one.1))
round-goes t d s (counting j (suc n) b' ∷ fs) xs i l b back registers dice items stands goes more =
    let one = FrameStands-popped t xs fs _ _ stands in
    let here : FrameStands t (Counting (i + 1) (l - 1) b) (counting (j + 1) n b') =
    (omega (arith, one.0), omega (arith, one.1), one.2) in (
      record {
        registers = registers;
        dice = dice;
        frames = subst (λ (ys : List Frame). FramesStand t ys (counting (j + 1) n b' ∷ fs)) (sym items)
            (FramesStand-pushed t xs fs _ _ (FramesStand-popped t xs fs _ _ stands) here);
      },
      refl,
    )

-- a loop with none left is closed
pub round-ends : (t : StockParts) (d : Draws) (s : Standing) (fs : List OpenFrame) (xs : List Frame) (i l b back : ℕ)
    → d.registers ≡ s.registers → d.dice ≡ s.dice → d.frames.items ≡ xs
    → FramesStand t (xs ++ Counting i l b ∷ []) fs → loops_back back fs ≡ true → l ≡ 0
    → DrawsStand t d (round_over back s fs) × ((round_over back s fs).operation ≡ s.operation + 1)
round-ends t d s [] xs i l b back registers dice items stands goes none = absurd (false_true goes)
round-ends t d s (cycling es c ∷ fs) xs i l b back registers dice items stands goes none = absurd (false_true goes)
round-ends t d s (counting j (suc n) b' ∷ fs) xs i l b back registers dice items stands goes none =
    let one = FrameStands-popped t xs fs _ _ stands in absurd (omega (arith, one.1))
round-ends t d s (counting j zero b' ∷ fs) xs i l b back registers dice items stands goes none = (
  record {
    registers = registers;
    dice = dice;
    frames = subst (λ (ys : List Frame). FramesStand t ys fs) (sym items) (FramesStand-popped t xs fs _ _ stands);
  },
  refl,
)

-- a frame that is open beside others
pub IsFrame-last : (t : StockParts) (old xs : List Frame) (x : Frame) → All (IsFrame t) old → old ≡ xs ++ x ∷ [] → IsFrame t x
IsFrame-last t old xs x all is =
    let split : All (IsFrame t) (xs ++ x ∷ []) = subst (All (IsFrame t)) is all in
    subst (IsFrame t) (get_or-append_seam xs x [] x) (split (length xs) x (omega (arith, length-append xs (x ∷ []))))

-- those outside it
pub IsFrame-front : (t : StockParts) (old xs : List Frame) (x : Frame) → All (IsFrame t) old → old ≡ xs ++ x ∷ []
    → All (IsFrame t) xs
IsFrame-front t old xs x all is = λ k d below.
    let split : All (IsFrame t) (xs ++ x ∷ []) = subst (All (IsFrame t)) is all in
    subst (IsFrame t) (get_or-append xs (x ∷ []) d k below) (split k d (omega (arith, length-append xs (x ∷ []))))

-- the next round of a loop
pub IsFrame-round : (t : StockParts) (old new xs : List Frame) (i l b : ℕ) → All (IsFrame t) old
    → old ≡ xs ++ Counting i l b ∷ [] → new ≡ xs ++ Counting (i + 1) (l - 1) b ∷ [] → 0 < l → All (IsFrame t) new
IsFrame-round t old new xs i l b all was is more =
    let last = IsFrame-last t old xs (Counting i l b) all was in
    let here : IsFrame t (Counting (i + 1) (l - 1) b) = omega (arith, last) in
    subst (All (IsFrame t)) (sym is)
    (All-append (IsFrame t) xs _ (IsFrame-front t old xs _ all was) (All-cons (IsFrame t) _ [] here (All-nil (IsFrame t))))

-- where nothing is open, nothing goes back
pub nothing-goes_back : (t : StockParts) (back : ℕ) (fs : List OpenFrame) → FramesStand t [] fs → loops_back back fs ≡ true → ⊥
nothing-goes_back t back [] stands goes = false_true goes
nothing-goes_back t back (f ∷ fs) stands goes = omega (arith, stands.count)

-- ---- draws

-- an entry that is drawn of a list that was lent
pub entry-draws : (t : StockParts) (old new : Draws) (lent back : List Frame) (f result : ℕ)
    → new.registers ≡ old.registers → new.dice ≡ old.dice → lent ≡ old.frames.items → new.frames.items ≡ back
    → ((fs : List OpenFrame) → FramesStand t lent fs → result ≡ cycle_entry f fs)
    → ((fs : List OpenFrame) → FramesStand t lent fs → FramesStand t back (cycle_moved f fs))
    → DrawsTo t old new result (entry_drawn f)
entry-draws t old new lent back f result registers dice was is entry moved = record {
  value = λ s stands. entry s.frames (subst (λ (xs : List Frame). FramesStand t xs s.frames) (sym was) stands.frames);
  after = λ s stands. record {
    registers = registers ∙ stands.registers;
    dice = dice ∙ stands.dice;
    frames = subst (λ (xs : List Frame). FramesStand t xs (cycle_moved f s.frames)) (sym is)
        (moved s.frames (subst (λ (xs : List Frame). FramesStand t xs s.frames) (sym was) stands.frames));
  };
}
