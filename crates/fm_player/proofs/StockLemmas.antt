-- What the tables of a plan that fits hold, and what is drawn of them.
use Rattle.std.proofs.Common.{◌≡◌, refl, sym, ◌∙◌, ap, subst, arith, ℕ, ℤ, pos, zero, suc, ◌+◌, ◌-◌, ◌%◌, ◌<◌, ◌≤◌, List, [], ◌∷◌, ◌++◌, length, map, All, Bool, true, false, ◌&&◌, nat_lt, nat_le, nat_eq, slice_index_or, take}
use Rattle.std.specs.List.{list_all}
use Rattle.std.proofs.lemmas.List.{take_more}
use Rattle.std.proofs.lemmas.List.Elements.{All-cons, All-nil, All-append}
use Rattle.fm_value.specs.declared.node.Node.{Node}
use Rattle.fm_value.specs.Value.{readable, value_of, is_expr}
use Rattle.fm_pattern.specs.declared.cursor.TheConstants.{MAX_ENTRIES}
use Rattle.fm_msg.specs.declared.msg.TheConstants.{DATA_VALUES}
use Rattle.fm_program.specs.declared.op.Draw.{Draw}
use Rattle.fm_program.specs.declared.op.Draw.TheVariants as draw
use Rattle.fm_program.specs.declared.op.TheConstants.{MAX_PITCHES}
use Rattle.fm_program.specs.Parts.{StockParts}
use Rattle.fm_program.specs.Action.{chord_at, expr_at, list_at, scope_at}
use Rattle.fm_program.specs.State.{OpenFrame, cycling, Standing, slot_index, expr_drawn}
use Rattle.fm_program.specs.Process.{cycles_opened}
use Rattle.fm_program.specs.Fit.{draw_fits, expr_fits, has_up_to, scope_fits, stock_fits}
use Rattle.fm_player.specs.declared.frame.Frame.{Frame}
use Rattle.fm_player.specs.declared.frame.Frame.TheVariants.{Cycling}
use Rattle.fm_player.specs.declared.draws.Draws.{Draws}
use Rattle.fm_player.specs.Drawing.{DrawsStand, DrawsTo, FramesStand, FrameStands, IsFrame, IsNumber}
use Rattle.fm_player.proofs.FrameLemmas.{false_true, FramesStand-pushed}

-- ---- tests

-- both of two tests
pub both : (a b : Bool) → (a && b) ≡ true → (a ≡ true) × (b ≡ true)
both true b is = (refl, is)
both false b is = absurd (false_true is)

-- what a test of numbers tells
pub below_of : (m n : ℕ) → nat_lt m n ≡ true → m < n
below_of m n is = grind arith

pub past_of : (m n : ℕ) → nat_lt m n ≡ false → n ≤ m
past_of m n is = grind arith

pub most_of : (m n : ℕ) → nat_le m n ≡ true → m ≤ n
most_of m n is = grind arith

pub equal_of : (m n : ℕ) → nat_eq m n ≡ true → m ≡ n
equal_of m n is = grind arith

-- what is tested of all holds of each
pub list_all-at : {A : Type 0} (f : A → Bool) (xs : List A) (k : ℕ) (d : A) → list_all f xs ≡ true → k < length xs
    → f (slice_index_or xs k d) ≡ true
list_all-at f [] k d all below = absurd (omega arith)
list_all-at f (x ∷ xs) zero d all below = (both (f x) (list_all f xs) all).0
list_all-at f (x ∷ xs) (suc k) d all below = list_all-at f xs k d (both (f x) (list_all f xs) all).1 (omega arith)

-- ---- tables

-- an entry of a table that is looked up
pub looked_up : {A B : Type 0} (f : A → B) (xs : List A) (k : ℕ) (x : A) (e : B) → x ≡ slice_index_or xs k x → k < length xs
    → f x ≡ slice_index_or (map f xs) k e
looked_up f [] k x e is below = absurd (omega arith)
looked_up f (y ∷ ys) zero x e is below = ap f is
looked_up f (y ∷ ys) (suc k) x e is below = looked_up f ys k x e is (omega arith)

-- each list has entries
pub list-fits : (t : StockParts) (k : ℕ) → stock_fits t ≡ true → k < length t.lists → 0 < length (list_at t k)
list-fits t k fits below =
    let lists = list_all-at (has_up_to MAX_ENTRIES) t.lists k []
    (both (list_all (has_up_to MAX_ENTRIES) t.lists) (list_all (has_up_to MAX_PITCHES) t.chords)
    (both (list_all (has_up_to MAX_ENTRIES) t.lists && list_all (has_up_to MAX_PITCHES) t.chords) (list_all scope_fits t.scopes) fits).0).0
    below in
    below_of 0 _ (both (nat_lt 0 (length (list_at t k))) (nat_le (length (list_at t k)) MAX_ENTRIES) lists).0

-- each chord has not too many pitches
pub chord-fits : (t : StockParts) (k : ℕ) → stock_fits t ≡ true → k < length t.chords → length (chord_at t k) ≤ MAX_PITCHES
chord-fits t k fits below =
    let chords = list_all-at (has_up_to MAX_PITCHES) t.chords k []
    (both (list_all (has_up_to MAX_ENTRIES) t.lists) (list_all (has_up_to MAX_PITCHES) t.chords)
    (both (list_all (has_up_to MAX_ENTRIES) t.lists && list_all (has_up_to MAX_PITCHES) t.chords) (list_all scope_fits t.scopes) fits).0).1
    below in
    most_of _ MAX_PITCHES (both (nat_lt 0 (length (chord_at t k))) (nat_le (length (chord_at t k)) MAX_PITCHES) chords).1

-- numbers that fit are written out or expressions
pub number-fits : (t : StockParts) (loops : ℕ) (least most : ℤ) (x : Draw) → draw_fits t loops least most x ≡ true → IsNumber t loops x
number-fits t loops least most (draw.Fixed v) fits = tt
number-fits t loops least most (draw.Drawn e) fits = fits

pub numbers-fit : (t : StockParts) (loops : ℕ) (xs : List Draw)
    → list_all (draw_fits t loops (pos 0) (pos (DATA_VALUES - 1))) xs ≡ true → All (IsNumber t loops) xs
numbers-fit t loops xs fits = λ k d below.
    number-fits t loops (pos 0) (pos (DATA_VALUES - 1)) (slice_index_or xs k d)
    (list_all-at (draw_fits t loops (pos 0) (pos (DATA_VALUES - 1))) xs k d fits below)

-- ---- values

same-value : (r r' : List ℤ) (i i' : List ℕ) (n n' : List Node) (d d' : ℕ) → r ≡ r' → i ≡ i' → n ≡ n' → d ≡ d'
    → value_of (readable r i) n d ≡ value_of (readable r' i') n' d'
same-value r r' i i' n n' d d' er ei en ed =
    ap (λ x. value_of (readable x i) n d) er
    ∙ ap (λ x. value_of (readable r' x) n d) ei
    ∙ ap (λ x. value_of (readable r' i') x d) en
    ∙ ap (λ x. value_of (readable r' i') n' x) ed

-- the value of an expression with these indices is drawn
pub value-draws : (t : StockParts) (old new : Draws) (result : ℤ) (e k : ℕ) (indices : List ℕ) (nodes : List Node)
    → new.registers ≡ old.registers → new.frames.items ≡ old.frames.items → nodes ≡ expr_at t e
    → ((s : Standing) → DrawsStand t old s → indices ≡ map (slot_index s.frames) (scope_at t k))
    → result ≡ (value_of (readable old.registers indices) nodes old.dice).value
    → new.dice ≡ (value_of (readable old.registers indices) nodes old.dice).state
    → DrawsTo t old new result (expr_drawn (expr_at t e) (scope_at t k))
value-draws t old new result e k indices nodes registers frames names reads value state = record {
  value = λ s stands.
      value ∙ ap (λ v. v.value) (same-value _ _ _ _ _ _ _ _ stands.registers (reads s stands) names stands.dice);
  after = λ s stands. record {
    registers = registers ∙ stands.registers;
    dice = state ∙ ap (λ v. v.state) (same-value _ _ _ _ _ _ _ _ stands.registers (reads s stands) names stands.dice);
    frames = subst (λ (xs : List Frame). FramesStand t xs s.frames) (sym frames) stands.frames;
  };
}

-- an expression that fits has a value where so many indices are read
pub expr-fits : (t : StockParts) (loops e : ℕ) (nodes : List Node) → expr_fits t loops e ≡ true → nodes ≡ expr_at t e
    → (e < length t.exprs) × (is_expr loops nodes ≡ true)
expr-fits t loops e nodes fits is = (
  below_of e (length t.exprs) (both (nat_lt e (length t.exprs)) (is_expr loops (expr_at t e)) fits).0,
  subst (λ (ns : List Node). is_expr loops ns ≡ true) (sym is) (both (nat_lt e (length t.exprs)) (is_expr loops (expr_at t e)) fits).1,
)

-- ---- lists open at a start

-- a list more that is opened
cycles_opened-more : (t : StockParts) (cs : List ℕ) (c : ℕ) (fs : List OpenFrame)
    → cycles_opened t (cs ++ c ∷ []) fs ≡ cycling (list_at t c) 0 ∷ cycles_opened t cs fs
cycles_opened-more t [] c fs = refl
cycles_opened-more t (x ∷ xs) c fs = cycles_opened-more t xs c (cycling (list_at t x) 0 ∷ fs)

pub opened-more : (t : StockParts) (lists : List ℕ) (i d : ℕ) (old new : List Frame) → stock_fits t ≡ true
    → All (λ l. l < length t.lists) lists → i < length lists
    → All (IsFrame t) old → FramesStand t old (cycles_opened t (take i lists) [])
    → new ≡ old ++ Cycling (slice_index_or lists i d) 0 ∷ []
    → All (IsFrame t) new × FramesStand t new (cycles_opened t (take (i + 1) lists) [])
opened-more t lists i d old new fits named below all stands is =
    let l = slice_index_or lists i d in
    let there : l < length t.lists = named i d below in
    let filled = list-fits t l fits there in
    let here : FrameStands t (Cycling l 0) (cycling (list_at t l) 0) = (refl, sym (mod_zero (length (list_at t l)) filled)) in
    let pushed : FramesStand t (old ++ Cycling l 0 ∷ []) (cycling (list_at t l) 0 ∷ cycles_opened t (take i lists) []) =
    FramesStand-pushed t old (cycles_opened t (take i lists) []) (Cycling l 0) (cycling (list_at t l) 0) stands here in (
      subst (All (IsFrame t)) (sym is)
          (All-append (IsFrame t) old _ all (All-cons (IsFrame t) _ [] (there, filled) (All-nil (IsFrame t)))),
      subst (λ (xs : List Frame). FramesStand t xs (cycles_opened t (take (i + 1) lists) [])) (sym is)
          (subst (FramesStand t (old ++ Cycling l 0 ∷ []))
          (sym (ap (λ (cs : List ℕ). cycles_opened t cs []) (take_more lists i d below) ∙ cycles_opened-more t (take i lists) l []))
          pushed),
    )
  where
    mod_zero : (n : ℕ) → 0 < n → 0 % n ≡ 0
    mod_zero n more = grind arith
