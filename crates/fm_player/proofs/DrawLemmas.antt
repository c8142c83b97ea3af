-- What draws leave as it was.
use Rattle.std.proofs.Common.{◌≡◌, refl, sym, ◌∙◌, ap, subst, arith, List, [], ◌∷◌, ◌++◌, ℕ, ℤ, suc, ◌+◌, ◌-◌, ◌%◌, ◌<◌, ◌≤◌, map, take, length, slice_index_or, Bool, true, false, ◌&&◌, nat_eq, nat_le, if◌then◌else◌, pos, negsuc}
use Rattle.std.proofs.lemmas.List.{map-append, take_more}
use Rattle.fm_msg.specs.declared.msg.TheConstants.{DATA_VALUES}
use Rattle.fm_pattern.specs.Cycle.{entry_at}
use Rattle.fm_program.specs.declared.op.Draw.{Draw}
use Rattle.fm_program.specs.Parts.{StockParts}
use Rattle.fm_program.specs.Needs.{cycle_at, cycles_within, turn_open, duration_open}
use Rattle.fm_program.specs.Fit.{turn_fits, expr_fits, span_fits}
use Rattle.fm_player.specs.declared.draws.Draws.{Draws}
use Rattle.fm_player.specs.Drawing.{DrawsStand, DrawsTo}
use Rattle.fm_player.proofs.FrameLemmas.{false_true, cycle_moved-length}
use Rattle.fm_player.proofs.StockLemmas.{both, list_all-at, most_of}
use Rattle.fm_program.specs.declared.op.TheConstants.{MAX_LENGTH}
use Rattle.fm_program.specs.declared.op.Slot.{Slot}
use Rattle.fm_program.specs.declared.op.Span.{Span}
use Rattle.fm_program.specs.declared.op.Span.TheVariants as span
use Rattle.fm_program.specs.declared.op.Turn.{Turn}
use Rattle.fm_program.specs.declared.op.Turn.TheVariants as turn
use Rattle.fm_program.specs.Action.{MessageNumber, written, valued, SpanLength, lasting, valued_to, cycled, Repeats, times, times_to, amount_of, scope_at, duration_of}
use Rattle.fm_program.specs.State.{OpenFrame, counting, cycling, Standing, cycle_entry, cycle_moved, frame_entry, frame_moved, nearest_to, number_drawn, pitches_drawn, duration_drawn, turn_drawn, repeats_drawn}

-- a state in which draws changed registers, the generator and frames alone
pub record Kept (w v : Standing) : Type 0 where
  pub operation : v.operation ≡ w.operation
  pub position : v.position ≡ w.position
  pub process : v.process ≡ w.process
  pub index : v.index ≡ w.index
  pub levels : v.levels ≡ w.levels
  pub due : v.due ≡ w.due

pub kept-same : (w : Standing) → Kept w w
kept-same w = record { operation = refl; position = refl; process = refl; index = refl; levels = refl; due = refl }

pub kept-then : (u v w : Standing) → Kept u v → Kept v w → Kept u w
kept-then u v w a b = record {
  operation = b.operation ∙ a.operation;
  position = b.position ∙ a.position;
  process = b.process ∙ a.process;
  index = b.index ∙ a.index;
  levels = b.levels ∙ a.levels;
  due = b.due ∙ a.due;
}

pub number-kept : (x : MessageNumber) (scope : List Slot) (w : Standing) → Kept w (number_drawn x scope w).after
number-kept (written v) scope w = kept-same w
number-kept (valued e) scope w = record { operation = refl; position = refl; process = refl; index = refl; levels = refl; due = refl }

pub pitches-kept : (xs : List MessageNumber) (scope : List Slot) (w : Standing) → Kept w (pitches_drawn xs scope w).after
pitches-kept [] scope w = kept-same w
pitches-kept (x ∷ xs) scope w =
    kept-then w (number_drawn x scope w).after _ (number-kept x scope w) (pitches-kept xs scope (number_drawn x scope w).after)

pub duration-kept : (d : SpanLength) (scope : List Slot) (w : Standing) → Kept w (duration_drawn d scope w).after
duration-kept (lasting d) scope w = kept-same w
duration-kept (valued_to e most) scope w
    = record { operation = refl; position = refl; process = refl; index = refl; levels = refl; due = refl }
duration-kept (cycled f) scope w = record { operation = refl; position = refl; process = refl; index = refl; levels = refl; due = refl }

pub turn-kept : (x : Turn) (w : Standing) → Kept w (turn_drawn x w).after
turn-kept (turn.Steady v) w = kept-same w
turn-kept (turn.Cycle f) w = record { operation = refl; position = refl; process = refl; index = refl; levels = refl; due = refl }

pub repeats-kept : (n : Repeats) (scope : List Slot) (w : Standing) → Kept w (repeats_drawn n scope w).after
repeats-kept (times n) scope w = kept-same w
repeats-kept (times_to e most) scope w
    = record { operation = refl; position = refl; process = refl; index = refl; levels = refl; due = refl }

-- ---- one key more

-- the keys of more pitches are those of the first ones and the next
pub pitches-more : (xs : List MessageNumber) (x : MessageNumber) (scope : List Slot) (w : Standing)
    → ((pitches_drawn (xs ++ x ∷ []) scope w).value
    ≡ (pitches_drawn xs scope w).value
    ++ nearest_to (DATA_VALUES - 1) (number_drawn x scope (pitches_drawn xs scope w).after).value ∷ [])
    × ((pitches_drawn (xs ++ x ∷ []) scope w).after ≡ (number_drawn x scope (pitches_drawn xs scope w).after).after)
pitches-more [] x scope w = (refl, refl)
pitches-more (y ∷ ys) x scope w =
    let later = pitches-more ys x scope (number_drawn y scope w).after in
    (ap (λ ks. nearest_to (DATA_VALUES - 1) (number_drawn y scope w).value ∷ ks) later.0, later.1)

-- the keys that were drawn and one more
pub keys-more : (t : StockParts) (old mid new : Draws) (keys more : List ℕ) (value : ℤ) (pitches : List Draw) (i scope : ℕ) (d : Draw)
    → DrawsTo t old mid keys (pitches_drawn (map (amount_of t) (take i pitches)) (scope_at t scope))
    → i < length pitches
    → DrawsTo t mid new value (number_drawn (amount_of t (slice_index_or pitches i d)) (scope_at t scope))
    → more ≡ keys ++ nearest_to (DATA_VALUES - 1) value ∷ []
    → DrawsTo t old new more (pitches_drawn (map (amount_of t) (take (i + 1) pitches)) (scope_at t scope))
keys-more t old mid new keys more value pitches i scope d before below one is =
    let f = amount_of t in
    let x = f (slice_index_or pitches i d) in
    let taken : map f (take (i + 1) pitches) ≡ map f (take i pitches) ++ x ∷ [] =
    ap (map f) (take_more pitches i d below) ∙ map-append f (take i pitches) (slice_index_or pitches i d ∷ []) in
    subst (λ (xs : List MessageNumber). DrawsTo t old new more (pitches_drawn xs (scope_at t scope))) (sym taken)
    (record {
      value = λ s stands.
          let first = pitches_drawn (map f (take i pitches)) (scope_at t scope) s in
          is
          ∙ ap (λ (ks : List ℕ). ks ++ nearest_to (DATA_VALUES - 1) value ∷ []) (before.value s stands)
          ∙ ap (λ (v : ℤ). first.value ++ nearest_to (DATA_VALUES - 1) v ∷ []) (one.value first.after (before.after s stands))
          ∙ sym (pitches-more (map f (take i pitches)) x (scope_at t scope) s).0;
      after = λ s stands.
          let first = pitches_drawn (map f (take i pitches)) (scope_at t scope) s in
          subst (DrawsStand t new) (sym (pitches-more (map f (take i pitches)) x (scope_at t scope) s).1)
          (one.after first.after (before.after s stands));
    })

-- ---- bounds of entries

-- cursors that move leave lists as they are
pub cycle_at-moved : (least most f k : ℕ) (fs : List OpenFrame) → cycle_at least most f (cycle_moved k fs) ≡ cycle_at least most f fs
cycle_at-moved least most f k [] = refl
cycle_at-moved least most f k (x ∷ xs) = on (nat_eq k (length xs)) (cycle_at-moved least most f k xs)
  where
    within : (y : OpenFrame) → cycles_within least most (frame_moved y) ≡ cycles_within least most y
    within (counting i left back) = refl
    within (cycling es c) = refl

    on : (b : Bool) → cycle_at least most f (cycle_moved k xs) ≡ cycle_at least most f xs
        → cycle_at least most f (if b then frame_moved x ∷ xs else x ∷ cycle_moved k xs)
        ≡ (if nat_eq f (length xs) then cycles_within least most x else cycle_at least most f xs)
    on true later = ap (λ (b : Bool). if nat_eq f (length xs) then b else cycle_at least most f xs) (within x)
    on false later =
        ap (λ (n : ℕ). if nat_eq f n then cycles_within least most x else cycle_at least most f (cycle_moved k xs))
        (cycle_moved-length k xs)
        ∙ ap (λ (b : Bool). if nat_eq f (length xs) then cycles_within least most x else b) later

-- an entry of a list within bounds is at most the greatest
cycles-most : (least most : ℕ) (x : OpenFrame) → cycles_within least most x ≡ true → frame_entry x ≤ most
cycles-most least most (counting i left back) within = absurd (false_true within)
cycles-most least most (cycling [] c) within = omega arith
cycles-most least most (cycling (e ∷ es) c) within =
    most_of _ most
    (both (nat_le least (entry_at (e ∷ es) c)) (nat_le (entry_at (e ∷ es) c) most)
    (list_all-at (λ n. nat_le least n && nat_le n most) (e ∷ es) (c % length (e ∷ es)) 0 within
    (let below : c % suc (length es) < suc (length es) = grind arith in below))).1

pub cycle-most : (least most f : ℕ) (fs : List OpenFrame) → cycle_at least most f fs ≡ true → cycle_entry f fs ≤ most
cycle-most least most f [] within = absurd (false_true within)
cycle-most least most f (x ∷ xs) within = on (nat_eq f (length xs)) (cycle-most least most f xs) within
  where
    on : (b : Bool) → (cycle_at least most f xs ≡ true → cycle_entry f xs ≤ most)
        → (if b then cycles_within least most x else cycle_at least most f xs) ≡ true
        → (if b then frame_entry x else cycle_entry f xs) ≤ most
    on true later here = cycles-most least most x here
    on false later here = later here

-- an articulation or a velocity is at most the greatest
pub turn-most : (least most : ℕ) (x : Turn) (w : Standing) → turn_fits least most x ≡ true → turn_open least most x w.frames ≡ true
    → (turn_drawn x w).value ≤ most
turn-most least most (turn.Steady v) w fits opened = most_of v most (both (nat_le least v) (nat_le v most) fits).1
turn-most least most (turn.Cycle f) w fits opened = cycle-most least most f w.frames opened

-- the frames that a draw leaves are as open as before
pub turn_open-number : (least most : ℕ) (x : Turn) (n : MessageNumber) (scope : List Slot) (w : Standing)
    → turn_open least most x (number_drawn n scope w).after.frames ≡ turn_open least most x w.frames
turn_open-number least most x (written v) scope w = refl
turn_open-number least most x (valued e) scope w = refl

pub turn_open-pitches : (least most : ℕ) (x : Turn) (ns : List MessageNumber) (scope : List Slot) (w : Standing)
    → turn_open least most x (pitches_drawn ns scope w).after.frames ≡ turn_open least most x w.frames
turn_open-pitches least most x [] scope w = refl
turn_open-pitches least most x (n ∷ ns) scope w =
    turn_open-pitches least most x ns scope (number_drawn n scope w).after ∙ turn_open-number least most x n scope w

turn_open-entry : (least most f : ℕ) (x : Turn) (w : Standing)
    → turn_open least most x (cycle_moved f w.frames) ≡ turn_open least most x w.frames
turn_open-entry least most f (turn.Steady v) w = refl
turn_open-entry least most f (turn.Cycle k) w = cycle_at-moved least most k f w.frames

pub turn_open-duration : (least most : ℕ) (x : Turn) (d : SpanLength) (scope : List Slot) (w : Standing)
    → turn_open least most x (duration_drawn d scope w).after.frames ≡ turn_open least most x w.frames
turn_open-duration least most x (lasting d) scope w = refl
turn_open-duration least most x (valued_to e most') scope w = refl
turn_open-duration least most x (cycled f) scope w = turn_open-entry least most f x w

pub turn_open-turn : (least most : ℕ) (x y : Turn) (w : Standing)
    → turn_open least most x (turn_drawn y w).after.frames ≡ turn_open least most x w.frames
turn_open-turn least most x (turn.Steady v) w = refl
turn_open-turn least most x (turn.Cycle f) w = turn_open-entry least most f x w

-- ---- durations

-- the frames that a draw leaves are as open for a duration as before
duration_open-number : (d : SpanLength) (n : MessageNumber) (scope : List Slot) (w : Standing)
    → duration_open d (number_drawn n scope w).after.frames ≡ duration_open d w.frames
duration_open-number d (written v) scope w = refl
duration_open-number d (valued e) scope w = refl

pub duration_open-pitches : (d : SpanLength) (ns : List MessageNumber) (scope : List Slot) (w : Standing)
    → duration_open d (pitches_drawn ns scope w).after.frames ≡ duration_open d w.frames
duration_open-pitches d [] scope w = refl
duration_open-pitches d (n ∷ ns) scope w =
    duration_open-pitches d ns scope (number_drawn n scope w).after ∙ duration_open-number d n scope w

nearest-most : (most : ℕ) (v : ℤ) (high : ℕ) → most ≤ high → nearest_to most v ≤ high
nearest-most most (pos n) high below = omega arith
nearest-most most (negsuc n) high below = omega arith

-- a duration is at most the longest
pub duration-most : (t : StockParts) (loops : ℕ) (d : Span) (scope : List Slot) (w : Standing) → span_fits t loops d ≡ true
    → duration_open (duration_of t d) w.frames ≡ true → (duration_drawn (duration_of t d) scope w).value ≤ MAX_LENGTH
duration-most t loops (span.Ticks d) scope w fits opened = most_of d MAX_LENGTH fits
duration-most t loops (span.Drawn e most) scope w fits opened =
    nearest-most most _ MAX_LENGTH (most_of most MAX_LENGTH (both (nat_le most MAX_LENGTH) (expr_fits t loops e) fits).0)
duration-most t loops (span.Cycle f) scope w fits opened = cycle-most 0 MAX_LENGTH f w.frames opened
