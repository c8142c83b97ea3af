-- What a process draws from its program is what the statements mean to draw.
use Rattle.std.proofs.Common.{◌≡◌, ℕ, ◌-◌, true, List, [], ◌∷◌, map, refl, sym, ap, ap₂, ◌∙◌, ℤ, pos, negsuc}
use Rattle.fm_value.specs.declared.node.Node.{Node}
use Rattle.fm_value.specs.Value.{readable, value_of}
use Rattle.fm_msg.specs.declared.msg.TheConstants.{DATA_VALUES}
use Rattle.fm_program.specs.declared.op.TheConstants.{MAX_LENGTH}
use Rattle.fm_program.specs.declared.op.Draw.{Draw}
use Rattle.fm_program.specs.declared.op.Draw.TheVariants as draw
use Rattle.fm_program.specs.declared.op.Count.{Count}
use Rattle.fm_program.specs.declared.op.Count.TheVariants as count
use Rattle.fm_program.specs.declared.op.Turn.{Turn}
use Rattle.fm_program.specs.declared.op.Turn.TheVariants as turn
use Rattle.fm_program.specs.declared.op.Slot.{Slot}
use Rattle.fm_program.specs.Action.{amount_of, duration_of, repeats_of}
use Rattle.fm_program.specs.Needs.{duration_open, turn_open}
use Rattle.fm_program.specs.State.{OpenFrame, OpenLevel, Standing, slot_index, Draught, draught, expr_drawn, nearest_to, number_drawn, pitches_drawn, duration_drawn, turn_drawn, repeats_drawn}
use Rattle.fm_meaning.specs.Rules.{most_data}
use Rattle.fm_meaning.specs.Resolved.{Quality, duration}
use Rattle.fm_meaning.specs.State.{Now, indices_of, evaluated, taken, limited, amount_drawn, keys_drawn, span_drawn, count_drawn}
use Rattle.fm_expansion.specs.Outline.{Tables, stock_with, expr_in, Lasting, ticks, computed, beat, source_of, length_of, rounds_of}
use Rattle.fm_expansion.specs.Homes.{Home, turn_for, span_at, span_for}
use Rattle.fm_fidelity.proofs.Keeping.{amount_after}
use Rattle.fm_expansion.proofs.Frames.{Counter, frames_held, Held, turn_value, turn_moved, turns}

-- a process at an operation of its program, in the state of what it plays
abbrev pub at : ℕ → Now → List OpenLevel → List OpenFrame → Standing
at operation n ls fs = record {
  operation = operation;
  position = n.position;
  process = n.process;
  index = n.index;
  registers = n.registers;
  dice = n.dice;
  levels = ls;
  frames = fs;
  due = [];
}

-- the nearest number is the limited one
pub nearest_is : (most : ℕ) (v : ℤ) → nearest_to most v ≡ limited most v
nearest_is most (pos n) = refl
nearest_is most (negsuc n) = refl

-- ---- expressions

-- these slots give the indices of the open loops
abbrev pub Gives : List OpenFrame → List Slot → Now → Type 0
Gives fs slots n = map (slot_index fs) slots ≡ indices_of n.blocks

-- an expression
pub expr_is : (e : List Node) (operation : ℕ) (n : Now) (ls : List OpenLevel) (fs : List OpenFrame)
    (slots : List Slot) → Gives fs slots n
    → expr_drawn e slots (at operation n ls fs) ≡ draught (evaluated e n).value
    (at operation (evaluated e n).after ls fs)
expr_is e operation n ls fs slots gives = ap {A = List ℕ} {B = Draught ℤ} drawn_by gives
  where
    drawn_by : List ℕ → Draught ℤ
    drawn_by is =
        let v = value_of (readable n.registers is) e n.dice in draught v.value
        (record (at operation n ls fs) { dice = v.state })

module _ (t : Tables) (scopes : List (List Slot)) where
  -- a number of a message
  pub number_is : (d : Draw) (operation : ℕ) (n : Now) (ls : List OpenLevel) (fs : List OpenFrame)
      (slots : List Slot) → Gives fs slots n
      → number_drawn (amount_of (stock_with t scopes) d) slots (at operation n ls fs)
      ≡ draught (amount_drawn (source_of t d) n).value (at operation (amount_drawn (source_of t d) n).after ls fs)
  number_is (draw.Fixed v) operation n ls fs slots gives = refl
  number_is (draw.Drawn e) operation n ls fs slots gives = expr_is (expr_in t e) operation n ls fs slots gives

  -- the keys of a note
  pub pitches_are : (ds : List Draw) (operation : ℕ) (n : Now) (ls : List OpenLevel) (fs : List OpenFrame)
      (slots : List Slot)
      → Gives fs slots n
      → pitches_drawn (map (amount_of (stock_with t scopes)) ds) slots (at operation n ls fs)
      ≡ draught (keys_drawn (map (source_of t) ds) n).value
      (at operation (keys_drawn (map (source_of t) ds) n).after ls fs)
  pitches_are [] operation n ls fs slots gives = refl
  pitches_are (d ∷ ds) operation n ls fs slots gives =
      let key = amount_drawn (source_of t d) n in
      let keys = keys_drawn (map (source_of t) ds) key.after in
      let still : Gives fs slots key.after = gives
      ∙ sym (ap (λ m. indices_of m.blocks) (amount_after (source_of t d) n)) in
      ap others (number_is d operation n ls fs slots gives)
      ∙ ap (λ ks. draught (nearest_to (DATA_VALUES - 1) key.value ∷ ks.value) ks.after)
      (pitches_are ds operation key.after ls fs slots still)
      ∙ ap (λ k. draught (k ∷ keys.value) (at operation keys.after ls fs)) (nearest_is most_data key.value)
    where
      others : Draught ℤ → Draught (List ℕ)
      others key =
          let keys = pitches_drawn (map (amount_of (stock_with t scopes)) ds) slots key.after in
          draught (nearest_to (DATA_VALUES - 1) key.value ∷ keys.value) keys.after

  -- how often a loop goes round
  pub repeats_are : (c : Count) (operation : ℕ) (n : Now) (ls : List OpenLevel) (fs : List OpenFrame)
      (slots : List Slot) → Gives fs slots n
      → repeats_drawn (repeats_of (stock_with t scopes) c) slots (at operation n ls fs)
      ≡ draught (count_drawn (rounds_of t c) n).value (at operation (count_drawn (rounds_of t c) n).after ls fs)
  repeats_are (count.Fixed k) operation n ls fs slots gives = refl
  repeats_are (count.Drawn e most) operation n ls fs slots gives =
      let v = evaluated (expr_in t e) n in
      ap (λ x. draught (nearest_to most x.value) x.after) (expr_is (expr_in t e) operation n ls fs slots gives)
      ∙ ap (λ k. draught k (at operation v.after ls fs)) (nearest_is most v.value)

  -- ---- lists

  -- a turn gives an entry and leaves frames
  turn_is : (x : Turn) (s : Standing) → turn_drawn x s ≡ draught (turn_value x s.frames)
      (record s { frames = turn_moved x s.frames })
  turn_is (turn.Steady v) s = refl
  turn_is (turn.Cycle f) s = refl

  -- the next entry of a quality
  pub turn_gives : (q : Quality) (otherwise operation : ℕ) (n : Now) (ls : List OpenLevel) (hs : List Home)
      (cs : List Counter)
      → Held t hs cs n.blocks
      → turn_drawn (turn_for q otherwise hs) (at operation n ls (frames_held hs cs n.blocks))
      ≡ draught (taken q otherwise n).value
      (at operation (taken q otherwise n).after ls (frames_held hs cs (taken q otherwise n).after.blocks))
  turn_gives q otherwise operation n ls hs cs held =
      let is = turns t q otherwise hs cs n.blocks held in
      turn_is (turn_for q otherwise hs) (at operation n ls (frames_held hs cs n.blocks))
      ∙ ap₂ (λ v fs. draught v (at operation n ls fs)) is.value is.moved

  -- a turn as a duration
  span_turn : (x : Turn) (slots : List Slot) (s : Standing)
      → duration_drawn (duration_of (stock_with t scopes) (span_at x)) slots s ≡ turn_drawn x s
  span_turn (turn.Steady v) slots s = refl
  span_turn (turn.Cycle f) slots s = refl

  -- open as a turn is
  span_turn_open : (x : Turn) (fs : List OpenFrame)
      → duration_open (duration_of (stock_with t scopes) (span_at x)) fs ≡ turn_open 0 MAX_LENGTH x fs
  span_turn_open (turn.Steady v) fs = refl
  span_turn_open (turn.Cycle f) fs = refl

  -- a duration
  pub span_is : (l : Lasting) (operation : ℕ) (n : Now) (ls : List OpenLevel) (hs : List Home)
      (cs : List Counter) (slots : List Slot)
      → Gives (frames_held hs cs n.blocks) slots n → Held t hs cs n.blocks
      → duration_drawn (duration_of (stock_with t scopes) (span_for l hs)) slots
      (at operation n ls (frames_held hs cs n.blocks))
      ≡ draught (span_drawn (length_of t l) n).value
      (at operation (span_drawn (length_of t l) n).after ls
      (frames_held hs cs (span_drawn (length_of t l) n).after.blocks))
  span_is (ticks k) operation n ls hs cs slots gives held = refl
  span_is (computed e most) operation n ls hs cs slots gives held =
      let v = evaluated (expr_in t e) n in
      let fs = frames_held hs cs n.blocks in
      ap (λ x. draught (nearest_to most x.value) x.after) (expr_is (expr_in t e) operation n ls fs slots gives)
      ∙ ap (λ k. draught k (at operation v.after ls fs)) (nearest_is most v.value)
  span_is beat operation n ls hs cs slots gives held =
      span_turn (turn_for duration 0 hs) slots (at operation n ls (frames_held hs cs n.blocks))
      ∙ turn_gives duration 0 operation n ls hs cs held

  -- its list is open
  pub span_opened : (l : Lasting) (n : Now) (hs : List Home) (cs : List Counter) → Held t hs cs n.blocks
      → duration_open (duration_of (stock_with t scopes) (span_for l hs)) (frames_held hs cs n.blocks) ≡ true
  span_opened (ticks k) n hs cs held = refl
  span_opened (computed e most) n hs cs held = refl
  span_opened beat n hs cs held =
      span_turn_open (turn_for duration 0 hs) (frames_held hs cs n.blocks)
      ∙ (turns t duration 0 hs cs n.blocks held).opened
