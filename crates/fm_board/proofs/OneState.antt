-- A table stands for one state of the core, and while no seat made a step for the beginning.
use Rattle.std.proofs.Common.{◌≡◌, ◌⊎◌, ℕ, zero, suc, ◌-◌, ◌<◌, ◌≤◌, List, [], ◌∷◌, length, map, take, drop, get_or, Bool, true, false, Option, Some, None, refl, sym, ap, ◌∙◌, subst, inl, inr, arith, eqb-true, eq-eqb}
use Rattle.std.specs.Prelude.{◌||◌, ◌&&◌, if◌then◌else◌, nat_eq}
use Rattle.std.proofs.lemmas.Bool.{cases_lt}
use Rattle.std.proofs.lemmas.List.{ext_get_or, length-drop, length-take}
use mathlib.Core.Option.{some, some-ne-none, some-injective}
use lib.ListN.{get_elem?}
use Rattle.fm_msg.specs.Event.{TimedMessage}
use Rattle.fm_line.specs.Line.{line}
use Rattle.fm_line.specs.Piece.{piece}
use Rattle.fm_line.proofs.Pieces.{is_piece}
use Rattle.fm_buffer.specs.Outbox.{EventQueue}
use Rattle.fm_core.proofs.Booleans.{both}
use Rattle.fm_core.specs.Effects.{run}
use Rattle.fm_core.specs.Invariant.{Fits}
use Rattle.fm_core.specs.State.{State, cell, desk, held_by, no_desk, unborn}
use Rattle.fm_core.specs.Tags.{is_ended, is_held}
use Rattle.fm_core.specs.Taking.{outbox}
use Rattle.fm_core.specs.declared.cell.Cell.{Cell}
use Rattle.fm_core.specs.declared.step.Step.{Step}
use Rattle.fm_program.specs.Process.{plan_lines}
use Rattle.fm_strand.specs.declared.strand.Strand.{Strand}
use Rattle.fm_strand.specs.Strand.{rest}
use Rattle.fm_board.specs.declared.about.About.{About}
use Rattle.fm_board.specs.declared.deposit.Deposit.{Deposit}
use Rattle.fm_board.specs.declared.view.Hold.{Hold}
use Rattle.fm_board.specs.declared.view.Mind.{Mind}
use Rattle.fm_board.specs.Laws.{StandsAtFirst}
use Rattle.fm_board.specs.Runs.{by_seat, seat_of}
use Rattle.fm_board.specs.Seats.{SeatState}
use Rattle.fm_board.specs.StandsFor.{AtHome, HoldsIn, IsHoldOf, StandsFor, StandsForSome, StrandAt, Table, beginning, setting}
use Rattle.fm_board.proofs.Claims.{same_some}
use Rattle.fm_board.proofs.Looks.{few, lined, says, valid_of}
use Rattle.fm_board.proofs.Releasing.{front}
use Rattle.fm_board.proofs.Spellings.{one_floor, yes_or_no}

-- ---- parts

pub there_is : {A : Type 0} (l : List A) (i : ℕ) → i < length l → (x : A) × (get_elem? l i ≡ some x)
there_is [] i lt = absurd (omega arith)
there_is (x ∷ xs) zero lt = (x, refl)
there_is (x ∷ xs) (suc i) lt = there_is xs i (omega arith)

-- how many events are computed, by the strand
computed_is : (a : About) (j : ℕ) (c d : Cell) (o : Option Strand) → StrandAt a j c o → StrandAt a j d o → Fits (setting a) j c
    → Fits (setting a) j d
    → c.computed ≡ d.computed
computed_is a j c d None x y f g = f.unborn x ∙ sym (g.unborn y)
computed_is a j c d (Some s) x y f g =
    let es : List TimedMessage = (line (plan_lines a.plan) j).events in
    let same : drop c.computed es ≡ drop d.computed es = sym x.0.given ∙ y.0.given in
    let first = length-drop c.computed es in
    let second = length-drop d.computed es in
    let low = f.computed in
    let low_too = g.computed in omega (arith, ap length same, first, second, low, low_too)

long_box : (a : About) (j : ℕ) (c : Cell) → Fits (setting a) j c → length (outbox (line (plan_lines a.plan) j) c) ≡ c.computed - c.taken
long_box a j c f =
    let first = length-take (c.computed - c.taken) (drop c.taken (line (plan_lines a.plan) j).events) in
    let second = length-drop c.taken (line (plan_lines a.plan) j).events in
    let low = f.computed in
    let less = f.taken in omega (arith, first, second, low, less)

-- two processes at home over one slot
home_is : (a : About) (j : ℕ) (c d : Cell) (x : Deposit) → AtHome a j c x → AtHome a j d x → Fits (setting a) j c → Fits (setting a) j d
    → c.tag ≡ d.tag → (c.computed ≡ d.computed) × (c.taken ≡ d.taken) × (c.recorded ≡ d.recorded)
home_is a j c d x p q f g tags =
    let computed = computed_is a j c d x.strand p.strand q.strand f g in
    let boxes = ap (λ (b : EventQueue). length b.events) (sym p.box ∙ q.box) in
    let first = long_box a j c f in
    let second = long_box a j d g in
    let less = f.taken in
    let less_too = g.taken in (
      computed,
      omega (arith, computed, boxes, first, second, less, less_too),
      p.recorded ∙ (ap is_ended tags ∙ sym q.recorded),
    )

module _ (a : About) (s : Table) (k : StandsForSome a s) (k' : StandsForSome a s) where
  abbrev h : State
  h = k.core

  abbrev h' : State
  h' = k'.core

  cells_many : length h.cells ≡ length h'.cells
  cells_many = lined a s k ∙ sym (lined a s k')

  module _ (j : ℕ) (lt : j < length h.cells) where
    abbrev c : Cell
    c = cell h j

    abbrev d : Cell
    d = cell h' j

    lt' : j < length h'.cells
    lt' = omega (arith, lt, cells_many)

    word : (c.tag ≡ d.tag) × (c.clock ≡ d.clock) × (c.seat ≡ d.seat)
    word = says a s k j lt d.tag d.clock d.seat (few a s k' j lt') (k'.stands.words.spelt j lt')

    -- at home
    at_home : is_held c.tag ≡ false → (c.computed ≡ d.computed) × (c.taken ≡ d.taken) × (c.recorded ≡ d.recorded)
    at_home free =
        let x = k.stands.homes.home j lt free in
        let y = k'.stands.homes.home j lt' (ap is_held (sym word.0) ∙ free) in
        let same : y.0 ≡ x.0 = same_some y.0 x.0 (some-injective (Some y.0) (Some x.0)
        (some-injective (some (Some y.0)) (some (Some x.0)) (sym y.1 ∙ x.1))) in
        home_is a j c d x.0 x.2 (subst (λ (r : Deposit). AtHome a j d r) same y.2) (k.sound.fits j lt) (k'.sound.fits j lt') word.0

    -- held
    in_hold : (z : StandsForSome a s) (m : Mind) (in_range : j < length z.core.cells) → is_held (cell z.core j).tag ≡ true
        → HoldsIn z.core (cell z.core j).seat m.view.holds → (x : Hold) × (m.view.holds ≡ Some x) × IsHoldOf (cell z.core j) x
    in_hold z m in_range held is = by_case m.view.holds refl is
      where
        mine : held_by (cell z.core j).seat (cell z.core j) ≡ true
        mine = (λ i. held i && eq-eqb (cell z.core j).seat (cell z.core j).seat refl i)

        by_case : (o : Option Hold) → m.view.holds ≡ o → HoldsIn z.core (cell z.core j).seat o
            → (x : Hold) × (m.view.holds ≡ Some x) × IsHoldOf (cell z.core j) x
        by_case None e none_held = let no = none_held j in_range in let yes = mine in absurd (cc)
        by_case (Some x) e has =
            let parts = both (is_held (cell z.core x.process).tag) (nat_eq (cell z.core x.process).seat (cell z.core j).seat) has.1 in
            let it = z.sound.alone x.process j has.0 in_range parts.0 held (eqb-true _ _ parts.1) in
            (x, e, subst (λ (q : ℕ). IsHoldOf (cell z.core q) x) it has.2)

    held_same : is_held c.tag ≡ true → (c.computed ≡ d.computed) × (c.taken ≡ d.taken) × (c.recorded ≡ d.recorded)
    held_same held = by_case (cases_lt c.seat (length s.views))
      where
        by_case : (c.seat < length s.views) ⊎ (length s.views ≤ c.seat)
            → (c.computed ≡ d.computed) × (c.taken ≡ d.taken) × (c.recorded ≡ d.recorded)
        by_case (inl made) =
            let v = there_is s.views c.seat made in
            let one = in_hold k v.0 lt held (k.stands.views.viewed c.seat v.0 v.1).is.holds in
            let two = in_hold k' v.0 lt' (ap is_held (sym word.0) ∙ held)
            (k'.stands.views.viewed d.seat v.0 (subst (λ (n : ℕ). get_elem? s.views n ≡ some v.0) word.2 v.1)).is.holds in
            let same : one.0 ≡ two.0 = same_some one.0 two.0 (sym one.1 ∙ two.1) in (
              sym one.2.computed ∙ (ap (λ (x : Hold). x.computed) same ∙ two.2.computed),
              sym one.2.taken ∙ (ap (λ (x : Hold). x.taken) same ∙ two.2.taken),
              sym one.2.recorded ∙ (ap (λ (x : Hold). x.recorded || x.was_ended) same ∙ two.2.recorded),
            )
        by_case (inr none_made) =
            let free = (k.stands.views.unmade c.seat none_made (k.sound.seated j lt held)).free j lt in
            let mine : held_by c.seat c ≡ true = (λ i. held i && eq-eqb c.seat c.seat refl i) in absurd (cc)

    cell_is : c ≡ d
    cell_is = by_case (yes_or_no (is_held c.tag))
      where
        whole : (c.computed ≡ d.computed) × (c.taken ≡ d.taken) × (c.recorded ≡ d.recorded) → c ≡ d
        whole rest = λ i. record {
          tag = word.0 i;
          clock = word.1 i;
          seat = word.2 i;
          computed = rest.0 i;
          taken = rest.1 i;
          recorded = rest.2 i;
        }

        by_case : (is_held c.tag ≡ true) ⊎ (is_held c.tag ≡ false) → c ≡ d
        by_case (inl held) = whole (held_same held)
        by_case (inr free) = whole (at_home free)

  cells_are : h.cells ≡ h'.cells
  cells_are = ext_get_or unborn h.cells h'.cells cells_many (λ j less. cell_is j less)

  desk_is : (j : ℕ) → j < length h.desks → desk h j ≡ desk h' j
  desk_is j lt = by_case (cases_lt j (length s.views))
    where
      crew : length h.desks ≡ length h'.desks
      crew = k.stands.crew ∙ sym k'.stands.crew

      by_case : (j < length s.views) ⊎ (length s.views ≤ j) → desk h j ≡ desk h' j
      by_case (inl made) =
          let v = there_is s.views j made in
          let one = (k.stands.views.viewed j v.0 v.1).is in
          let two = (k'.stands.views.viewed j v.0 v.1).is in
          λ i. record { sweep = (sym one.sweep ∙ two.sweep) i; paced = (sym one.paced ∙ two.paced) i }
      by_case (inr none_made) =
          (k.stands.views.unmade j none_made lt).desk ∙ sym (k'.stands.views.unmade j none_made (omega (arith, lt, crew))).desk

  -- two readings of a table with a first seat are one
  pub one_state : (m : Mind) → get_elem? s.views 0 ≡ some m → h ≡ h'
  one_state m at =
      let one = (k.stands.views.viewed 0 m at).zero refl in
      let two = (k'.stands.views.viewed 0 m at).zero refl in
      let floors = one_floor h.floor h'.floor k.stands.words.low k'.stands.words.low (sym k.stands.words.floor ∙ k'.stands.words.floor) in
      let desks = ext_get_or no_desk h.desks h'.desks (k.stands.crew ∙ sym k'.stands.crew) (λ j less. desk_is j less) in
      let all : List TimedMessage = piece (plan_lines a.plan) in
      let first = front h.released all (k.sound.prefix all (is_piece (plan_lines a.plan) (valid_of a).lines)) in
      let second = front h'.released all (k'.sound.prefix all (is_piece (plan_lines a.plan) (valid_of a).lines)) in
      let many : length h.released ≡ length h'.released = sym one.released ∙ two.released in
      let releases : h.released ≡ h'.released = sym first ∙ (ap (λ (n : ℕ). take n all) many ∙ second) in
      λ i. record {
        cells = cells_are i;
        floor = floors i;
        desks = desks i;
        due = (sym one.due ∙ two.due) i;
        visited = (sym one.visited ∙ two.visited) i;
        gather = (sym one.gathered ∙ two.gathered) i;
        released = releases i;
      }

-- ---- the beginning

none_made : (xs : List Step) → ((k : ℕ) → by_seat k xs ≡ []) → xs ≡ []
none_made [] none_by = refl
none_made (x ∷ xs) none_by =
    let some_by : by_seat (seat_of x) (x ∷ xs) ≡ x ∷ by_seat (seat_of x) xs =
    ap (λ (b : Bool). if b then x ∷ by_seat (seat_of x) xs else by_seat (seat_of x) xs) (eq-eqb (seat_of x) (seat_of x) refl) in
    let no = ap length (sym some_by ∙ none_by (seat_of x)) in absurd (omega (arith, no))

-- a table whose seats made no step stands for the beginning
pub begins : (a : About) (s : Table) → StandsForSome a s → ((j : ℕ) (m : Mind) → get_elem? s.views j ≡ some m → m.log.mine ≡ [])
    → StandsFor a s (beginning a)
begins a s k empty =
    let q = k.history in
    let each : (j : ℕ) → by_seat j q.steps ≡ [] = (λ j. by_case j (cases_lt j (length s.views))) in
    let none_yet = none_made q.steps each in
    subst (StandsFor a s) (sym (ap (λ (xs : List Step). run (setting a) (beginning a) xs) (sym none_yet) ∙ q.ends)) k.stands
  where
    by_case : (j : ℕ) → (j < length s.views) ⊎ (length s.views ≤ j) → by_seat j k.history.steps ≡ []
    by_case j (inl made) = let v = there_is s.views j made in sym (k.history.made j v.0 v.1) ∙ empty j v.0 v.1
    by_case j (inr none_there) = k.history.none j none_there

seats_empty : (xs : List SeatState) → ((j : ℕ) (d : SeatState) → j < length xs → (get_or xs j d).mind.log.mine ≡ []) → (j : ℕ) (m : Mind)
    → get_elem? (map (λ x. x.mind) xs) j ≡ some m → m.log.mine ≡ []
seats_empty [] each j m e = absurd (some-ne-none m (sym e))
seats_empty (x ∷ xs) each zero m e = ap (λ (y : Mind). y.log.mine) (sym (some-injective x.mind m e)) ∙ each 0 x (omega arith)
seats_empty (x ∷ xs) each (suc j) m e = seats_empty xs (λ i d lt. each (suc i) d (omega arith)) j m e

-- and so does a table of seats that made no step
pub stands_at_first : (a : About) (first : SeatState) (others : List SeatState) → first.mind.log.mine ≡ []
    → ((j : ℕ) (d : SeatState) → j < length others → (get_or others j d).mind.log.mine ≡ []) → StandsAtFirst a first others
stands_at_first a first others empty each s k views =
    begins a s k (λ j m e. seats_empty (first ∷ others) both_empty j m
    (subst (λ (xs : List Mind). get_elem? xs j ≡ some m) views e))
  where
    both_empty : (j : ℕ) (d : SeatState) → j < length (first ∷ others) → (get_or (first ∷ others) j d).mind.log.mine ≡ []
    both_empty zero d lt = empty
    both_empty (suc j) d lt = each j d (omega arith)
