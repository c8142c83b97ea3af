-- What give, publish and release say when they return.
use Rattle.std.proofs.Common.{◌≡◌, ◌≢◌, ℕ, ◌<◌, ◌≤◌, List, [], ◌∷◌, length, Bool, Option, Some, None, refl, sym, ap, ◌∙◌, subst, arith}
use Rattle.std.specs.Prelude.{◌||◌, IsSorted, IsPermutation}
use mathlib.Core.Option.{none}
use Rattle.atomic_table.specs.Seated.{TableId}
use Rattle.atomic_table.specs.Table.{Allows, rest, step}
use Rattle.fm_msg.specs.Event.{TimedMessage, event_cmp}
use Rattle.fm_line.specs.Piece.{sorted}
use Rattle.fm_line.proofs.Sorting.{length-sorted}
use Rattle.fm_buffer.proofs.Settled.{settled}
use Rattle.fm_buffer.specs.Outbox.{EventQueue}
use Rattle.fm_core.specs.Floors.{floor_of}
use Rattle.fm_core.specs.Sweep.{least}
use Rattle.fm_core.specs.Tags.{given_tag}
use Rattle.fm_core.specs.declared.due.Due.TheVariants.{Nothing}
use Rattle.fm_core.specs.declared.floor.Floor.{Floor}
use Rattle.fm_core.specs.declared.sight.Sight.{Sight as Look}
use Rattle.fm_core.specs.declared.tag.Tag.{Tag}
use Rattle.fm_strand.proofs.WholeLemmas.{end-late}
use Rattle.fm_strand.proofs.ValidLemmas.{lines-valid}
use Rattle.fm_strand.specs.declared.strand.Strand.{Strand}
use Rattle.fm_strand.specs.Strand.{clock_of, steps_left}
use Rattle.fm_program.specs.Parts.{PlanParts}
use Rattle.fm_board.specs.declared.about.About.{About}
use Rattle.fm_board.specs.declared.deposit.Deposit.{Deposit}
use Rattle.fm_board.specs.declared.view.Hold.{Hold}
use Rattle.fm_board.specs.declared.view.Mind.{Mind}
use Rattle.fm_board.specs.declared.view.View.{View}
use Rattle.fm_board.specs.Answers.{Gave}
use Rattle.fm_board.specs.Calls.{MayComeBack, Releases}
use Rattle.fm_core.specs.declared.step.Step.TheVariants.{Release}
use Rattle.fm_board.specs.Minds.{did, noticed, stepping}
use Rattle.fm_board.specs.Plays.{GivesBack, Holder, brings, brings_events, events_in, gives_back, left_in, publishes}
use Rattle.fm_board.specs.Minds as seat_minds
use Rattle.fm_board.specs.Knowing.{Knows}
use Rattle.fm_board.specs.Runs.{Extends}
use Rattle.fm_board.specs.Seats.{IsNext, SeatState, carried, making}
use Rattle.fm_board.specs.View.{is_over}
use Rattle.fm_board.specs.StandsFor.{StandsForSome, count}
use Rattle.fm_board.specs.View.{gave, giving, processes, released}
use Rattle.fm_board.specs.Words.{floor_word, spell, word_at}
use Rattle.fm_board.proofs.ComingHome.{brought}
use Rattle.fm_board.proofs.Gives.{gives_of}
use Rattle.fm_board.proofs.Publishing.{publishes_of}
use Rattle.fm_board.proofs.Steps.{Tidy, idle_tidy}
use Rattle.fm_line.specs.declared.limits.TheConstants.{LAST_TICK}

-- ---- give

-- the clock of a strand that is brought back is at most the last tick
pub clock_low : (a : About) (v : View) (p n : ℕ) (s : Strand) (box : EventQueue) → MayComeBack a v p s box → n ≡ clock_of a.plan s → n ≤ LAST_TICK
clock_low a v p n s box may is =
    let late = end-late a.plan s may.strand.course in
    let top = ((lines-valid a.plan a.fits).ends s.process).0 in omega (arith, late, top, is)

over_is : (a : About) (v : View) (p : ℕ) (s : Strand) (box : EventQueue) (may : MayComeBack a v p s box)
    → is_over v.holds ≡ (may.h.recorded || may.h.was_ended)
over_is a v p s box may = ap is_over may.is

pub some_held : (a : About) (v : View) (p : ℕ) (s : Strand) (box : EventQueue) → MayComeBack a v p s box → v.holds ≢ None
some_held a v p s box may none_held = let is = sym may.is ∙ none_held in absurd (cc)

pub gives_at : (key a : About) (slots id i p new : ℕ) (m m1 : Holder) (s : Strand) (box : EventQueue) (x : SeatState)
    → key ≡ a → m.0 ≡ x.mind → i ≡ word_at p → MayComeBack a x.mind.view p s box → length box.events ≤ box.room
    → new ≡ spell (given_tag a.room (is_over x.mind.view.holds) (length box.events)) (clock_of a.plan s) 0
    → m1 ≡ (m.0, (p, Some (brought s box)) ∷ rest m.1)
    → Allows (StandsForSome key) slots id m1 i (λ _. new) (λ _. gives_back (step slots i new 0 none) m1 new)
gives_at key a slots id i p new m m1 s box x same is at may fits is_new now =
    let at_0 : m1.0 ≡ x.mind = ap (λ (y : Holder). y.0) now ∙ is in
    let may1 : MayComeBack key m1.0.view p s box =
    subst (λ (y : About × Mind). MayComeBack y.0 y.1.view p s box) (λ j. (sym same j, sym at_0 j)) may in
    let near : p < count key = subst (λ (q : ℕ). q < length key.plan.programs) may1.strand.process may1.strand.course.process in
    let over : is_over x.mind.view.holds ≡ (may1.h.recorded || may1.h.was_ended) =
    ap (λ (y : Mind). is_over y.view.holds) (sym at_0) ∙ over_is key m1.0.view p s box may1 in
    subst (λ (j : ℕ). Allows (StandsForSome key) slots id m1 j (λ _. new) (λ _. gives_back (step slots j new 0 none) m1 new)) (sym at)
    (gives_of key slots id p new m1 (rest m.1) s box (ap (λ (y : Holder). y.1) now) may1 fits near
    (is_new ∙ (λ j. spell (given_tag (sym same j).room (over j) (length box.events)) (clock_of (sym same j).plan s) 0)))

pub gave_tidy : (n p clock c : ℕ) (o : Bool) (xs : List Look) (tag : Tag) (m m1 m2 : Holder) (r : Option Deposit) → Tidy n o xs c m
    → m1 ≡ (m.0, (p, r) ∷ rest m.1)
    → GivesBack m1 p tag clock m2 → Tidy n o xs c m2
gave_tidy n p clock c o xs tag m m1 m2 r tidy now back =
    idle_tidy n o xs c m m2 tidy
    (ap (λ (y : Mind). y.view.number) back.mind ∙ ap (λ (y : Holder). y.0.view.number) now)
    (ap (λ (y : Mind). y.view.holds) back.mind)
    (ap (λ (y : Mind). y.view.sweep) back.mind ∙ ap (λ (y : Holder). y.0.view.sweep) now)
    (ap (λ (y : Mind). y.view.plan) back.mind ∙ ap (λ (y : Holder). y.0.view.plan) now)
    (back.out ∙ (ap (λ (y : Holder). rest y.1) now ∙ (ap rest tidy.2 ∙ empty m.0.view.holds)))
  where
    empty : (h : Option Hold) → rest (carried h) ≡ []
    empty None = refl
    empty (Some h) = refl

pub gave_as : (a : About) (t1 t2 t3 : TableId) (p clock : ℕ) (tag : Tag) (m m1 m2 : Holder)
    (r : Option Deposit) (s : Strand) (box : EventQueue) (x : SeatState)
    → m1 ≡ (m.0, (p, r) ∷ rest m.1) → events_in r ≡ length box.events
    → ((q : PlanParts) → left_in q r ≡ steps_left q s) → x.mind.view.plan ≡ a.plan → GivesBack m1 p tag clock m2
    → tag ≡ given_tag a.room (is_over x.mind.view.holds) (length box.events) → clock ≡ clock_of a.plan s → t3 ≡ t2 → t2 ≡ t1
    → record { table = t1; mind = m.0 } ≡ x
    → Gave a x (record { process = p; strand = s; outbox = box }) (record { table = t3; mind = m2.0 })
gave_as a t1 t2 t3 p clock tag m m1 m2 r s box x now many came plan back is_tag is_clock k2 k1 seen =
    let minds : m1.0 ≡ x.mind = ap (λ (y : Holder). y.0) now ∙ ap (λ (y : SeatState). y.mind) seen in
    let brought_in : brings_events m1.1 ≡ length box.events = ap (λ (y : Holder). brings_events y.1) now ∙ many in
    let steps : brings m1.0.view.plan m1.1 ≡ steps_left a.plan s =
    ap (λ (y : Holder). brings m1.0.view.plan y.1) now ∙ (came m1.0.view.plan
    ∙ ap (λ (q : PlanParts). steps_left q s) (ap (λ (y : Mind). y.view.plan) minds ∙ plan)) in
    λ i. record {
      table = (k2 ∙ (k1 ∙ ap (λ (y : SeatState). y.table) seen)) i;
      mind = (back.mind ∙ (λ j. noticed (minds j) p (is_tag j) (is_clock j) (steps j) (gave (minds j).view)
          (did (minds j) (giving (minds j).view p (brought_in j) (is_clock j)) m2.0.log.seen))) i;
    }

-- and what the seat knows then
pub gave_knows : (p : ℕ) (tag : Tag) (clock : ℕ) (m m1 m2 : Holder) (r : Option Deposit) (t1 : TableId) (x : SeatState)
    → m1 ≡ (m.0, (p, r) ∷ rest m.1) → GivesBack m1 p tag clock m2 → record { table = t1; mind = m.0 } ≡ x → Knows x.mind m2.0
gave_knows p tag clock m m1 m2 r t1 x now back seen =
    subst (λ (y : Mind). Knows y m2.0) (ap (λ (y : Holder). y.0) now ∙ ap (λ (y : SeatState). y.mind) seen) back.knows

-- and what it has seen
pub gave_extends : (p : ℕ) (tag : Tag) (clock : ℕ) (m m1 m2 : Holder) (r : Option Deposit) (t1 : TableId) (x : SeatState)
    → m1 ≡ (m.0, (p, r) ∷ rest m.1) → GivesBack m1 p tag clock m2 → record { table = t1; mind = m.0 } ≡ x
    → Extends x.mind.view.number x.mind.log m2.0.log
gave_extends p tag clock m m1 m2 r t1 x now back seen =
    subst (λ (y : Mind). Extends y.view.number y.log m2.0.log) (ap (λ (y : Holder). y.0) now ∙ ap (λ (y : SeatState). y.mind) seen)
    back.extends

-- ---- publish

pub publishes_at : (key : About) (slots id new : ℕ) (f : Floor) (m : Holder) (x : SeatState) → m.0 ≡ x.mind → x.mind.view.number ≡ 0
    → length x.mind.view.sweep ≡ processes x.mind.view → x.mind.view.due ≡ Nothing → f ≡ floor_of (least x.mind.view.sweep)
    → new ≡ floor_word f
    → Allows (StandsForSome key) slots id m 0 (λ _. new) (λ _. publishes (step slots 0 new 0 none) m new)
publishes_at key slots id new f m x is number swept due floor is_new =
    publishes_of key slots id new m (ap (λ (y : Mind). y.view.number) is ∙ number)
    (subst (λ (y : Mind). length y.view.sweep ≡ processes y.view) (sym is) swept)
    (ap (λ (y : Mind). y.view.due) is ∙ due)
    (is_new ∙ ap floor_word (floor ∙ ap (λ (y : Mind). floor_of (least y.view.sweep)) (sym is)))

-- ---- release

-- what a settled gather holds
pub gathered_next : (m : Mind) (x : SeatState) (old new : List TimedMessage) → m ≡ x.mind → IsNext m.view → old ≡ x.mind.view.gathered
    → IsPermutation old new → IsSorted event_cmp new → Releases x.mind.view new × (length new ≡ length m.view.gathered)
gathered_next m x old new is next taken permuted in_order =
    let same : old ≡ m.view.gathered = taken ∙ ap (λ (y : Mind). y.view.gathered) (sym is) in
    let settles : new ≡ sorted m.view.gathered =
    settled m.view.gathered new next.ordered (subst (λ (xs : List TimedMessage). IsPermutation xs new) same permuted) in_order in (
      subst (λ (y : Mind × List TimedMessage). Releases y.0.view y.1) (λ i. (is i, sym settles i)) next.releases,
      ap length settles ∙ length-sorted m.view.gathered,
    )

pub released_as : (t1 t2 : TableId) (m m2 : Holder) (n : ℕ) (x : SeatState) → m2 ≡ (seat_minds.settled m.0, m.1) → n ≡ length m.0.view.gathered
    → t2 ≡ t1
    → record { table = t1; mind = m.0 } ≡ x
    → ◌≡◌ {A = SeatState} (record { table = t2; mind = m2.0 }) (making x (Release n) (released x.mind.view n) x.mind.log.seen)
released_as t1 t2 m m2 n x now long kept seen =
    let minds : m.0 ≡ x.mind = ap (λ (y : SeatState). y.mind) seen in
    λ i. record {
      table = (kept ∙ ap (λ (y : SeatState). y.table) seen) i;
      mind = (ap (λ (y : Holder). y.0) now
          ∙ (λ j. stepping (minds j) (Release (sym long j)) (released (minds j).view (sym long j)) (minds j).log.seen)) i;
    }
