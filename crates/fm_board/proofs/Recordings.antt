-- The stores of a record, over what a seat is seen as.
use Rattle.std.proofs.Common.{◌≡◌, ℕ, ◌+◌, ◌<◌, ◌≤◌, List, [], ◌∷◌, length, Bool, false, Option, Some, None, refl, sym, ap, ◌∙◌, subst}
use Rattle.std.specs.Prelude.{◌||◌}
use mathlib.Core.Option.{none}
use Rattle.atomic_table.specs.Table.{Allows, step}
use Rattle.fm_core.specs.declared.sight.Sight.{Sight as Look}
use Rattle.fm_board.specs.declared.about.About.{About}
use Rattle.fm_board.specs.declared.view.Hold.{Hold}
use Rattle.fm_board.specs.declared.view.Mind.{Mind}
use Rattle.fm_core.specs.declared.step.Step.{Step}
use Rattle.fm_core.specs.declared.step.Step.TheVariants.{Record}
use Rattle.fm_board.specs.Minds.{stepping, viewing}
use Rattle.fm_board.specs.Plays.{Holder, records, writes}
use Rattle.fm_board.specs.Seats.{IsOurs, MayWrite, SeatState, making}
use Rattle.fm_board.specs.View.{is_over}
use Rattle.fm_board.specs.StandsFor.{StandsForSome}
use Rattle.fm_board.specs.View.{noted, noted_hold, process_of, wrote, wrote_hold}
use Rattle.atomic_table.specs.Seated.{TableId}
use Rattle.fm_strand.specs.Course.{PlaceFits}
use Rattle.fm_board.specs.Words.{place_at, place_word}
use Rattle.fm_strand.proofs.PlaceLemmas.{end-fits}
use Rattle.fm_strand.specs.Course.{end_place}
use Rattle.fm_board.proofs.Records.{records_of}
use Rattle.fm_board.proofs.Writes.{writes_of}
use Rattle.fm_board.proofs.Steps.{Tidy, still_swept}
use Rattle.fm_board.specs.Seats.{carried}
use Rattle.fm_board.specs.Calls.{MayRecord}
use Rattle.fm_board.specs.declared.view.View.{View}
use Rattle.fm_nest.specs.declared.place.Place.{Place as EndPlace}
use Rattle.fm_strand.proofs.WholeLemmas.{at-end}
use Rattle.fm_strand.specs.declared.strand.Strand.{Strand}
use Rattle.fm_strand.specs.Strand as strands

pub writes_at : (key a : About) (slots id i p w new : ℕ) (m : Holder) (x : SeatState) → key ≡ a → m.0 ≡ x.mind → i ≡ place_at p w → w < 8
    → MayWrite a x p w new → Allows (StandsForSome key) slots id m i (λ _. new) (λ _. writes (step slots i new 0 none) m new)
writes_at key a slots id i p w new m x same is at few may =
    let mine : MayWrite key x p w new = subst (λ (b : About). MayWrite b x p w new) (sym same) may in
    subst (λ (j : ℕ). Allows (StandsForSome key) slots id m j (λ _. new) (λ _. writes (step slots j new 0 none) m new)) (sym at)
    (writes_of key slots id p w new mine.hold m mine.there few
    (ap (λ (y : Mind). y.view.holds) is ∙ mine.is) mine.process mine.many mine.right)

pub records_at : (key a : About) (slots id i p new : ℕ) (m : Holder) (x : SeatState) → key ≡ a → m.0 ≡ x.mind → i ≡ place_at p 8
    → MayWrite a x p 8 new → Allows (StandsForSome key) slots id m i (λ _. new) (λ _. records (step slots i new 0 none) m new)
records_at key a slots id i p new m x same is at may =
    let mine : MayWrite key x p 8 new = subst (λ (b : About). MayWrite b x p 8 new) (sym same) may in
    subst (λ (j : ℕ). Allows (StandsForSome key) slots id m j (λ _. new) (λ _. records (step slots j new 0 none) m new)) (sym at)
    (records_of key slots id p new mine.hold m mine.there (ap (λ (y : Mind). y.view.holds) is ∙ mine.is) mine.process mine.many mine.live
    mine.right)

-- a hold of the same process, with the same end or its end noted
pub holding_tidy : (n : ℕ) (o o' : Bool) (xs : List Look) (c : ℕ) (m m' : Holder) (x y : Hold) → Tidy n o xs c m → m.0.view.holds ≡ Some x
    → m'.0.view.number ≡ m.0.view.number → m'.0.view.holds ≡ Some y → m'.0.view.sweep ≡ m.0.view.sweep → m'.0.view.plan ≡ m.0.view.plan
    → y.process ≡ x.process → o' ≡ (y.recorded || y.was_ended) → m'.1 ≡ m.1 → Tidy n o' xs c m'
holding_tidy n o o' xs c m m' x y tidy has number holds sweep plan process over out = (
  tidy.0 ∙ sym number,
  tidy.1,
  out ∙ (tidy.2 ∙ (ap carried has ∙ ((λ i. (sym process i, None) ∷ []) ∙ ap carried (sym holds)))),
  λ _. over ∙ ap is_over (sym holds),
  still_swept xs c m.0.view m'.0.view tidy.4 sweep plan,
)

-- what a store of a place word leaves
pub wrote_as : (t1 t2 : TableId) (m m' : Holder) (w : ℕ) (x : SeatState) (h : Hold) → m.0.view.holds ≡ Some h
    → m'.0 ≡ viewing m.0 (record m.0.view { holds = Some (record h { written = w + 1 }) }) → t2 ≡ t1 → record { table = t1; mind = m.0 } ≡ x
    → ◌≡◌ {A = SeatState} (record { table = t2; mind = m'.0 }) (record { table = x.table; mind = viewing x.mind (wrote x.mind.view (w + 1)) })
wrote_as t1 t2 m m' w x h has now kept seen =
    let minds : m.0 ≡ x.mind = ap (λ (y : SeatState). y.mind) seen in
    λ i. record {
      table = (kept ∙ ap (λ (y : SeatState). y.table) seen) i;
      mind = (now ∙ ((λ j. viewing m.0 (record m.0.view { holds = wrote_hold (sym has j) (w + 1) }))
          ∙ (λ j. viewing (minds j) (wrote (minds j).view (w + 1))))) i;
    }

-- the place that a strand at its end gives is its process's end place, which the words of a place take
place_is : (a : About) (v : View) (p : ℕ) (s : Strand) (l : EndPlace) → MayRecord a v p s → l ≡ strands.place_reached a.plan s
    → l ≡ end_place a.plan p
place_is a v p s l may is =
    is ∙ ((at-end a.plan s may.strand.course may.over).2 ∙ ap (end_place a.plan) may.strand.process)

planned : (a : About) (v : View) (p : ℕ) (s : Strand) → MayRecord a v p s → p < length a.plan.programs
planned a v p s may = subst (λ (q : ℕ). q < length a.plan.programs) may.strand.process may.strand.course.process

pub place_fits : (a : About) (v : View) (p : ℕ) (s : Strand) (l : EndPlace) → MayRecord a v p s → l ≡ strands.place_reached a.plan s
    → PlaceFits l
place_fits a v p s l may is = subst PlaceFits (sym (place_is a v p s l may is)) (end-fits a.plan p a.fits (planned a v p s may))

-- what the stores of a record ask, while so many were made
pub may_write : (a : About) (v : View) (p n word : ℕ) (s : Strand) (l : EndPlace) (x : SeatState) (y : Hold) → MayRecord a v p s
    → l ≡ strands.place_reached a.plan s → x.mind.view.holds ≡ Some y → y.process ≡ p → n ≤ y.written → y.was_ended ≡ false
    → word ≡ place_word l n → MayWrite a x p n word
may_write a v p n word s l x y may place holds process many live is = record {
  hold = y;
  is = holds;
  process = process;
  there = planned a v p s may;
  many = many;
  live = live;
  right = is ∙ ap (λ (z : EndPlace). place_word z n) (place_is a v p s l may place);
}

noted_wrote : (o : Option Hold) (n : ℕ) → noted_hold (wrote_hold o n) ≡ noted_hold o
noted_wrote None n = refl
noted_wrote (Some h) n = refl

-- noting the end forgets how many words were written
pub still_noted : (m m' : Mind) (p n : ℕ) (xs : List Step) → m' ≡ viewing m (wrote m.view n)
    → stepping m' (Record m'.view.number p) (noted m'.view) xs ≡ stepping m (Record m.view.number p) (noted m.view) xs
still_noted m m' p n xs is =
    ap (λ (y : Mind). stepping y (Record y.view.number p) (noted y.view) xs) is
    ∙ (λ i. stepping m (Record m.view.number p) (record m.view { holds = noted_wrote m.view.holds n i }) xs)

-- nor does it make the seat another board's
pub still_ours : (t : TableId) (a : About) (x y : SeatState) (p : ℕ) → IsOurs t a x → y.table ≡ x.table
    → ((xs : List Step) → stepping y.mind (Record y.mind.view.number p) (noted y.mind.view) xs
    ≡ stepping x.mind (Record x.mind.view.number p) (noted x.mind.view) xs)
    → IsOurs t a y
still_ours t a x y p ours table same = record {
  table = table ∙ ours.table;
  plan = ap (λ (m : Mind). m.view.plan) (same []) ∙ ours.plan;
  room = ap (λ (m : Mind). m.room) (same []) ∙ ours.room;
  lead = ap (λ (m : Mind). m.view.lead) (same []) ∙ ours.lead;
  seats = ap (λ (m : Mind). m.view.seats) (same []) ∙ ours.seats;
}

-- what the last store leaves
pub recorded_as : (a : About) (t1 t2 : TableId) (m m' : Holder) (p w : ℕ) (x : SeatState) → MayWrite a x p 8 w
    → m'.0 ≡ stepping m.0 (Record m.0.view.number (process_of m.0.view.holds)) (noted m.0.view) m'.0.log.seen → t2 ≡ t1
    → record { table = t1; mind = m.0 } ≡ x
    → ◌≡◌ {A = SeatState} (record { table = t2; mind = m'.0 }) (making x (Record x.mind.view.number p) (noted x.mind.view) m'.0.log.seen)
recorded_as a t1 t2 m m' p w x may now kept seen =
    let minds : m.0 ≡ x.mind = ap (λ (y : SeatState). y.mind) seen in
    let held : process_of m.0.view.holds ≡ p = ap (λ (y : Mind). process_of y.view.holds) minds ∙ (ap process_of may.is ∙ may.process) in
    λ i. record {
      table = (kept ∙ ap (λ (y : SeatState). y.table) seen) i;
      mind = (now ∙ (λ j. stepping (minds j) (Record (minds j).view.number (held j)) (noted (minds j).view) m'.0.log.seen)) i;
    }
