-- The parts of a start: marks of predecessors, the greatest of their ends, and what the seat holds then.
use Rattle.std.proofs.Common.{◌≡◌, ◌≢◌, ℕ, zero, suc, ◌+◌, ◌-◌, ◌<◌, ◌≤◌, List, [], ◌∷◌, length, map, take, drop, get_or, set, max, Bool, true, false, Option, Some, None, refl, sym, ap, ◌∙◌, subst, arith, eqb, get_or-set_same}
use Rattle.std.specs.Prelude.{◌||◌}
use Rattle.std.proofs.lemmas.List.{get_or_past}
use Rattle.fm_msg.specs.Event.{TimedMessage}
use mathlib.Core.Option.{none}
use mathlib.Core.Logic.{dite}
use native.Mathlib.Decide.{ℕ_discrete}
use prog.Atomic.{either}
use Rattle.atomic_table.specs.Seated.{TableId}
use Rattle.atomic_table.specs.Table.{Allows, rest, step}
use Rattle.fm_line.specs.Line.{event_at, greatest, line, start}
use Rattle.fm_line.specs.declared.limits.TheConstants.{LAST_TICK}
use Rattle.fm_line.specs.Piece.{Rises}
use Rattle.fm_core.proofs.Elements.{take_none}
use Rattle.fm_core.specs.Tags.{is_ended, is_unborn}
use Rattle.fm_core.specs.declared.tag.Tag.{Tag}
use Rattle.fm_core.specs.declared.tag.Tag.TheVariants.{Unborn, Home, Full, Out, Ended, EndedOut, Drained}
use Rattle.fm_buffer.specs.Outbox.{EventQueue}
use Rattle.fm_program.proofs.Lines.{plan-lines-waits}
use Rattle.fm_program.specs.Parts.{PlanParts, process_program}
use Rattle.fm_program.specs.Process.{plan_lines}
use Rattle.fm_strand.proofs.ValidLemmas.{lines-valid}
use Rattle.fm_strand.specs.declared.strand.Strand.{Strand}
use Rattle.fm_strand.specs.Strand as strands
use Rattle.fm_strand.specs.Calls.{IsBegun}
use Rattle.fm_strand.specs.Course.{steps_of}
use Rattle.std.specs.Prelude.{All}
use Rattle.std.proofs.lemmas.List.Elements.{All-nil}
use Rattle.fm_core.specs.declared.sight.Sight.{Sight as Look}
use Rattle.fm_board.specs.declared.about.About.{About}
use Rattle.fm_board.specs.declared.deposit.Deposit.{Deposit}
use Rattle.fm_board.specs.declared.view.Hold.{Hold}
use Rattle.fm_board.specs.declared.view.Log.{Log}
use Rattle.fm_board.specs.declared.view.Mind.{Mind}
use Rattle.fm_board.specs.declared.view.View.{View}
use Rattle.fm_board.specs.Answers.{IsBerth}
use Rattle.fm_board.specs.Starting.{predecessors_of}
use Rattle.fm_board.specs.Starting as answers
use Rattle.fm_core.specs.declared.step.Step.TheVariants.{Start}
use Rattle.fm_board.specs.Runs.{Extends}
use Rattle.fm_board.specs.Minds.{did, spotted, turned}
use Rattle.fm_board.specs.Plays.{HandsUnborn, Marked, Holder, Tells, starts}
use Rattle.fm_board.specs.Seats.{IsOurs, SeatState, carried}
use Rattle.fm_board.specs.View.{is_over}
use Rattle.fm_board.specs.StandsFor.{StandsForSome}
use Rattle.fm_board.specs.View.{holding, lines_of, processes, waiting}
use Rattle.fm_board.specs.Words.{IsSpoken, spell, word_at}
use Rattle.fm_board.proofs.Starts.{starts_of}
use Rattle.fm_strand.proofs.CallLemmas.{begun-place}
use Rattle.fm_board.proofs.Steps.{Tidy, below_count, same_some, still_swept}

one_more : (f : ℕ → ℕ) (xs : List ℕ) (i : ℕ) → i < length xs
    → greatest (map f (take (suc i) xs)) ≡ max (greatest (map f (take i xs))) (f (get_or xs i 0))
one_more f [] i less = absurd (omega arith)
one_more f (x ∷ xs) zero less = omega arith
one_more f (x ∷ xs) (suc i) less = let r = one_more f xs i (omega arith) in omega (arith, r)

pub greatest_more : (f : ℕ → ℕ) (xs : List ℕ) (i : ℕ) → i < length xs
    → greatest (map f (take (i + 1) xs)) ≡ max (greatest (map f (take i xs))) (f (get_or xs i 0))
greatest_more f xs i less =
    let same : i + 1 ≡ suc i = omega arith in ap (λ k. greatest (map f (take k xs))) same ∙ one_more f xs i less

still_true : (l : List Bool) (i j : ℕ) → get_or l j false ≡ true → get_or (set l i true) j false ≡ true
still_true [] i j e = e
still_true (y ∷ ys) zero zero e = refl
still_true (y ∷ ys) zero (suc j) e = e
still_true (y ∷ ys) (suc i) zero e = e
still_true (y ∷ ys) (suc i) (suc j) e = still_true ys i j e

-- a predecessor that was found ended is marked, and those before it stay marked
pub marked_more : (m m' : Mind) (ps : List ℕ) (n c r : ℕ) (t : Tag) (v : View) (xs : Log) → is_ended t ≡ true
    → get_or ps n 0 < length m.over
    → ((i : ℕ) → i < n → get_or m.over (get_or ps i 0) false ≡ true) → m' ≡ spotted m (get_or ps n 0) t c r v xs
    → (i : ℕ) → i < n + 1 → get_or m'.over (get_or ps i 0) false ≡ true
marked_more m m' ps n c r t v xs ended near marked is i less =
    ap (λ (y : Mind). get_or y.over (get_or ps i 0) false) is
    ∙ (ap (λ (b : Bool). get_or (set m.over (get_or ps n 0) b) (get_or ps i 0) false) ended
    ∙ dite (ℕ_discrete i n)
    (λ e. ap (λ (j : ℕ). get_or (set m.over (get_or ps n 0) true) (get_or ps j 0) false) e
    ∙ get_or-set_same m.over (get_or ps n 0) true false near)
    (λ ne. still_true m.over (get_or ps n 0) (get_or ps i 0) (marked i (omega (arith, ne, less)))))

-- the predecessors of a process are those of its line, and lie below it
pub waits_are : (a : About) (p : ℕ) (ps : List ℕ) → ps ≡ (process_program a.plan p).predecessors
    → ps ≡ (line (plan_lines a.plan) p).predecessors
waits_are a p ps is = is ∙ sym (plan-lines-waits a.plan p)

pub waits_below : (a : About) (p i : ℕ) (ps : List ℕ) → ps ≡ (process_program a.plan p).predecessors → i < length ps → get_or ps i 0 < p
waits_below a p i ps is less =
    subst (λ (xs : List ℕ). i < length xs → get_or xs i 0 < p) (sym (waits_are a p ps is)) ((lines-valid a.plan a.fits).below p i 0) less

pub ours_still : (t : TableId) (a : About) (x y : SeatState) → IsOurs t a x → y.table ≡ x.table → y.mind.view ≡ x.mind.view
    → y.mind.room ≡ x.mind.room → IsOurs t a y
ours_still t a x y ours table view room = record {
  table = table ∙ ours.table;
  plan = ap (λ (v : View). v.plan) view ∙ ours.plan;
  room = room ∙ ours.room;
  lead = ap (λ (v : View). v.lead) view ∙ ours.lead;
  seats = ap (λ (v : View). v.seats) view ∙ ours.seats;
}

-- a word that is not 0 is of no unborn process
pub unborn_zero : (t : Tag) (c n : ℕ) → IsSpoken t c n → is_unborn t ≡ true → spell t c n ≡ 0
unborn_zero Unborn c n is e = let a = is.idle refl in let b = is.unborn refl in omega arith
unborn_zero Home c n is e = absurd (cc)
unborn_zero Full c n is e = absurd (cc)
unborn_zero Out c n is e = absurd (cc)
unborn_zero Ended c n is e = absurd (cc)
unborn_zero EndedOut c n is e = absurd (cc)
unborn_zero Drained c n is e = absurd (cc)

pub not_unborn : (t : Tag) (c n w : ℕ) → IsSpoken t c n → w ≡ spell t c n → w ≢ 0 → is_unborn t ≡ false
not_unborn t c n w is word other = by_case (is_unborn t) refl
  where
    by_case : (b : Bool) → is_unborn t ≡ b → is_unborn t ≡ false
    by_case true e = absurd (other (word ∙ unborn_zero t c n is e))
    by_case false e = e

-- the exchange of a start
pub starts_at : (key a : About) (t : TableId) (slots id i p new tick number : ℕ) (m : Holder) (x : SeatState) → key ≡ a → IsOurs t a x
    → m.0 ≡ x.mind → i ≡ word_at p → p < processes x.mind.view → x.mind.view.holds ≡ None → Marked x.mind p (length (predecessors_of x p))
    → tick ≡ start (plan_lines a.plan) p → number ≡ m.0.view.number → new ≡ spell Out tick number
    → Allows (StandsForSome key) slots id m i (λ z. either (eqb z 0) new z) (starts (step slots i 0 new none) m)
starts_at key a t slots id i p new tick number m x same ours is at there idle marked tick_is number_is new_is =
    let plans : m.0.view.plan ≡ a.plan = ap (λ (y : Mind). y.view.plan) is ∙ ours.plan in
    let marks : Marked m.0 p (length (line (lines_of m.0.view) p).predecessors) =
    subst (λ (y : Mind). Marked y p (length (line (lines_of y.view) p).predecessors)) (sym is) marked in
    let starts_there : tick ≡ start (lines_of m.0.view) p = tick_is ∙ ap (λ (q : PlanParts). start (plan_lines q) p) (sym plans) in
    subst (λ (j : ℕ). Allows (StandsForSome key) slots id m j (λ z. either (eqb z 0) new z) (starts (step slots j 0 new none) m)) (sym at)
    (starts_of key slots id p new m (ap (λ (y : Mind). y.view.holds) is ∙ idle) (below_count key a t x p same ours there) marks
    (new_is ∙ (λ k. spell Out (starts_there k) (number_is k))))

-- a process starts no later than the last tick
pub start_low : (a : About) (p : ℕ) → start (plan_lines a.plan) p ≤ LAST_TICK
start_low a p =
    let l = line (plan_lines a.plan) p in
    let valid = lines-valid a.plan a.fits in
    let begun = valid.begun p (length l.events) in
    let last = ap (λ (e : TimedMessage). e.time) (get_or_past l.events (length l.events) (event_at l.end) (omega arith)) in
    let end = (valid.ends p).0 in
    omega (arith, begun, last, end)

pub begun_tidy : (n p : ℕ) (o : Bool) (xs : List Look) (s : ℕ) (m m1 m2 : Holder) → Tidy n o xs s m → m.0.view.holds ≡ None → HandsUnborn m p m1
    → m2 ≡ (m1.0, (p, None) ∷ rest m1.1) → Tidy n false xs s m2
begun_tidy n p o xs s m m1 m2 tidy idle hit is =
    let holds : m2.0.view.holds ≡ Some hit.hold = ap (λ (y : Holder). y.0.view.holds) is ∙ ap (λ (y : Mind). y.view.holds) hit.mind in
    let empty : m.1 ≡ [] = tidy.2 ∙ ap carried idle in
    let out : m2.1 ≡ (p, None) ∷ [] = ap (λ (y : Holder). y.1) is
    ∙ ap (λ (xs : List (ℕ × Option Deposit)). (p, None) ∷ xs) (ap rest hit.out ∙ empty) in
    let number : m2.0.view.number ≡ m.0.view.number =
    ap (λ (y : Holder). y.0.view.number) is ∙ ap (λ (y : Mind). y.view.number) hit.mind in (
      tidy.0 ∙ sym number,
      tidy.1,
      out ∙ ((λ i. (sym hit.process i, None) ∷ []) ∙ ap carried (sym holds)),
      λ _. (λ i. sym hit.fresh i || sym hit.was_ended i) ∙ ap is_over (sym holds),
      still_swept xs s m.0.view m2.0.view tidy.4
          (ap (λ (y : Holder). y.0.view.sweep) is ∙ ap (λ (y : Mind). y.view.sweep) hit.mind)
          (ap (λ (y : Holder). y.0.view.plan) is ∙ ap (λ (y : Mind). y.view.plan) hit.mind),
    )

-- nothing waits where nothing is computed
pub none_waits : (p : PlanParts) (h : Hold) → h.computed ≡ 0 → waiting p h ≡ []
none_waits p h none_computed =
    ap (λ (n : ℕ). take (n - h.taken) (drop h.taken (line (plan_lines p) h.process).events)) none_computed
    ∙ (let z : 0 - h.taken ≡ 0 = omega arith in ap (λ (n : ℕ). take n (drop h.taken (line (plan_lines p) h.process).events)) z
    ∙ take_none (drop h.taken (line (plan_lines p) h.process).events))

-- the berth of a process that was started
pub begun_berth : (a : About) (t : TableId) (p : ℕ) (m m1 : Holder) (r : Deposit) (s : Strand) (x : SeatState) → IsOurs t a x → m.0 ≡ x.mind
    → (hit : HandsUnborn m p m1)
    → r ≡ hit.stock → s.process ≡ p → strands.InCourse a.plan s → strands.clock_of a.plan s ≡ start (plan_lines a.plan) p
    → strands.rest a.plan s ≡ (line (plan_lines a.plan) p).events → strands.steps_left a.plan s ≡ steps_of a.plan p
    → IsBerth a p hit.hold (record { process = p; strand = s; outbox = r.outbox }) × (hit.hold.clock ≡ start (plan_lines a.plan) p)
begun_berth a t p m m1 r s x ours is hit room process course clock whole steps =
    let starts_there : hit.hold.clock ≡ start (plan_lines a.plan) p =
    hit.clock ∙ ap (λ (q : PlanParts). start (plan_lines q) p) (ap (λ (y : Mind). y.view.plan) is ∙ ours.plan) in
    let none_yet : waiting a.plan hit.hold ≡ [] = none_waits a.plan hit.hold hit.computed in
    let box = ap (λ (y : Deposit). y.outbox) room ∙ hit.box in (
      record {
        hold = record {
          process = hit.process;
          strand = record {
            strand = record { course = course; process = process };
            given = whole ∙ ap (λ (n : ℕ). drop n (line (plan_lines a.plan) p).events) (sym hit.computed);
            at = clock ∙ sym starts_there;
          };
          size = ap (λ (y : EventQueue). y.room) box ∙ (ap (λ (y : Mind). y.room) is ∙ ours.room);
          waits = ap (λ (y : EventQueue). y.events) box ∙ sym none_yet;
          rises = subst Rises (sym none_yet) tt;
          fresh = hit.fresh;
          over = λ e. let no = hit.was_ended in absurd (cc);
          left = steps ∙ sym (hit.left ∙ ap (λ (q : PlanParts). steps_of q p) (ap (λ (y : Mind). y.view.plan) is ∙ ours.plan));
          early = subst (All (λ e. e.time ≤ hit.hold.clock)) (sym none_yet) (All-nil (λ e. e.time ≤ hit.hold.clock));
        };
        process = refl;
      },
      starts_there,
    )

-- what is said of a process that was started
pub begun_as : (a : About) (t t1 t2 t3 : TableId) (p : ℕ) (m m1 m2 : Holder) (o : Option Deposit) (r : Deposit) (s : Strand) (x : SeatState)
    → IsOurs t a x
    → (hit : HandsUnborn m p m1) → m2 ≡ (m1.0, (p, None) ∷ rest m1.1) → o ≡ Some r → o ≡ Some hit.stock → IsBegun a.plan p s
    → t3 ≡ t2 → t2 ≡ t1 → record { table = t1; mind = m.0 } ≡ x
    → answers.HasBegun a x p (record { process = p; strand = s; outbox = r.outbox }) (record { table = t3; mind = m2.0 })
begun_as a t t1 t2 t3 p m m1 m2 o r s x ours hit now e f begun k2 k1 seen =
    let minds : m.0 ≡ x.mind = ap (λ (y : SeatState). y.mind) seen in
    let logs : m1.0.log ≡ m2.0.log = ap (λ (y : Holder). y.0.log) (sym now) in
    let room : r ≡ hit.stock = same_some r hit.stock (sym e ∙ f) in
    let berth = begun_berth a t p m m1 r s x ours minds hit room begun.process begun.course begun.clock begun.events begun.steps in
    record {
      hold = hit.hold;
      is = record {
        berth = berth.0;
        begun = begun;
        place = begun-place a.plan p s begun;
        live = hit.was_ended;
        none = none_waits a.plan hit.hold hit.computed;
        at = berth.1;
      };
      tells = subst (λ (y : Mind). Tells y p Unborn 0) minds hit.tells;
      sight = λ i. record {
        table = (k2 ∙ (k1 ∙ ap (λ (y : SeatState). y.table) seen)) i;
        mind = (ap (λ (y : Holder). y.0) now ∙ (hit.mind
            ∙ (ap (λ (n : ℕ). turned (spotted m.0 p Out n 0 (holding m.0.view hit.hold) (did m.0 (Start m.0.view.number p) m1.0.log.seen)))
            (sym hit.clock)
            ∙ (λ j. turned (spotted (minds j) p Out hit.hold.clock 0 (holding (minds j).view hit.hold)
            (did (minds j) (Start (minds j).view.number p) (logs j).seen)))))) i;
      };
      extends = subst (λ (y : Mind × Log). Extends y.0.view.number y.0.log y.1) (λ i. (minds i, logs i)) hit.extends;
    }
