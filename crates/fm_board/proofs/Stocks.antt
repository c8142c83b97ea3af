-- The slots and the seats of a new board.
use Rattle.std.proofs.Common.{◌≡◌, ℕ, zero, suc, ◌+◌, ◌-◌, ◌<◌, List, [], ◌∷◌, ◌++◌, length, map, get_or, replicate, Option, Some, None, refl, sym, ap, ◌∙◌, subst, arith, length-append}
use Rattle.std.proofs.lemmas.List.{get_or_append_left}
use native.Mathlib.Decide.{ℕ_discrete}
use mathlib.Core.Logic.{dite}
use Rattle.atomic_table.specs.Seated.{TableId}
use Rattle.fm_msg.specs.Event.{TimedMessage}
use Rattle.fm_line.specs.Line.{greatest, line, start}
use Rattle.fm_buffer.specs.Outbox.{EventQueue}
use Rattle.fm_core.specs.Taking.{outbox}
use Rattle.fm_program.specs.Fit.{PartsFit}
use Rattle.fm_program.specs.Parts.{PlanParts}
use Rattle.fm_strand.proofs.ValidLemmas.{lines-valid}
use Rattle.fm_strand.specs.declared.strand.Strand.{Strand}
use Rattle.fm_strand.specs.Strand.{InCourse, clock_of, rest, steps_left}
use Rattle.fm_strand.specs.Course.{steps_of}
use Rattle.fm_board.proofs.Goings.{same_stock}
use Rattle.fm_board.specs.Seats.{AreOthers, AreRooms, IsFirst, SeatState}
use Rattle.atomic_table.proofs.Lists.{at_last, at_longer}
use Rattle.fm_core.proofs.Elements.{same_all, take_none}
use Rattle.fm_core.specs.State.{cell_in, root, unborn}
use Rattle.fm_core.specs.Tags.{is_ended, is_unborn}
use Rattle.fm_core.specs.declared.cell.Cell.{Cell}
use Rattle.fm_program.specs.Process.{plan_lines}
use Rattle.fm_board.specs.declared.about.About.{About}
use Rattle.fm_board.specs.declared.deposit.Deposit.{Deposit}
use Rattle.fm_board.specs.Minds.{fresh}
use Rattle.fm_board.specs.StandsFor.{StrandAt, count}
use Rattle.fm_board.proofs.Frames.{at_below}
use Rattle.fm_board.proofs.Openings.{IsStocked, at_opening}

-- a strand of the first process at its start, which stands at tick 0
pub first_given : (p : PlanParts) (s : Strand) → PartsFit p → s.process ≡ 0 → InCourse p s → clock_of p s ≡ start (plan_lines p) 0
    → rest p s ≡ (line (plan_lines p) 0).events → steps_left p s ≡ steps_of p 0 → IsFirst p 0 (Some s)
first_given p s fits process course clock whole steps =
    let none_before : start (plan_lines p) 0 ≡ 0 =
    ap (λ (xs : List ℕ). greatest (map (λ q. (line (plan_lines p) q).end) xs)) (lines-valid p fits).root in (
      refl,
      record { strand = record { course = course; process = process }; given = whole; at = clock ∙ none_before },
      steps,
    )

first_at : (a : About) (j : ℕ) (o : Option Strand) → IsFirst a.plan j o → StrandAt a j (cell_in (root ∷ replicate (count a - 1) unborn) j) o
first_at a zero None is = absurd (omega arith)
first_at a zero (Some s) is = (is.1, (λ e. absurd (cc)), refl)
first_at a (suc j) None is = ap (λ (c : Cell). is_unborn c.tag) (same_all (count a - 1) j unborn)
first_at a (suc j) (Some s) is = let no = is.0 in absurd (omega arith)

-- the slots of a new board are stocked
pub stocked : (a : About) (rooms : List (Option Deposit)) → AreRooms a (count a) rooms → IsStocked a rooms
stocked a rooms are = record {
  many = are.many;
  each = λ j lt. let one = are.each j lt in (
    one.0,
    one.1,
    record {
      strand = first_at a j one.0.strand one.2;
      box = one.3 ∙ ap (λ (xs : List TimedMessage). record { room = a.room; events = xs })
          (at_opening (λ p c. ◌≡◌ {A = List TimedMessage} [] (outbox (line (plan_lines a.plan) p) c)) (count a)
          (sym (take_none (line (plan_lines a.plan) 0).events))
          (λ q. sym (take_none (line (plan_lines a.plan) (suc q)).events)) j);
      recorded = at_opening (λ p c. c.recorded ≡ is_ended c.tag) (count a) refl (λ q. refl) j;
    },
  );
  first = λ j stock x there is.
      let below = at_below rooms j (Some stock) there in
      let one = are.each j (let n = are.many in omega (arith, below, n)) in
      let same : one.0 ≡ stock = same_stock one.0 stock (sym one.1 ∙ there) in
      let begins = subst (λ (o : Option Strand). IsFirst a.plan j o) (ap (λ (r : Deposit). r.strand) same ∙ is) one.2 in (begins.0, begins.2);
}

pub snoc_rooms : (a : About) (n : ℕ) (rooms : List (Option Deposit)) (s : Option Strand) (box : EventQueue) → AreRooms a n rooms
    → IsFirst a.plan n s
    → box ≡ record { room = a.room; events = [] } → AreRooms a (n + 1) (rooms ++ Some (record { strand = s; outbox = box }) ∷ [])
snoc_rooms a n rooms s box are is empty =
    let new : Option Deposit = Some (record { strand = s; outbox = box }) in
    record {
      many = length-append rooms (new ∷ []) ∙ ap (λ (k : ℕ). k + 1) are.many;
      each = λ j lt. dite (ℕ_discrete j n)
          (λ e. (
            record { strand = s; outbox = box },
            at_last rooms new j (are.many ∙ sym e),
            subst (λ (k : ℕ). IsFirst a.plan k s) (sym e) is,
            empty,
          ))
          (λ n. let one = are.each j (omega arith) in (one.0, at_longer rooms (new ∷ []) j (Some one.0) one.1, one.2, one.3));
    }

pub snoc_seats : (t : TableId) (a : About) (n : ℕ) (seats : List SeatState) (x : SeatState) → AreOthers t a n seats
    → x ≡ record { table = t; mind = fresh a.plan a.room a.lead a.seats n 0 }
    → AreOthers t a (n + 1) (seats ++ x ∷ [])
snoc_seats t a n seats x are is =
    let long = length-append seats (x ∷ []) in
    record {
      many = omega (arith, long, are.many);
      each = λ k d lt. dite (ℕ_discrete k (length seats))
          (λ e. ap (λ (j : ℕ). get_or (seats ++ x ∷ []) j d) e
          ∙ (get_or_append_last seats x d ∙ (is ∙ ap (λ (j : ℕ). record { table = t; mind = fresh a.plan a.room a.lead a.seats j 0 })
          (let many = are.many in omega arith))))
          (λ n. let less : k < length seats = omega arith in get_or_append_left seats (x ∷ []) d k less ∙ are.each k d less);
    }
  where
    get_or_append_last : (xs : List SeatState) (x d : SeatState) → get_or (xs ++ x ∷ []) (length xs) d ≡ x
    get_or_append_last [] x d = refl
    get_or_append_last (y ∷ ys) x d = get_or_append_last ys x d
