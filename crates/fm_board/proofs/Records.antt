-- The stores of a record keep the rule.
use Rattle.std.proofs.Common.{◌≡◌, ◌≢◌, ℕ, ◌<◌, ◌≤◌, List, [], ◌∷◌, ◌++◌, length, get_or, set, true, false, Some, refl, sym, ap, ◌∙◌, subst, inl, inr, arith, eqb-true, ne_eqb, length-set, get_or-set_same, get_or-set_other}
use Rattle.std.specs.Prelude.{nat_eq}
use mathlib.Core.Option.{some, none}
use mathlib.Core.Logic.{dite}
use native.Mathlib.Decide.{ℕ_discrete}
use lib.ListN.{get_elem?}
use Rattle.atomic_table.specs.Table.{Allows, keeps, step}
use Rattle.fm_core.proofs.Booleans.{both, right_false, not_false}
use Rattle.fm_core.proofs.Elements.{or_set}
use Rattle.fm_core.proofs.Keeps as core
use Rattle.fm_core.proofs.May.{may_record}
use Rattle.fm_core.proofs.TagLemmas.{held_ended}
use Rattle.fm_core.specs.Effects.{after}
use Rattle.fm_core.specs.Effects as effects
use Rattle.fm_core.specs.State.{State, cell, held_by, unborn}
use Rattle.fm_core.specs.Steps.{Allowed}
use Rattle.fm_core.specs.Tags.{is_held, is_out}
use Rattle.fm_core.specs.declared.cell.Cell.{Cell}
use Rattle.fm_core.specs.declared.step.Step.TheVariants.{Record}
use Rattle.fm_strand.specs.Course.{end_place}
use Rattle.fm_board.specs.declared.about.About.{About}
use Rattle.fm_board.specs.declared.deposit.Deposit.{Deposit}
use Rattle.fm_board.specs.declared.view.Hold.{Hold}
use Rattle.fm_board.specs.declared.view.Mind.{Mind}
use Rattle.fm_board.specs.Minds.{stepping}
use Rattle.fm_board.specs.Plays.{Holder, records}
use Rattle.fm_board.specs.StandsFor.{AtHome, HoldsIn, IsHoldOf, IsSeat, Shown, Spelt, StandsForSome, Table, Written, count, setting}
use Rattle.fm_board.specs.View.{noted_hold, process_of}
use Rattle.fm_board.specs.Words.{place_at, place_word, spelt, word_at}
use Rattle.fm_board.proofs.Claims.{same_some}
use Rattle.fm_board.proofs.Frames.{halt_beside, halt_stays, Leaves, cell_moves, reseated}
use Rattle.fm_board.proofs.Goings.{alone_still, goes_on, one_same}
use Rattle.fm_board.proofs.Looks.{valid_of}
use Rattle.fm_board.specs.Runs.{Extends}
use Rattle.fm_board.proofs.Runs.{extends_on, runs_on}
use Rattle.fm_board.proofs.Writes.{place_moves, read, written_moves}

-- ---- the last one

module _ (a : About) (s : Table) (k : StandsForSome a s) (p id new : ℕ) (x : Hold) (m : Holder) (at : get_elem? s.views id ≡ some m.0)
    (near : p < count a)
    (holds : m.0.view.holds ≡ Some x) (process : x.process ≡ p) (more : 8 ≤ x.written) (live : x.was_ended ≡ false)
    (right : new ≡ place_word (end_place a.plan p) 8) where
  abbrev h : State
  h = k.core

  abbrev c : Cell
  c = cell k.core p

  abbrev h' : State
  h' = after (setting a) h (Record id p)

  abbrev d : Cell
  d = effects.noted c

  seat : IsSeat a h id m.0
  seat = k.stands.views.viewed id m.0 at

  old : (p < length h.cells) × (held_by id c ≡ true) × IsHoldOf c x
  old =
      let o : HoldsIn h id (Some x) = subst (HoldsIn h id) holds seat.is.holds in
      subst (λ (q : ℕ). (q < length h.cells) × (held_by id (cell h q) ≡ true) × IsHoldOf (cell h q) x) process o

  parts : (is_held c.tag ≡ true) × (nat_eq c.seat id ≡ true)
  parts = both (is_held c.tag) (nat_eq c.seat id) old.1

  out : is_out c.tag ≡ true
  out = not_false (is_out c.tag) (sym (held_ended c.tag parts.0) ∙ (sym old.2.was_ended ∙ live))

  here : get_or (set h.cells p d) p unborn ≡ d
  here = get_or-set_same h.cells p d unborn old.0

  others : (j : ℕ) → j ≢ id → held_by j c ≡ false
  others j n = let seat_is : c.seat ≡ id = eqb-true c.seat id parts.1 in
      right_false (is_held c.tag) (nat_eq c.seat j) (ne_eqb c.seat j (λ e. n (sym e ∙ seat_is)))

  leaves : Leaves h h' id
  leaves = cell_moves h id p d h.floor h.due h.visited h.gather h.released old.0 others others (omega arith) (λ e. e)
      (λ n. record { due = refl; visited = refl; gather = refl; released = refl; floor = refl })

  abbrev y : Hold
  y = record x { recorded = true; written = 9 }

  abbrev w : Mind
  w = stepping m.0 (Record m.0.view.number (process_of m.0.view.holds)) (record m.0.view { holds = Some y })
      (k.history.steps ++ Record id p ∷ [])

  mine : IsSeat a h' id w
  mine = record {
    here = seat.here;
    is = record {
      plan = seat.is.plan;
      lead = seat.is.lead;
      seats = seat.is.seats;
      number = seat.is.number;
      holds = subst (λ (q : ℕ). (q < length h'.cells) × (held_by id (cell h' q) ≡ true) × IsHoldOf (cell h' q) y) (sym process) (
        omega (arith, leaves.cells, old.0),
        ap (held_by id) here ∙ old.1,
        subst (λ (z : Cell). IsHoldOf z y) (sym here)
            (record { computed = old.2.computed; taken = old.2.taken; at = old.2.at; was_ended = old.2.was_ended; recorded = refl }),
      );
      sweep = seat.is.sweep;
      paced = seat.is.paced;
    };
    room = seat.room;
    zero = λ e. let z = seat.zero e in record {
      lines = z.lines;
      due = z.due;
      visited = z.visited;
      gathered = z.gathered;
      released = z.released;
      published = z.published;
    };
    wide = seat.wide;
    known = λ q. let on = leaves.clock q in let known = seat.known q in omega arith;
    over = λ q e. leaves.over q (seat.over q e);
  }

  abbrev ws : List ℕ
  ws = set s.words (place_at p 8) new

  eight : 8 < 9
  eight = omega arith

  moved : Spelt a ws h.cells h.floor
  moved = place_moves a s.words p 8 new eight near k.stands.words.many right h.cells h.floor k.stands.words

  wrote : Written a ws (set s.views id w)
  wrote = written_moves a s.words p 8 new eight near k.stands.words.many right s.views id m.0 w x y at holds process more refl refl refl
      k.stands.wrote

  may : Allowed (setting a) h (Record id p)
  may = may_record (setting a) h id p seat.here old.0 out (eqb-true c.seat id parts.1)

  mine_is : w.log.mine ≡ m.0.log.mine ++ Record id p ∷ []
  mine_is = λ i. m.0.log.mine ++ Record (seat.is.number i) ((ap process_of holds ∙ process) i) ∷ []

  pub recorded_extends : Extends m.0.view.number m.0.log w.log
  recorded_extends = extends_on a s.views h k.history id m.0 w at (Record id p) refl mine_is refl m.0.view.number seat.is.number

  pub recorded_stands : StandsForSome a (record { words = ws; homes = s.homes; views = set s.views id w })
  recorded_stands = record {
    core = h';
    sound = core.keeps (setting a) h (Record id p) (valid_of a) k.sound may;
    history = runs_on a s.views h k.history id m.0 w at (Record id p) may refl mine_is refl;
    stands = record {
      crew = k.stands.crew;
      words = record {
        many = moved.many;
        floor = moved.floor;
        low = moved.low;
        spelt = λ j lt. or_set (λ (z : Cell). get_or ws (word_at j) 0 ≡ spelt z) h.cells p j d unborn old.0
            (λ e. ap (λ (q : ℕ). get_or ws (word_at q) 0) e ∙ moved.spelt p old.0) (λ n. moved.spelt j (rw length-set at lt));
        shown = λ j lt. or_set Shown h.cells p j d unborn old.0
            (λ e. record { idle = (moved.shown p old.0).idle; unborn = (moved.shown p old.0).unborn })
            (λ n. moved.shown j (rw length-set at lt));
        placed = λ j i lt done few. or_set (λ (z : Cell). z.recorded ≡ true
            → get_or ws (place_at j i) 0 ≡ place_word (end_place a.plan j) i) h.cells p j d unborn old.0
            (λ e _. read a s.words p 8 new eight near k.stands.words.many right j i few (dite (ℕ_discrete i 8) (λ last. inr (e, last))
            (λ ne. inl (subst (λ (q : ℕ). get_or s.words (place_at q i) 0 ≡ place_word (end_place a.plan q) i) (process ∙ sym e)
            (k.stands.wrote id m.0 x i at holds (omega (arith, ne, few, more)) few)))))
            (λ n is. moved.placed j i (rw length-set at lt) is few) done;
      };
      homes = record {
        many = k.stands.homes.many;
        home = λ j lt free. or_set (λ (z : Cell). is_held z.tag ≡ false → (r : Deposit) × (get_elem? s.homes j ≡ some (some (Some r)))
            × AtHome a j z r) h.cells p j d unborn old.0
            (λ e no. let yes = parts.0 in absurd (cc)) (λ n is. k.stands.homes.home j (rw length-set at lt) is) free;
      };
      views = reseated a h h' id leaves s.views m.0 w at refl mine k.stands.views;
      wrote = wrote;
      halt = halt_stays a s.words ws s.views id m.0 w at (halt_beside a s.words p 8 new near eight) refl k.stands.halt;
    };
    going = goes_on a s h k.going id m.0 w at ws h' (one_same a h h' p d refl old.0 refl refl refl)
        (λ z e. let is = same_some y z e in
        (x, holds, sym (ap (λ (v : Hold). v.left) is), sym (ap (λ (v : Hold). v.process) is)))
        (k.going.known id m.0 at);
    alone = alone_still a s id m.0 w ws s.homes at k.stands.views.made k.alone refl refl refl
        (λ j lt. get_or-set_other s.words (place_at p 8) (word_at j) new 0 (λ e. absurd (omega (arith, e))));
  }

pub records_of : (a : About) (slots id p new : ℕ) (x : Hold) (m : Holder) → p < count a → m.0.view.holds ≡ Some x → x.process ≡ p
    → 8 ≤ x.written
    → x.was_ended ≡ false → new ≡ place_word (end_place a.plan p) 8
    → Allows (StandsForSome a) slots id m (place_at p 8) (λ _. new) (λ _. records (step slots (place_at p 8) new 0 none) m new)
records_of a slots id p new x m near holds process more live right s k sized at small = (
  stepping m.0 (Record m.0.view.number (process_of m.0.view.holds))
      (record m.0.view { holds = Some (record x { recorded = true; written = 9 }) }) (k.history.steps ++ Record id p ∷ []),
  keeps,
  tt,
  recorded_stands a s k p id new x m at near holds process more live right,
  (
    (λ i. stepping m.0 (Record m.0.view.number (process_of m.0.view.holds))
        (record m.0.view { holds = ap noted_hold (sym holds) i }) (k.history.steps ++ Record id p ∷ [])),
    refl,
    recorded_extends a s k p id new x m at near holds process more live right,
  ),
)
