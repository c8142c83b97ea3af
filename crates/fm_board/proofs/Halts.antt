-- Halting and heeding change nothing of the core.
use Rattle.std.proofs.Common.{◌≡◌, ◌≢◌, ℕ, List, length, get_or, set, true, refl, sym, ap, ◌∙◌, subst, ⊎_elim, inr, arith, length-set, get_or-set_same, get_or-set_other}
use Rattle.std.specs.Prelude.{nat_eq}
use mathlib.Core.Option.{some, none}
use lib.ListN.{get_elem?}
use Rattle.atomic_table.specs.Table.{Allows, keeps, step}
use Rattle.atomic_table.proofs.Lists.{at_set}
use Rattle.fm_core.specs.State.{State}
use Rattle.fm_board.specs.declared.about.About.{About}
use Rattle.fm_board.specs.declared.view.Mind.{Mind}
use Rattle.fm_board.specs.Minds.{viewing}
use Rattle.fm_board.specs.Plays.{Holder, halts, heeds}
use Rattle.fm_board.specs.StandsFor.{IsSeat, StandsForSome, count, halt_at}
use Rattle.fm_board.specs.Words.{place_at, word_at}
use Rattle.fm_board.proofs.Frames.{Leaves, places_stay, reseated, written_stays}
use Rattle.std.proofs.lemmas.List.{set-get_or}
use Rattle.fm_board.proofs.Goings.{alone_still, goes_on, same_cells}
use Rattle.fm_board.proofs.Looks.{lined, looks_on}
use Rattle.fm_board.proofs.Runs.{runs_still}

pub same_core : (h : State) (id : ℕ) → Leaves h h id
same_core h id = record {
  desks = refl;
  cells = refl;
  desk = λ j n. refl;
  held = λ j q n. refl;
  hold = λ j q n e. refl;
  clock = λ q. omega arith;
  over = λ q e. e;
  zero = λ n. record { due = refl; visited = refl; gather = refl; released = refl; floor = refl };
}

pub heeds_of : (a : About) (slots id : ℕ) (m : Holder)
    → Allows (StandsForSome a) slots id m (halt_at a) (λ n. n) (heeds (step slots (halt_at a) 0 0 none) m)
heeds_of a slots id m s k sized at small =
    let h : State = k.core in
    let seat = k.stands.views.viewed id m.0 at in
    let w : Mind = viewing m.0 (record m.0.view { heeded = nat_eq (get_or s.words (halt_at a) 0) 1 }) in
    let mine : IsSeat a h id w = record {
      here = seat.here;
      is = record {
        plan = seat.is.plan;
        lead = seat.is.lead;
        seats = seat.is.seats;
        number = seat.is.number;
        holds = seat.is.holds;
        sweep = seat.is.sweep;
        paced = seat.is.paced;
      };
      room = seat.room;
      zero = λ e. let z = seat.zero e in record {
        lines = z.lines;
        due = z.due;
        visited = z.visited;
        gathered = z.gathered;
        released = z.released;
        published = z.published;
      };
      wide = seat.wide;
      known = seat.known;
      over = seat.over;
    } in (
      w,
      keeps,
      tt,
      record {
        core = h;
        sound = k.sound;
        stands = looks_on a s k (halt_at a) id m.0 w m.1 h at refl refl refl
            (same_core h id) refl refl mine;
        history = runs_still a s.views h k.history id m.0 w at refl;
        going = goes_on a s h k.going id m.0 w at (set s.words (halt_at a) (get_or s.words (halt_at a) 0)) h (same_cells a h h refl)
            (λ x e. (x, e, refl, refl)) (k.going.known id m.0 at);
        alone = alone_still a s id m.0 w (set s.words (halt_at a) (get_or s.words (halt_at a) 0)) s.homes at k.stands.views.made k.alone
            refl refl refl (λ j lt. ap (λ (ws : List ℕ). get_or ws (word_at j) 0) (set-get_or s.words (halt_at a) 0));
      },
      (λ halt_word. (refl, refl)),
    )

pub halts_of : (a : About) (slots id : ℕ) (m : Holder) → m.0.view.number ≡ 0
    → Allows (StandsForSome a) slots id m (halt_at a) (λ _. 1) (λ _. halts (step slots (halt_at a) 1 0 none) m 1)
halts_of a slots id m number s k sized at small =
    let h : State = k.core in
    let seat = k.stands.views.viewed id m.0 at in
    let zero_is : id ≡ 0 = sym seat.is.number ∙ number in
    let w : Mind = viewing m.0 (record m.0.view { halted = true }) in
    let mine : IsSeat a h id w = record {
      here = seat.here;
      is = record {
        plan = seat.is.plan;
        lead = seat.is.lead;
        seats = seat.is.seats;
        number = seat.is.number;
        holds = seat.is.holds;
        sweep = seat.is.sweep;
        paced = seat.is.paced;
      };
      room = seat.room;
      zero = λ e. let z = seat.zero e in record {
        lines = z.lines;
        due = z.due;
        visited = z.visited;
        gathered = z.gathered;
        released = z.released;
        published = z.published;
      };
      wide = seat.wide;
      known = seat.known;
      over = seat.over;
    } in
    let q = k.stands.words in
    let cells : length h.cells ≡ count a = lined a s k in
    let ws : List ℕ = set s.words (halt_at a) 1 in (
      w,
      keeps,
      tt,
      record {
        core = h;
        sound = k.sound;
        stands = record {
          crew = k.stands.crew;
          words = record {
            many = length-set s.words (halt_at a) 1 ∙ q.many;
            floor = get_or-set_other s.words (halt_at a) 0 1 0 (λ e. absurd (omega (arith, e))) ∙ q.floor;
            low = q.low;
            spelt = λ j lt. get_or-set_other s.words (halt_at a) (word_at j) 1 0 (λ e. absurd (omega (arith, e, lt, cells))) ∙ q.spelt j lt;
            shown = q.shown;
            placed = λ j i lt done few. get_or-set_other s.words (halt_at a) (place_at j i) 1 0
                (λ e. absurd (omega (arith, e, lt, cells, few))) ∙ q.placed j i lt done few;
          };
          homes = k.stands.homes;
          views = reseated a h h id (same_core h id) s.views m.0 w at refl mine k.stands.views;
          wrote = written_stays a s.words ws s.views id m.0 w at
              (places_stay s.words (halt_at a) 1 (λ p i few e. absurd (omega (arith, e, few)))) (λ x e. inr e) k.stands.wrote;
          halt = λ u e. ap (λ (n : ℕ). nat_eq n 1)
              (get_or-set_same s.words (halt_at a) 1 0 (let many = q.many in omega (arith, many))) ∙ ⊎_elim
              (λ (y : (0 ≡ id) × (w ≡ u)). ap (λ (z : Mind). z.view.halted) y.1)
              (λ (y : (0 ≢ id) × (get_elem? s.views 0 ≡ some u)). absurd (y.0 (sym zero_is))) (at_set s.views id 0 w u e);
        };
        history = runs_still a s.views h k.history id m.0 w at refl;
        going = goes_on a s h k.going id m.0 w at ws h (same_cells a h h refl) (λ x e. (x, e, refl, refl)) (k.going.known id m.0 at);
        alone = alone_still a s id m.0 w ws s.homes at k.stands.views.made k.alone refl refl refl
            (λ j lt. get_or-set_other s.words (halt_at a) (word_at j) 1 0 (λ e. absurd (omega (arith, e, lt))));
      },
      (refl, refl),
    )

pub heeds_at : (key a : About) (slots id i : ℕ) (m : Holder) → key ≡ a → i ≡ halt_at a
    → Allows (StandsForSome key) slots id m i (λ n. n) (heeds (step slots i 0 0 none) m)
heeds_at key a slots id i m same at =
    subst (λ (j : ℕ). Allows (StandsForSome key) slots id m j (λ n. n) (heeds (step slots j 0 0 none) m)) (ap halt_at same ∙ sym at)
    (heeds_of key slots id m)

pub halts_at : (key a : About) (slots id i : ℕ) (m : Holder) → key ≡ a → i ≡ halt_at a → m.0.view.number ≡ 0
    → Allows (StandsForSome key) slots id m i (λ _. 1) (λ _. halts (step slots i 1 0 none) m 1)
halts_at key a slots id i m same at number =
    subst (λ (j : ℕ). Allows (StandsForSome key) slots id m j (λ _. 1) (λ _. halts (step slots j 1 0 none) m 1)) (ap halt_at same ∙ sym at)
    (halts_of key slots id m number)
