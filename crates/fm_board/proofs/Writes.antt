-- The stores of the first eight words of a place change nothing of the core.
use Rattle.std.proofs.Common.{◌≡◌, ◌≢◌, ◌⊎◌, ℕ, ◌+◌, ◌*◌, ◌<◌, ◌≤◌, List, length, get_or, set, Some, refl, sym, ap, ◌∙◌, subst, ⊎_elim, inl, inr, arith, length-set, get_or-set_same, get_or-set_other}
use mathlib.Core.Option.{some, none}
use mathlib.Core.Logic.{dite}
use native.Mathlib.Decide.{ℕ_discrete}
use lib.ListN.{get_elem?}
use Rattle.atomic_table.specs.Table.{Allows, keeps, step}
use Rattle.atomic_table.proofs.Lists.{at_set}
use Rattle.fm_core.specs.State.{State}
use Rattle.fm_core.specs.declared.cell.Cell.{Cell}
use Rattle.fm_core.specs.declared.floor.Floor.{Floor}
use Rattle.fm_strand.specs.Course.{end_place}
use Rattle.fm_board.specs.declared.about.About.{About}
use Rattle.fm_board.specs.declared.view.Hold.{Hold}
use Rattle.fm_board.specs.declared.view.Mind.{Mind}
use Rattle.fm_board.specs.Minds.{viewing}
use Rattle.fm_board.specs.Plays.{Holder, writes}
use Rattle.fm_board.specs.StandsFor.{HoldsIn, IsSeat, Spelt, StandsForSome, Written, count}
use Rattle.fm_board.specs.Words.{place_at, place_word, word_at}
use Rattle.fm_board.proofs.Claims.{same_some}
use Rattle.fm_board.proofs.Frames.{halt_beside, halt_stays, Leaves, reseated}
use Rattle.fm_board.proofs.Goings.{alone_still, goes_on, same_cells}
use Rattle.fm_board.proofs.Runs.{runs_still}

-- ---- words

module _ (a : About) (ws : List ℕ) (p i n : ℕ) (few : i < 9) (near : p < count a) (many : length ws ≡ 2 + 10 * count a)
    (right : n ≡ place_word (end_place a.plan p) i) where
  -- a place word is right if it was, or if it is the one that was stored
  pub read : (q k : ℕ) → k < 9 → (get_or ws (place_at q k) 0 ≡ place_word (end_place a.plan q) k) ⊎ ((q ≡ p) × (k ≡ i))
      → get_or (set ws (place_at p i) n) (place_at q k) 0 ≡ place_word (end_place a.plan q) k
  read q k small known = dite (ℕ_discrete (place_at q k) (place_at p i))
      (λ e. let same : q ≡ p = omega arith in let word : k ≡ i = omega arith in
      ap (λ (j : ℕ). get_or (set ws (place_at p i) n) j 0) e ∙ (get_or-set_same ws (place_at p i) n 0 (omega (arith, many, near, few))
      ∙ (right ∙ (λ j. place_word (end_place a.plan (sym same j)) (sym word j)))))
      (λ ne. ⊎_elim (λ old. get_or-set_other ws (place_at p i) (place_at q k) n 0 ne ∙ old)
      (λ (y : (q ≡ p) × (k ≡ i)). absurd (ne (λ j. place_at (y.0 j) (y.1 j)))) known)

  -- the words after it
  pub place_moves : (cs : List Cell) (f : Floor) → Spelt a ws cs f → Spelt a (set ws (place_at p i) n) cs f
  place_moves cs f q = record {
    many = length-set ws (place_at p i) n ∙ q.many;
    floor = get_or-set_other ws (place_at p i) 0 n 0 (λ e. absurd (omega arith)) ∙ q.floor;
    low = q.low;
    spelt = λ j lt. get_or-set_other ws (place_at p i) (word_at j) n 0 (λ e. absurd (omega (arith, e, few))) ∙ q.spelt j lt;
    shown = q.shown;
    placed = λ j k lt done small. read j k small (inl (q.placed j k lt done small));
  }

  -- what seats wrote, where this one wrote one word more
  pub written_moves : (views : List Mind) (id : ℕ) (m w : Mind) (x y : Hold) → get_elem? views id ≡ some m → m.view.holds ≡ Some x
      → x.process ≡ p
      → i ≤ x.written → w.view.holds ≡ Some y → y.process ≡ x.process → y.written ≡ i + 1 → Written a ws views
      → Written a (set ws (place_at p i) n) (set views id w)
  written_moves views id m w x y at has process more holds same long q k u z j e is less small =
      read z.process j small (⊎_elim
      (λ (e : (k ≡ id) × (w ≡ u)).
      let it : y ≡ z = same_some y z (sym holds ∙ (ap (λ (v : Mind). v.view.holds) e.1 ∙ is)) in
      let processes : z.process ≡ x.process = sym (ap (λ (h : Hold). h.process) it) ∙ same in
      let count_is : z.written ≡ i + 1 = sym (ap (λ (h : Hold). h.written) it) ∙ long in
      dite (ℕ_discrete j i) (λ last. inr (processes ∙ process, last))
      (λ ne. inl (subst (λ (r : ℕ). get_or ws (place_at r j) 0 ≡ place_word (end_place a.plan r) j) (sym processes)
      (q id m x j at has (omega (arith, ne, less, count_is, more)) small))))
      (λ (e : (k ≢ id) × (get_elem? views k ≡ some u)). inl (q k u z j e.1 is less small))
      (at_set views id k w u e))

-- ---- the first eight

pub writes_of : (a : About) (slots id p i new : ℕ) (x : Hold) (m : Holder) → p < count a → i < 8 → m.0.view.holds ≡ Some x → x.process ≡ p
    → i ≤ x.written
    → new ≡ place_word (end_place a.plan p) i
    → Allows (StandsForSome a) slots id m (place_at p i) (λ _. new) (λ _. writes (step slots (place_at p i) new 0 none) m new)
writes_of a slots id p i new x m near small_i holds process more right s k sized at small =
    let h : State = k.core in
    let seat = k.stands.views.viewed id m.0 at in
    let y : Hold = record x { written = i + 1 } in
    let w : Mind = viewing m.0 (record m.0.view { holds = Some y }) in
    let few : i < 9 = omega arith in
    let old : HoldsIn h id (Some x) = subst (HoldsIn h id) holds seat.is.holds in
    let l : Leaves h h id = record {
      desks = refl;
      cells = refl;
      desk = λ j n. refl;
      held = λ j q n. refl;
      hold = λ j q n e. refl;
      clock = λ q. omega arith;
      over = λ q e. e;
      zero = λ n. record { due = refl; visited = refl; gather = refl; released = refl; floor = refl };
    } in
    let mine : IsSeat a h id w = record {
      here = seat.here;
      is = record {
        plan = seat.is.plan;
        lead = seat.is.lead;
        seats = seat.is.seats;
        number = seat.is.number;
        holds = (
          old.0,
          old.1,
          record {
            computed = old.2.computed;
            taken = old.2.taken;
            at = old.2.at;
            was_ended = old.2.was_ended;
            recorded = old.2.recorded;
          },
        );
        sweep = seat.is.sweep;
        paced = seat.is.paced;
      };
      room = seat.room;
      zero = λ e. let z = seat.zero e in record {
        lines = z.lines;
        due = z.due;
        visited = z.visited;
        gathered = z.gathered;
        released = z.released;
        published = z.published;
      };
      wide = seat.wide;
      known = seat.known;
      over = seat.over;
    } in (
      w,
      keeps,
      tt,
      record {
        core = h;
        sound = k.sound;
        stands = record {
          crew = k.stands.crew;
          words = place_moves a s.words p i new few near k.stands.words.many right h.cells h.floor k.stands.words;
          homes = k.stands.homes;
          views = reseated a h h id l s.views m.0 w at refl mine k.stands.views;
          wrote = written_moves a s.words p i new few near k.stands.words.many right s.views id m.0 w x y at holds process more refl refl
              refl k.stands.wrote;
          halt = halt_stays a s.words (set s.words (place_at p i) new) s.views id m.0 w at
              (halt_beside a s.words p i new near few) refl k.stands.halt;
        };
        history = runs_still a s.views h k.history id m.0 w at refl;
        going = goes_on a s h k.going id m.0 w at (set s.words (place_at p i) new) h (same_cells a h h refl)
            (λ z e. let is = same_some y z e in
            (x, holds, sym (ap (λ (v : Hold). v.left) is), sym (ap (λ (v : Hold). v.process) is)))
            (k.going.known id m.0 at);
        alone = alone_still a s id m.0 w (set s.words (place_at p i) new) s.homes at k.stands.views.made k.alone refl refl refl
            (λ j lt. get_or-set_other s.words (place_at p i) (word_at j) new 0 (λ e. absurd (omega (arith, e, few))));
      },
      λ q j z e lt has is. let same : i ≡ j = omega (arith, e, few, lt) in let held = same_some x z (sym holds ∙ has) in
          (λ r. viewing m.0 (record m.0.view { holds = Some (record (held r) { written = same r + 1 }) }), refl),
    )
