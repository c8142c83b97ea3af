-- A publish keeps the rule, and so does a release, which changes no word.
use Rattle.std.proofs.Common.{◌≡◌, inr, ℕ, zero, suc, ◌<◌, ◌≤◌, List, [], ◌∷◌, ◌++◌, length, get_or, set, Bool, false, Option, Some, None, refl, sym, ap, ◌∙◌, subst, arith, get_or-set_same, get_or-set_other, replicate}
use mathlib.Core.Option.{some, none}
use lib.ListN.{get_elem?}
use Rattle.atomic_table.specs.Table.{Allows, keeps, step}
use Rattle.fm_line.specs.Piece.{sorted}
use Rattle.fm_line.proofs.Sorting.{length-sorted}
use Rattle.fm_core.proofs.Keeps as core
use Rattle.fm_core.proofs.May.{may_publish, may_release}
use Rattle.fm_core.proofs.Sweeps.{LeastOf, least_is, lowest}
use Rattle.fm_core.specs.Effects.{after}
use Rattle.fm_core.specs.Floors.{floor_of}
use Rattle.fm_core.specs.State.{Desk, State, cell, cell_in, desk, no_desk}
use Rattle.fm_core.specs.Sweep.{least, sight}
use Rattle.fm_core.specs.Taking.{due_of, is_due}
use Rattle.fm_core.specs.declared.cell.Cell.{Cell}
use Rattle.fm_core.specs.declared.due.Due.TheVariants.{Nothing}
use Rattle.fm_core.specs.declared.floor.Floor.{Floor}
use Rattle.fm_core.specs.declared.sight.Sight.{Sight}
use Rattle.fm_core.specs.declared.step.Step.TheVariants.{Publish, Release}
use Rattle.fm_program.specs.Parts.{PlanParts}
use Rattle.fm_board.specs.declared.about.About.{About}
use Rattle.fm_board.specs.declared.view.Mind.{Mind}
use Rattle.fm_board.specs.Minds.{settled, stepping}
use Rattle.fm_board.specs.Plays.{MayRelease, Holder, publishes}
use Rattle.fm_board.specs.StandsFor.{halt_at, IsSeat, IsSightOfZero, Spelt, StandsForSome, Table, setting}
use Rattle.fm_board.specs.View.{processes, published, released}
use Rattle.fm_board.specs.Words.{IsLow, floor_word, word_at}
use Rattle.fm_board.proofs.Frames.{halt_stays, Leaves, desk_moves, floor_moves, no_floor, places_stay, reseated, written_stays}
use Rattle.fm_board.proofs.Goings.{alone_still, goes_on, same_cells}
use Rattle.fm_board.proofs.Later.{later, reviewed}
use Rattle.fm_board.proofs.Looks.{lined, low, valid_of}
use Rattle.fm_board.proofs.Runs.{extends_on, runs_on, runs_owed}
use Rattle.fm_board.proofs.Spellings.{bounds_low}
use Rattle.fm_board.proofs.Views as views
use Rattle.fm_line.specs.declared.limits.TheConstants.{LAST_TICK}

module _ (a : About) (s : Table) (k : StandsForSome a s) (m : Mind) (at : get_elem? s.views 0 ≡ some m) where
  abbrev h : State
  h = k.core

  seat : IsSeat a h 0 m
  seat = k.stands.views.viewed 0 m at

  sights : IsSightOfZero (setting a) h m.view
  sights = seat.zero refl

  many : length h.cells ≡ processes m.view
  many = lined a s k ∙ ap (λ (q : PlanParts). length q.programs) (sym seat.is.plan)

  -- ---- publish

  abbrev d : Desk
  d = record (desk h 0) { sweep = [] }

  clocks_low : (j : ℕ) → (cell h j).clock ≤ LAST_TICK
  clocks_low j = all_low h.cells j (low a s k)
    where
      all_low : (cs : List Cell) (j : ℕ) → ((p : ℕ) → p < length cs → (cell_in cs p).clock ≤ LAST_TICK) → (cell_in cs j).clock ≤ LAST_TICK
      all_low [] j each = omega arith
      all_low (x ∷ xs) zero each = each 0 (omega arith)
      all_low (x ∷ xs) (suc j) each = all_low xs j (λ p lt. each (suc p) (omega arith))

  least_low : (o : Option (ℕ × ℕ)) → LeastOf 0 (desk h 0).sweep o → IsLow (floor_of o)
  least_low None is = tt
  least_low (Some x) is =
      let low_at = lowest (desk h 0).sweep x is in
      let clock : (sight (desk h 0).sweep x.1).clock ≡ x.0 = low_at.clock in
      let seen = k.sound.seen 0 x.1 seat.here low_at.below in
      let top = bounds_low (suc (length h.cells)) (setting a) h.cells clocks_low x.1 in omega (arith, clock, seen, top)

  abbrev w : Mind
  w = stepping m Publish (published m.view (floor_of (least m.view.sweep)) (due_of (least m.view.sweep)))
      (k.history.steps ++ Publish ∷ [])

  pub publish_stands : length m.view.sweep ≡ processes m.view → m.view.due ≡ Nothing
      → StandsForSome a (record {
        words = set s.words 0 (floor_word (floor_of (least m.view.sweep)));
        homes = s.homes;
        views = set s.views 0 w;
      })
  publish_stands swept settled_before =
      let h' : State = after (setting a) h Publish in
      let allowed = may_publish (setting a) h (sym (ap (λ (xs : List Sight). length xs) seat.is.sweep) ∙ (swept ∙ sym many))
      (ap is_due (sym sights.due ∙ settled_before)) in
      let l : Leaves h h' 0 = desk_moves h 0 d (floor_of (least (desk h 0).sweep)) (due_of (least (desk h 0).sweep))
      (replicate (length h.cells) false) h.gather h.released
      (λ n. absurd (n refl)) in
      let here : get_or (set h.desks 0 d) 0 no_desk ≡ d = get_or-set_same h.desks 0 d no_desk seat.here in
      let mine : IsSeat a h' 0 w = record {
        here = omega (arith, l.desks, seat.here);
        is = record {
          plan = seat.is.plan;
          lead = seat.is.lead;
          seats = seat.is.seats;
          number = seat.is.number;
          holds = seat.is.holds;
          sweep = sym (ap (λ (x : Desk). x.sweep) here);
          paced = seat.is.paced ∙ sym (ap (λ (x : Desk). x.paced) here);
        };
        room = seat.room;
        zero = λ e. views.publishes a h m.view seat.is sights many;
        wide = seat.wide;
        known = seat.known;
        over = seat.over;
      } in
      let same : floor_of (least (desk h 0).sweep) ≡ floor_of (least m.view.sweep) =
      ap (λ (xs : List Sight). floor_of (least xs)) (sym seat.is.sweep) in
      record {
        core = h';
        sound = core.keeps (setting a) h Publish (valid_of a) k.sound allowed;
        history = runs_on a s.views h k.history 0 m w at Publish allowed refl refl refl;
        stands = record {
          crew = l.desks ∙ k.stands.crew;
          words = subst (λ (f : Floor). Spelt a (set s.words 0 (floor_word f)) h.cells (floor_of (least (desk h 0).sweep))) same
              (floor_moves a s.words h.cells h.floor k.stands.words (floor_of (least (desk h 0).sweep))
              (least_low (least (desk h 0).sweep) (least_is 0 (desk h 0).sweep)));
          homes = k.stands.homes;
          views = reseated a h h' 0 l s.views m w at refl mine k.stands.views;
          wrote = written_stays a s.words (set s.words 0 (floor_word (floor_of (least m.view.sweep)))) s.views 0 m w at
              (places_stay s.words 0 (floor_word (floor_of (least m.view.sweep))) no_floor) (λ x e. inr e) k.stands.wrote;
          halt = halt_stays a s.words (set s.words 0 (floor_word (floor_of (least m.view.sweep)))) s.views 0 m w at
              (get_or-set_other s.words 0 (halt_at a) (floor_word (floor_of (least m.view.sweep))) 0 (λ e. absurd (omega arith))) refl
              k.stands.halt;
        };
        going = goes_on a s h k.going 0 m w at (set s.words 0 (floor_word (floor_of (least m.view.sweep)))) h' (same_cells a h h' refl)
            (λ x e. (x, e, refl, refl)) (k.going.known 0 m at);
        alone = alone_still a s 0 m w (set s.words 0 (floor_word (floor_of (least m.view.sweep)))) s.homes at k.stands.views.made
            k.alone refl refl refl
            (λ j lt. get_or-set_other s.words 0 (word_at j) (floor_word (floor_of (least m.view.sweep))) 0 (λ e. absurd (omega arith)));
      }

  -- ---- release

  pub release_stands : MayRelease m.view → StandsForSome a (reviewed (StandsForSome a) s 0 (settled m))
  release_stands may =
      let h' : State = after (setting a) h (Release (length h.gather)) in
      let allowed = may_release (setting a) h (length h.gather) (ap is_due (sym sights.due) ∙ may.due)
      (λ p lt. ap (λ (us : List Bool). get_or us p false) (sym sights.visited) ∙ may.visited p (omega (arith, many, lt))) refl in
      let l : Leaves h h' 0 = record {
        desks = refl;
        cells = refl;
        desk = λ j n. refl;
        held = λ j p n. refl;
        hold = λ j p n e. refl;
        clock = λ p. omega arith;
        over = λ p e. e;
        zero = λ n. absurd (n refl);
      } in
      let long : length (sorted h.gather) ≡ length m.view.gathered = length-sorted h.gather ∙ ap length (sym sights.gathered) in
      let mine : IsSeat a h' 0 (settled m) = record {
        here = seat.here;
        is = record {
          plan = seat.is.plan;
          lead = seat.is.lead;
          seats = seat.is.seats;
          number = seat.is.number;
          holds = seat.is.holds;
          sweep = seat.is.sweep;
          paced = seat.is.paced;
        };
        room = seat.room;
        zero = λ e. subst (λ (n : ℕ). IsSightOfZero (setting a) h' (released m.view n)) long
            (views.releases_zero a h m.view seat.is sights);
        wide = seat.wide;
        known = seat.known;
        over = seat.over;
      } in
      record {
        core = h';
        sound = core.keeps (setting a) h (Release (length h.gather)) (valid_of a) k.sound allowed;
        history = runs_owed a s.views h k.history 0 m (settled m) at (length h.gather) allowed refl
            (ap (λ (n : ℕ). m.log.mine ++ Release n ∷ []) (ap length sights.gathered)) refl;
        stands = record {
          crew = k.stands.crew;
          words = k.stands.words;
          homes = k.stands.homes;
          views = reseated a h h' 0 l s.views m (settled m) at refl mine k.stands.views;
          wrote = written_stays a s.words s.words s.views 0 m (settled m) at (λ p i few. refl) (λ x e. inr e) k.stands.wrote;
          halt = halt_stays a s.words s.words s.views 0 m (settled m) at refl refl k.stands.halt;
        };
        going = goes_on a s h k.going 0 m (settled m) at s.words h' (same_cells a h h' refl) (λ x e. (x, e, refl, refl))
            (k.going.known 0 m at);
        alone = alone_still a s 0 m (settled m) s.words s.homes at k.stands.views.made k.alone refl refl refl (λ j lt. refl);
      }

-- a publish is the core's publish
pub publishes_of : (a : About) (slots id new : ℕ) (m : Holder) → m.0.view.number ≡ 0 → length m.0.view.sweep ≡ processes m.0.view
    → m.0.view.due ≡ Nothing → new ≡ floor_word (floor_of (least m.0.view.sweep))
    → Allows (StandsForSome a) slots id m 0 (λ _. new) (λ _. publishes (step slots 0 new 0 none) m new)
publishes_of a slots id new m number swept due is_new s k sized at small =
    let seat = k.stands.views.viewed id m.0 at in
    let zero_is : 0 ≡ id = sym number ∙ seat.is.number in
    let at_0 : get_elem? s.views 0 ≡ some m.0 = subst (λ (n : ℕ). get_elem? s.views n ≡ some m.0) (sym zero_is) at in
    let f : Floor = floor_of (least m.0.view.sweep) in
    let w : Mind = stepping m.0 Publish (published m.0.view f (due_of (least m.0.view.sweep))) (k.history.steps ++ Publish ∷ []) in (
      w,
      keeps,
      tt,
      subst (λ (y : ℕ × ℕ). StandsForSome a (record { words = set s.words 0 y.1; homes = s.homes; views = set s.views y.0 w }))
          (λ i. (zero_is i, sym is_new i))
          (publish_stands a s k m.0 at_0 swept due),
      record {
        mind = refl;
        extends = extends_on a s.views k.core k.history 0 m.0 w at_0 Publish refl refl refl m.0.view.number number;
        out = refl;
      },
    )

-- the rule survives a release
pub settles : (a : About) (s : Table) (id : ℕ) (m : Mind) → MayRelease m.view → StandsForSome a s → get_elem? s.views id ≡ some m
    → StandsForSome a (reviewed (StandsForSome a) s id (settled m))
settles a s id m may k at =
    let seat = k.stands.views.viewed id m at in
    let zero_is : 0 ≡ id = sym may.conductor ∙ seat.is.number in
    let at_0 : get_elem? s.views 0 ≡ some m = subst (λ (n : ℕ). get_elem? s.views n ≡ some m) (sym zero_is) at in
    subst (λ (n : ℕ). StandsForSome a (reviewed (StandsForSome a) s n (settled m))) zero_is (release_stands a s k m at_0 may)

-- a step of a seat that owes a release is the release and the step
pub owing : (a : About) (slots id i : ℕ) (m : Holder) (f : ℕ → ℕ) (then : ℕ → Holder → Type 0) → MayRelease m.0.view
    → Allows (StandsForSome a) slots id (settled m.0, m.1) i f then → Allows (StandsForSome a) slots id m i f then
owing a slots id i m f then may next =
    later (StandsForSome a) slots id i m.0 (settled m.0) m.1 f then (λ s k at. settles a s id m.0 may k at) next
