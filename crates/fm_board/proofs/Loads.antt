-- The loads of a process's word and of the floor are the core's look and pace.
use Rattle.std.proofs.Common.{◌≡◌, ◌≢◌, ◌⊎◌, ℕ, ◌+◌, ◌<◌, List, [], ◌∷◌, ◌++◌, length, get_or, set, true, refl, sym, ap, ◌∙◌, subst, inl, inr, arith, eq-eqb, ne_eqb}
use Rattle.std.specs.Prelude.{◌&&◌, ◌||◌, nat_eq, if◌then◌else◌, slice_set}
use mathlib.Core.Option.{none}
use Rattle.std.proofs.lemmas.List.{set-get_or}
use Rattle.atomic_table.specs.Table.{Allows, keeps, step}
use Rattle.fm_core.proofs.Booleans.{or_left, or_right}
use Rattle.fm_core.proofs.Keeps as core
use Rattle.fm_core.proofs.May.{may_look, may_pace}
use Rattle.fm_core.specs.Effects.{after, visits_by_look}
use Rattle.fm_core.specs.State.{Desk, State, cell, desk}
use Rattle.fm_core.specs.Sweep.{sighted, swept}
use Rattle.fm_core.specs.Tags.{has_nothing}
use Rattle.fm_core.specs.declared.cell.Cell.{Cell}
use Rattle.fm_core.specs.declared.floor.Floor.{Floor}
use Rattle.fm_core.specs.declared.sight.Sight.{Sight}
use Rattle.fm_core.specs.declared.step.Step.TheVariants.{Look, Pace}
use Rattle.fm_board.specs.declared.about.About.{About}
use Rattle.fm_board.specs.declared.view.Log.{Log}
use Rattle.fm_board.specs.declared.view.Mind.{Mind}
use Rattle.fm_board.specs.declared.view.View.{View}
use Rattle.fm_board.specs.Minds.{did_look, spotted, stepping}
use Rattle.fm_board.specs.Plays.{Finds, Holder, looks, paces}
use Rattle.fm_board.specs.StandsFor.{IsSeat, IsSightOfZero, IsViewOf, StandsForSome, count, setting}
use Rattle.fm_board.specs.View.{InTurn, looked}
use Rattle.fm_board.specs.Words.{word_at}
use Rattle.fm_board.proofs.Frames.{Leaves, SameForZero, desk_moves}
use Rattle.fm_board.proofs.Goings.{alone_on, alone_still, goes_on, same_cells, seen_known}
use Rattle.fm_board.proofs.Runs.{extends_on, runs_on}
use Rattle.fm_board.proofs.Spellings.{one_floor}
use Rattle.fm_board.proofs.Views.{looks_zero}
use Rattle.fm_board.proofs.Views as views
use Rattle.fm_board.proofs.Looks.{finds, lined, looks_on, sees_now, valid_of}

turned : (v : View) (p : ℕ) (xs : List Sight) → v.sweep ≡ xs → InTurn v p
    → (nat_eq p 0 || nat_eq p (length xs) || nat_eq (p + 1) (length xs)) ≡ true
turned v p xs same turn = by_case turn.turn
  where
    by_case : (p ≡ 0) ⊎ ((p ≡ length v.sweep) ⊎ (p + 1 ≡ length v.sweep))
        → (nat_eq p 0 || nat_eq p (length xs) || nat_eq (p + 1) (length xs)) ≡ true
    by_case (inl e) = or_left _ _ (or_left _ _ (eq-eqb p 0 e))
    by_case (inr (inl e)) = or_left _ _ (or_right _ _ (eq-eqb p (length xs) (e ∙ ap length same)))
    by_case (inr (inr e)) = or_right _ _ (eq-eqb (p + 1) (length xs) (e ∙ ap length same))

-- a look is the core's look
pub looks_of : (a : About) (slots id p : ℕ) (m : Holder) → p < count a → InTurn m.0.view p
    → Allows (StandsForSome a) slots id m (word_at p) (λ n. n) (looks (step slots (word_at p) 0 0 none) m)
looks_of a slots id p m near turn s k sized at small =
    let h : State = k.core in
    let seat = k.stands.views.viewed id m.0 at in
    let in_range : p < length h.cells = omega (arith, lined a s k, near) in
    let c : Cell = cell h p in
    let allowed = may_look (setting a) h id p seat.here in_range (turned m.0.view p (desk h id).sweep seat.is.sweep turn) in
    let v : View = looked m.0.view p c.tag c.clock in
    let word : ℕ = get_or s.words (word_at p) 0 in
    let xs : Log = did_look m.0 p c.tag (k.history.steps ++ Look id p ∷ []) in
    let mine_is = ap (λ (n : ℕ). m.0.log.mine ++ Look n p ∷ []) seat.is.number in
    let w : Mind = spotted m.0 p c.tag c.clock word v xs in
    let h' : State = after (setting a) h (Look id p) in
    let d : Desk = record (desk h id) { sweep = swept (desk h id).sweep p (sighted (setting a) h (desk h id).sweep p) } in
    let same : 0 ≢ id → SameForZero h h' = (λ n. record {
      due = refl;
      visited = ap (λ b. if b && has_nothing c.tag then slice_set h.visited p true else h.visited) (ne_eqb id 0 (λ e. n (sym e)));
      gather = refl;
      released = refl;
      floor = refl;
    }) in
    let l : Leaves h h' id = desk_moves h id d h.floor h.due (visits_by_look h id p) h.gather h.released same in
    let mine : IsSeat a h' id w = sees_now a h' id p m.0 v (omega (arith, l.desks, seat.here))
    (views.looks a h id m.0.view seat.is seat.here p) seat.room
    (λ e. subst (λ (n : ℕ). IsSightOfZero (setting a) (after (setting a) h (Look n p)) v) (sym e)
    (looks_zero a h m.0.view (subst (λ (n : ℕ). IsViewOf a h n m.0.view) e seat.is) (seat.zero e) p))
    seat.wide seat.known seat.over c.tag c.clock word xs (omega arith) (λ e. e) in (
      w,
      keeps,
      tt,
      record {
        core = h';
        sound = core.keeps (setting a) h (Look id p) (valid_of a) k.sound allowed;
        stands = looks_on a s k (word_at p) id m.0 w m.1 h' at refl refl refl l refl refl mine;
        history = runs_on a s.views h k.history id m.0 w at (Look id p) allowed refl mine_is
            refl;
        going = goes_on a s h k.going id m.0 w at (set s.words (word_at p) word) h' (same_cells a h h' refl) (λ x e. (x, e, refl, refl))
            (seen_known a m.0 k.going.left p c.tag seat.is.plan (k.going.known id m.0 at) (λ b. k.going.born p in_range b));
        alone = alone_on a s id m.0 w (set s.words (word_at p) word) s.homes at k.stands.views.made
            (λ _ _ _. ap (λ (ws : List ℕ). get_or ws (word_at p) 0) (set-get_or s.words (word_at p) 0));
      },
      λ q e. subst (λ (z : ℕ). Finds m z (get_or s.words (word_at p) 0) (looked m.0.view z)
          (λ t. did_look m.0 z t (k.history.steps ++ Look id p ∷ [])) (w, m.1)) (omega (arith, e))
          (finds a s k id p m.0 m.1 (looked m.0.view p) (λ t. did_look m.0 p t (k.history.steps ++ Look id p ∷ [])) at seat in_range
          (extends_on a s.views h k.history id m.0 w at (Look id p) refl mine_is refl m.0.view.number seat.is.number)),
    )

-- a pace is the core's pace
pub paces_of : (a : About) (slots id : ℕ) (m : Holder) → Allows (StandsForSome a) slots id m 0 (λ n. n) (paces (step slots 0 0 0 none) m)
paces_of a slots id m s k sized at small =
    let h : State = k.core in
    let seat = k.stands.views.viewed id m.0 at in
    let allowed = may_pace (setting a) h id seat.here in
    let h' : State = after (setting a) h (Pace id) in
    let d : Desk = record (desk h id) { paced = h.floor } in
    let v : View = record m.0.view { paced = h.floor } in
    let w : Mind = stepping m.0 (Pace m.0.view.number) v (k.history.steps ++ Pace id ∷ []) in
    let mine_is = ap (λ (n : ℕ). m.0.log.mine ++ Pace n ∷ []) seat.is.number in
    let l : Leaves h h' id = desk_moves h id d h.floor h.due h.visited h.gather h.released
    (λ n. record { due = refl; visited = refl; gather = refl; released = refl; floor = refl }) in
    let mine : IsSeat a h' id w = record {
      here = omega (arith, l.desks, seat.here);
      is = views.paces a h id m.0.view seat.is seat.here;
      room = seat.room;
      zero = λ e. let z = seat.zero e in
          record {
            lines = z.lines;
            due = z.due;
            visited = z.visited;
            gathered = z.gathered;
            released = z.released;
            published = z.published;
          };
      wide = seat.wide;
      known = seat.known;
      over = seat.over;
    } in (
      w,
      keeps,
      tt,
      record {
        core = h';
        sound = core.keeps (setting a) h (Pace id) (valid_of a) k.sound allowed;
        stands = looks_on a s k 0 id m.0 w m.1 h' at refl refl refl l refl refl mine;
        history = runs_on a s.views h k.history id m.0 w at (Pace id) allowed refl mine_is
            refl;
        going = goes_on a s h k.going id m.0 w at (set s.words 0 (get_or s.words 0 0)) h' (same_cells a h h' refl)
            (λ x e. (x, e, refl, refl)) (k.going.known id m.0 at);
        alone = alone_still a s id m.0 w (set s.words 0 (get_or s.words 0 0)) s.homes at k.stands.views.made k.alone refl refl refl
            (λ j lt. ap (λ (ws : List ℕ). get_or ws (word_at j) 0) (set-get_or s.words 0 0));
      },
      record {
        floor = h.floor;
        low = k.stands.words.low;
        word = k.stands.words.floor;
        own = λ zero_is. let z = seat.zero (sym seat.is.number ∙ zero_is) in sym z.published;
        out = refl;
        mind = λ f small_f e. ap (λ (g : Floor). stepping m.0 (Pace m.0.view.number) (record m.0.view { paced = g })
            (k.history.steps ++ Pace id ∷ []))
            (one_floor h.floor f k.stands.words.low small_f (sym k.stands.words.floor ∙ e));
        extends = extends_on a s.views h k.history id m.0 w at (Pace id) refl mine_is refl m.0.view.number seat.is.number;
      },
    )
