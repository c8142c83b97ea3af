-- Claims and gives keep the rule.
use Rattle.std.proofs.Common.{◌≡◌, ℕ, ◌-◌, ◌<◌, ◌≤◌, List, [], ◌∷◌, ◌++◌, length, get_or, set, take, drop, true, false, Option, Some, None, refl, sym, ap, ◌∙◌, subst, inl, arith, eqb, eq-eqb, ne_eqb, get_or-set_same}
use Rattle.std.specs.Prelude.{◌&&◌, nat_eq}
use mathlib.Core.Option.{some, none}
use lib.ListN.{get_elem?}
use prog.Atomic.{either}
use Rattle.atomic_table.specs.Table.{Act, Allows, Valid, carried_after, keeps, step, stepped, takes}
use Rattle.atomic_table.proofs.Lists.{exchanged}
use Rattle.fm_line.specs.declared.line.Line.{Line}
use Rattle.fm_line.specs.Line.{line}
use Rattle.fm_line.specs.Piece.{Rises}
use Rattle.fm_core.proofs.Booleans.{left_false, right_false}
use Rattle.fm_core.proofs.Keeps as core
use Rattle.fm_core.proofs.May.{may_claim, free}
use Rattle.fm_core.specs.Effects.{after, claimed}
use Rattle.fm_core.specs.State.{State, cell, held_by, unborn}
use Rattle.fm_core.specs.Tags.{claimed_tag, is_claimable, is_ended, is_held, is_unborn}
use Rattle.fm_core.specs.declared.cell.Cell.{Cell}
use Rattle.fm_core.specs.declared.step.Step.TheVariants.{Claim}
use Rattle.fm_core.specs.declared.tag.Tag.{Tag}
use Rattle.fm_core.specs.declared.tag.Tag.TheVariants.{Unborn, Home, Full, Out, Ended, EndedOut, Drained}
use Rattle.fm_buffer.specs.Outbox.{EventQueue}
use Rattle.fm_program.specs.Parts.{PlanParts}
use Rattle.fm_program.specs.Process.{plan_lines}
use Rattle.fm_strand.specs.declared.strand.Strand.{Strand}
use Rattle.fm_strand.specs.Strand.{steps_left}
use Rattle.fm_board.specs.declared.about.About.{About}
use Rattle.fm_board.specs.declared.deposit.Deposit.{Deposit}
use Rattle.fm_board.specs.declared.view.Hold.{Hold}
use Rattle.fm_board.specs.declared.view.Log.{Log}
use Rattle.fm_board.specs.declared.view.Mind.{Mind}
use Rattle.fm_board.specs.Calls.{HasGiven, IsHold}
use Rattle.fm_board.specs.Minds.{did, spotted, turned}
use Rattle.fm_board.specs.Plays.{Finds, Hands, Holder, claims}
use Rattle.std.specs.Prelude.{All}
use Rattle.fm_board.specs.StandsFor.{AtHome, Going, HoldsIn, IsHoldOf, IsSeat, IsViewOf, Shown, StandsFor, StandsForSome, StrandAt, Table, count, setting}
use Rattle.fm_board.specs.View.{holding, waiting}
use Rattle.fm_board.specs.Words.{spell, spelt, word_at}
use Rattle.fm_board.proofs.Frames.{halt_other, halt_stays, Leaves, cell_moves, goes_out, no_word, places_stay, reseated, word_moves, written_stays}
use Rattle.fm_board.proofs.Goings.{alone_on, goes_with, one_same, seen_known}
use Rattle.fm_board.proofs.Looking.{tells}
use Rattle.fm_board.proofs.Runs.{extends_on, extends_still, runs_on, runs_still}
use Rattle.fm_board.proofs.Looks.{finds, found_tells, lined, says, sees_now, turned_seat, valid_of}
use Rattle.fm_board.proofs.Found.{saw}
use Rattle.fm_core.specs.declared.limits.TheConstants.{MAX_SEATS}

pub same_some : {A : Type 0} (x y : A) → Some x ≡ Some y → x ≡ y
same_some x y e = cc

-- ---- tags

pub claimable_is : (n : ℕ) (t : Tag) → is_claimable n t ≡ true
    → (is_held t ≡ false) × (is_unborn t ≡ false) × (is_held (claimed_tag t) ≡ true) × (is_unborn (claimed_tag t) ≡ false)
    × (is_ended (claimed_tag t) ≡ is_ended t)
claimable_is n Unborn e = absurd (cc)
claimable_is n Home e = (refl, refl, refl, refl, refl)
claimable_is n Full e = (refl, refl, refl, refl, refl)
claimable_is n Out e = absurd (cc)
claimable_is n Ended e = (refl, refl, refl, refl, refl)
claimable_is n EndedOut e = absurd (cc)
claimable_is n Drained e = absurd (cc)

-- a born process at home has a strand
pub living : (a : About) (p : ℕ) (c : Cell) (o : Option Strand) → StrandAt a p c o → is_unborn c.tag ≡ false
    → (x : Strand) × (o ≡ Some x) × HasGiven a.plan p c.computed c.clock x × (is_ended c.tag ≡ true → steps_left a.plan x ≡ 0)
living a p c None q born = absurd (cc)
living a p c (Some x) q born = (x, refl, q.0, q.1)

-- ---- a claim that wins

abbrev Won : About → (s : Table) → ℕ → ℕ → ℕ → ℕ → ℕ → Holder → ℕ → Type 0
Won a s p id old new slots m n =
    (w : Mind) × (x : Act (Option Deposit)) × Valid s.homes m.1 x × StandsForSome a (stepped s (word_at p) n id m.1 w x)
    × claims (step slots (word_at p) old new none) m (get_or s.words (word_at p) 0) (w, carried_after m.1 x)

module _ (a : About) (s : Table) (k : StandsForSome a s) (p id : ℕ) (m : Holder) (at : get_elem? s.views id ≡ some m.0)
    (holds : m.0.view.holds ≡ None) (near : p < count a) (can : is_claimable id (cell k.core p).tag ≡ true) where
  abbrev h : State
  h = k.core

  abbrev c : Cell
  c = cell k.core p

  abbrev l : Line
  l = line (plan_lines a.plan) p

  seat : IsSeat a h id m.0
  seat = k.stands.views.viewed id m.0 at

  inside : p < length h.cells
  inside = omega (arith, lined a s k, near)

  abbrev h' : State
  h' = after (setting a) h (Claim id p)

  tag_is : (is_held c.tag ≡ false) × (is_unborn c.tag ≡ false) × (is_held (claimed_tag c.tag) ≡ true)
      × (is_unborn (claimed_tag c.tag) ≡ false) × (is_ended (claimed_tag c.tag) ≡ is_ended c.tag)
  tag_is = claimable_is id c.tag can

  home : (stock : Deposit) × (get_elem? s.homes p ≡ some (some (Some stock))) × AtHome a p c stock
  home = k.stands.homes.home p inside tag_is.0

  abbrev strand_of : (x : Strand) × (home.0.strand ≡ Some x) × HasGiven a.plan p c.computed c.clock x
      × (is_ended c.tag ≡ true → steps_left a.plan x ≡ 0)
  strand_of = living a p c home.0.strand home.2.strand tag_is.1

  abbrev hold : Hold
  hold = record {
    process = p;
    computed = c.computed;
    taken = c.taken;
    clock = c.clock;
    was_ended = is_ended c.tag;
    recorded = false;
    written = 0;
    left = k.going.left p;
  }

  here : get_or (set h.cells p (claimed c id)) p unborn ≡ claimed c id
  here = get_or-set_same h.cells p (claimed c id) unborn inside

  leaves : Leaves h h' id
  leaves = cell_moves h id p (claimed c id) h.floor h.due h.visited h.gather h.released inside
      (λ j n. left_false (is_held c.tag) (nat_eq c.seat j) tag_is.0)
      (λ j n. right_false (is_held (claimed_tag c.tag)) (nat_eq id j) (ne_eqb id j (λ e. n (sym e))))
      (omega arith) (λ e. tag_is.4 ∙ e)
      (λ n. record { due = refl; visited = refl; gather = refl; released = refl; floor = refl })

  view : IsViewOf a h' id (holding m.0.view hold)
  view = record {
    plan = seat.is.plan;
    lead = seat.is.lead;
    seats = seat.is.seats;
    number = seat.is.number;
    holds = (
      omega (arith, leaves.cells, inside),
      ap (held_by id) here ∙ (ap (λ b. b && nat_eq id id) tag_is.2 ∙ eq-eqb id id refl),
      subst (λ (x : Cell). IsHoldOf x hold) (sym here)
          (record { computed = refl; taken = refl; at = refl; was_ended = sym tag_is.4; recorded = sym home.2.recorded }),
    );
    sweep = seat.is.sweep;
    paced = seat.is.paced;
  }

  abbrev xs : Log
  xs = did m.0 (Claim m.0.view.number p) (k.history.steps ++ Claim id p ∷ [])

  mine : IsSeat a h' id (turned (spotted m.0 p c.tag c.clock (get_or s.words (word_at p) 0) (holding m.0.view hold) xs))
  mine = turned_seat a h' id (spotted m.0 p c.tag c.clock (get_or s.words (word_at p) 0) (holding m.0.view hold) xs)
      (sees_now a h' id p m.0 (holding m.0.view hold) seat.here view seat.room
      (λ e. let z = seat.zero e in
      record { lines = z.lines; due = z.due; visited = z.visited; gathered = z.gathered; released = z.released; published = z.published })
      seat.wide
      (λ q. let on = leaves.clock q in let known = seat.known q in omega arith)
      (λ q e. leaves.over q (seat.over q e))
      c.tag c.clock (get_or s.words (word_at p) 0) xs (leaves.clock p) (leaves.over p))

  is_hold : IsHold m.0.view.plan m.0.room p hold strand_of.0 home.0.outbox
  is_hold = record {
    process = refl;
    strand = subst (λ (q : PlanParts). HasGiven q p c.computed c.clock strand_of.0) (sym seat.is.plan) strand_of.2;
    size = ap (λ (b : EventQueue). b.room) home.2.box ∙ sym seat.room;
    waits = ap (λ (b : EventQueue). b.events) home.2.box
        ∙ ap (λ (q : PlanParts). take (c.computed - c.taken) (drop c.taken (line (plan_lines q) p).events)) (sym seat.is.plan);
    rises = subst (λ (q : PlanParts). Rises (waiting q hold)) (sym seat.is.plan)
        ((tells (setting a) h (valid_of a).lines k.sound).rises p);
    fresh = refl;
    over = λ e. ap (λ (q : PlanParts). steps_left q strand_of.0) seat.is.plan ∙ strand_of.3 e;
    left = ap (λ (q : PlanParts). steps_left q strand_of.0) seat.is.plan ∙ k.going.home p home.0 strand_of.0 home.1 strand_of.1;
    early = subst (λ (q : PlanParts). All (λ e. e.time ≤ c.clock) (waiting q hold)) (sym seat.is.plan) (k.going.early p inside);
  }

  going : (ws : List ℕ) → Going a (record {
    words = ws;
    homes = set s.homes p none;
    views = set s.views id (turned (spotted m.0 p c.tag c.clock (get_or s.words (word_at p) 0) (holding m.0.view hold) xs));
  }) h'
  going ws = goes_with a s h k.going id m.0
      (turned (spotted m.0 p c.tag c.clock (get_or s.words (word_at p) 0) (holding m.0.view hold) xs)) at ws p hold h'
      (one_same a h h' p (claimed c id) refl inside refl (tag_is.3 ∙ sym tag_is.1) refl) refl refl refl
      (seen_known a m.0 k.going.left p c.tag seat.is.plan (k.going.known id m.0 at) (λ b. k.going.born p inside b))

  -- the exchange hands out the process
  pub claim_wins : (old new slots : ℕ) → new ≡ spell (claimed_tag c.tag) c.clock id → get_or s.words (word_at p) 0 ≡ old
      → Won a s p id old new slots m new
  claim_wins old new slots is_new found =
      let w : Mind = turned (spotted m.0 p c.tag c.clock (get_or s.words (word_at p) 0) (holding m.0.view hold) xs) in
      let allowed = may_claim (setting a) h id p seat.here inside
      (free (setting a) h id (subst (HoldsIn h id) holds seat.is.holds)) can in
      let shown : Shown (claimed c id) = record {
        idle = λ e. let no = tag_is.2 in absurd (cc);
        unborn = λ e. let no = tag_is.3 in absurd (cc);
      } in
      let stands : StandsFor a (record {
        words = set s.words (word_at p) (spelt (claimed c id));
        homes = set s.homes p none;
        views = set s.views id w;
      }) h' = record {
        crew = k.stands.crew;
        words = word_moves a s.words h.cells h.floor k.stands.words p (claimed c id) inside (lined a s k) shown (λ e. e);
        homes = goes_out a s.homes h.cells k.stands.homes p (claimed c id) inside tag_is.2;
        views = reseated a h h' id leaves s.views m.0 w at refl mine k.stands.views;
        wrote = written_stays a s.words (set s.words (word_at p) (spelt (claimed c id))) s.views id m.0 w at
            (places_stay s.words (word_at p) (spelt (claimed c id)) (no_word p))
            (λ x e. inl (sym (ap (λ (y : Hold). y.written) (same_some hold x e)))) k.stands.wrote;
        halt = halt_stays a s.words (set s.words (word_at p) (spelt (claimed c id))) s.views id m.0 w at
            (halt_other a s.words p (spelt (claimed c id)) near) refl k.stands.halt;
      } in (
        w,
        takes p (Some home.0),
        home.1,
        record {
          core = h';
          sound = core.keeps (setting a) h (Claim id p) (valid_of a) k.sound allowed;
          stands = subst (λ (n : ℕ). StandsFor a (record {
            words = set s.words (word_at p) n;
            homes = set s.homes p none;
            views = set s.views id w;
          }) h') (sym is_new) stands;
          history = runs_on a s.views h k.history id m.0 w at (Claim id p) allowed refl
              (ap (λ (n : ℕ). m.0.log.mine ++ Claim n p ∷ []) seat.is.number) refl;
          going = going (set s.words (word_at p) new);
          alone = alone_on a s id m.0 w (set s.words (word_at p) new) (set s.homes p none) at k.stands.views.made
              (λ _ _ inside_now. absurd (let n = ap (λ (q : PlanParts). length q.programs) seat.is.plan in
              omega (arith, inside_now, n)));
        },
        λ q e. let same : p ≡ q = omega (arith, e) in (
          (λ _ t clock n small spells.
              let is = says a s k p inside t clock n small (found ∙ spells) in
              subst (λ (y : ℕ × Tag × ℕ). Hands m y.0 y.1 y.2 (get_or s.words (word_at p) 0) (w, (p, Some home.0) ∷ m.1))
              (λ i. (same i, is.0 i, is.1 i)) (record {
                hold = hold;
                strand = strand_of.0;
                box = home.0.outbox;
                is = is_hold;
                was_ended = refl;
                clock = refl;
                behind = k.going.known id m.0 at p near;
                tells = found_tells a s k id p m.0 at seat inside;
                mind = refl;
                extends = extends_on a s.views h k.history id m.0 w at (Claim id p) refl
                    (ap (λ (n : ℕ). m.0.log.mine ++ Claim n p ∷ []) seat.is.number) refl m.0.view.number seat.is.number;
                out = ap (λ (o : Option Strand). (p, Some (record { strand = o; outbox = home.0.outbox })) ∷ m.1) strand_of.1;
              })),
          (λ n. absurd (n found)),
        ),
      )

-- a claim is the core's claim where the word is the expected one, and none else
pub claims_of : (a : About) (slots id p clock n old new : ℕ) (t : Tag) (m : Holder) → m.0.view.holds ≡ None → p < count a → n < MAX_SEATS
    → is_claimable m.0.view.number t ≡ true → old ≡ spell t clock n → new ≡ spell (claimed_tag t) clock m.0.view.number
    → Allows (StandsForSome a) slots id m (word_at p) (λ x. either (eqb x old) new x) (claims (step slots (word_at p) old new none) m)
claims_of a slots id p clock n old new t m holds near small_n can is_old is_new s k sized at small =
    let h : State = k.core in
    let seat = k.stands.views.viewed id m.0 at in
    let inside : p < length h.cells = omega (arith, lined a s k, near) in
    exchanged (get_or s.words (word_at p) 0) old new (Won a s p id old new slots m)
    (λ found.
    let is = says a s k p inside t clock n small_n (found ∙ is_old) in
    let can' : is_claimable id (cell h p).tag ≡ true = ap (is_claimable id) is.0
    ∙ (ap (λ j. is_claimable j t) (sym seat.is.number) ∙ can) in
    let spells : new ≡ spell (claimed_tag (cell h p).tag) (cell h p).clock id =
    is_new ∙ (λ i. spell (claimed_tag (sym is.0 i)) (sym is.1 i) (seat.is.number i)) in
    claim_wins a s k p id m at holds near can' old new slots spells found)
    (λ other.
    let w : Mind = spotted m.0 p (cell h p).tag (cell h p).clock (get_or s.words (word_at p) 0) m.0.view m.0.log in (
      w,
      keeps,
      tt,
      saw a s k p id m.0 m.1 m.0.log at inside (runs_still a s.views h k.history id m.0 w at refl),
      λ q e. let same : p ≡ q = omega (arith, e) in (
        (λ found. absurd (other found)),
        (λ _. subst (λ (z : ℕ). Finds m z (get_or s.words (word_at p) 0) (λ t c. m.0.view) (λ t. m.0.log) (w, m.1)) same
            (finds a s k id p m.0 m.1 (λ t c. m.0.view) (λ t. m.0.log) at seat inside
            (extends_still a s.views h k.history id m.0 w at refl m.0.view.number))),
      ),
    ))
