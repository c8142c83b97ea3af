-- A give keeps the rule.
use Rattle.std.proofs.Common.{◌≡◌, ◌≢◌, ℕ, ◌<◌, ◌≤◌, List, [], ◌∷◌, ◌++◌, length, get_or, set, true, false, Option, Some, refl, sym, ap, ◌∙◌, subst, arith}
use Rattle.std.specs.Prelude.{◌||◌}
use mathlib.Core.Option.{some, none}
use lib.ListN.{get_elem?}
use Rattle.atomic_table.specs.Table.{Allows, gives, step}
use Rattle.fm_line.specs.declared.line.Line.{Line}
use Rattle.fm_line.specs.declared.limits.TheConstants.{LAST_TICK}
use Rattle.fm_core.proofs.Booleans.{clash}
use Rattle.fm_core.proofs.Given.{given_not_unborn}
use Rattle.fm_core.proofs.GiveTests.{may_give}
use Rattle.fm_core.proofs.Keeps as core
use Rattle.fm_core.specs.State.{State, unborn}
use Rattle.fm_core.specs.Tags.{given_tag, is_ended, is_unborn}
use Rattle.fm_core.specs.Taking.{outbox}
use Rattle.fm_core.specs.declared.cell.Cell.{Cell}
use Rattle.fm_core.specs.declared.step.Step.{Step}
use Rattle.fm_core.specs.declared.step.Step.TheVariants.{Give}
use Rattle.fm_core.specs.declared.tag.Tag.{Tag}
use Rattle.fm_buffer.specs.Outbox.{EventQueue}
use Rattle.fm_strand.specs.declared.strand.Strand.{Strand}
use Rattle.fm_strand.specs.Strand.{clock_of, steps_left}
use Rattle.fm_strand.specs.Course.{steps_of}
use Rattle.std.specs.Prelude.{All}
use Rattle.fm_program.specs.Parts.{PlanParts}
use Rattle.fm_board.specs.Knowing.{Knows}
use Rattle.fm_strand.proofs.WholeLemmas.{end-late}
use Rattle.std.proofs.lemmas.List.{length-set}
use Rattle.fm_board.proofs.Goings.{alone_on, back_home, changes, put_left, put_less, put_same}
use Rattle.fm_board.specs.declared.about.About.{About}
use Rattle.fm_board.specs.declared.deposit.Deposit.{Deposit}
use Rattle.fm_board.specs.declared.view.Hold.{Hold}
use Rattle.fm_board.specs.declared.view.Log.{Log}
use Rattle.fm_board.specs.declared.view.Mind.{Mind}
use Rattle.fm_board.specs.Calls as calls
use Rattle.fm_board.proofs.Given.{MayGiveAll}
use Rattle.fm_board.specs.Minds.{did, noticed}
use Rattle.fm_board.specs.Plays.{GivesBack, Holder, gives_back}
use Rattle.fm_board.specs.StandsFor.{AtHome, Going, IsSeat, IsSightOfZero, IsViewOf, Shown, StandsFor, StandsForSome, Table, count, setting}
use Rattle.fm_board.specs.View.{gave, giving}
use Rattle.fm_board.specs.Words.{spell, spelt, word_at}
use Rattle.fm_board.proofs.Frames.{halt_other, halt_stays, Leaves, comes_home, no_word, places_stay, reseated, word_moves, written_stays}
use Rattle.fm_board.proofs.ComingHome.{brought}
use Rattle.fm_board.proofs.ComingHome as back
use Rattle.fm_board.specs.Runs.{Extends}
use Rattle.fm_board.proofs.Runs.{extends_on, runs_on}
use Rattle.fm_board.proofs.Looks.{lined, sees_now, valid_of}
use Rattle.fm_board.proofs.Spellings.{one_word, set_or_same}

module _ (a : About) (s : Table) (k : StandsForSome a s) (p id : ℕ) (m : Mind) (at : get_elem? s.views id ≡ some m) (near : p < count a)
    (t : Strand) (box : EventQueue) (may : calls.MayComeBack a m.view p t box) (fits : length box.events ≤ box.room) where
  abbrev h : State
  h = back.h a s k p id m at near t box may fits

  abbrev l : Line
  l = back.l a s k p id m at near t box may fits

  seat : IsSeat a h id m
  seat = back.seat a s k p id m at near t box may fits

  inside : p < length h.cells
  inside = back.inside a s k p id m at near t box may fits

  abbrev all : MayGiveAll a h m.view id p t box
  all = back.all a s k p id m at near t box may fits

  abbrev now : ℕ
  now = back.now a s k p id m at near t box may fits

  abbrev left : ℕ
  left = back.left a s k p id m at near t box may fits

  abbrev home : Cell
  home = back.home a s k p id m at near t box may fits

  abbrev h' : State
  h' = back.h' a s k p id m at near t box may fits

  here : get_or (set h.cells p home) p unborn ≡ home
  here = back.here a s k p id m at near t box may fits

  ended_is : is_ended home.tag ≡ all.ends
  ended_is = back.ended_is a s k p id m at near t box may fits

  waiting_is : length box.events ≡ left
  waiting_is = back.waiting_is a s k p id m at near t box may fits

  ends_is : all.ends ≡ (may.h.recorded || may.h.was_ended)
  ends_is = back.ends_is a s k p id m at near t box may fits

  leaves : Leaves h h' id
  leaves = back.leaves a s k p id m at near t box may fits

  view : IsViewOf a h' id (gave m.view)
  view = back.view a s k p id m at near t box may fits

  zero_sees : id ≡ 0 → IsSightOfZero (setting a) h' (gave m.view)
  zero_sees = back.zero_sees a s k p id m at near t box may fits

  at_home : AtHome a p home (brought t box)
  at_home = back.at_home a s k p id m at near t box may fits

  abbrev all_steps : List Step
  all_steps = back.all_steps a s k p id m at near t box may fits

  abbrev xs : Log
  xs = back.xs a s k p id m at near t box may fits

  steps_are : xs.mine ≡ m.log.mine ++ Give id p all.taken all.computed now all.ends ∷ []
  steps_are = back.steps_are a s k p id m at near t box may fits

  few : steps_left a.plan t ≤ steps_of a.plan p
  few = back.few a s k p id m at near t box may fits

  less : steps_left a.plan t ≤ k.going.left p
  less = back.less a s k p id m at near t box may fits

  soon : All (λ e. e.time ≤ now) (outbox l home)
  soon = back.soon a s k p id m at near t box may fits

  none_else : (j : ℕ) (u : Mind) (x : Hold) → j ≢ id → get_elem? s.views j ≡ some u → u.view.holds ≡ Some x → x.process ≢ p
  none_else = back.none_else a s k p id m at near t box may fits

  pub going : (tag : Tag) (ws : List ℕ) → Going a (record {
    words = ws;
    homes = set s.homes p (some (Some (brought t box)));
    views = set s.views id (noticed m p tag now (steps_left a.plan t) (gave m.view) xs);
  }) h'
  going tag ws =
      changes a s h k.going id m (noticed m p tag now (steps_left a.plan t) (gave m.view) xs) at ws
      (set s.homes p (some (Some (brought t box)))) p (steps_left a.plan t) home h' refl inside (given_not_unborn a.room left all.ends)
      few less soon (back_home a s h k.going p (steps_left a.plan t) (brought t box) t refl refl) (λ x e. absurd (cc)) none_else
      (λ j lt. set_or_same m.left p (steps_left a.plan t) 0 (λ i n. i < count a → put_left k.going.left p (steps_left a.plan t) i ≤ n)
      (λ i near. let one = put_less k.going.left p (steps_left a.plan t) i less in let two = k.going.known id m at i near in
      omega (arith, one, two))
      (λ near. let is = put_same k.going.left p (steps_left a.plan t) p refl in omega (arith, is)) j lt)

  -- the seat knows no less then
  pub knows : (tag : Tag) → is_ended tag ≡ is_ended home.tag
      → Knows m (noticed m p tag now (steps_left a.plan t) (gave m.view) xs)
  knows tag same = record {
    left = set_or_same m.left p (steps_left a.plan t) 0 (λ j n. n ≤ get_or m.left j 0) (λ j. omega arith)
        (let fewer = less in let known = k.going.known id m at p near in omega (arith, fewer, known));
    known = set_or_same m.known p now 0 (λ j n. get_or m.known j 0 ≤ n) (λ j. omega arith)
        (let on = all.allowed.on in let known = seat.known p in omega (arith, on, known));
    over = set_or_same m.over p (is_ended tag) false (λ j b. get_or m.over j false ≡ true → b ≡ true) (λ j e. e)
        (λ e. same ∙ (ended_is ∙ all.allowed.stays (seat.over p e)));
    wide = λ n w. record {
      left = length-set m.left p (steps_left a.plan t) ∙ w.left;
      known = length-set m.known p now ∙ w.known;
      over = length-set m.over p (is_ended tag) ∙ w.over;
      low = set_or_same m.known p now 0 (λ j n. n ≤ LAST_TICK) w.low
          (let late = end-late a.plan t may.strand.course in let top = ((valid_of a).lines.ends t.process).0 in
          omega (arith, late, top));
    };
    made = refl;
  }

  -- the rule after the store
  pub stands : (tag : Tag) (new : ℕ) → is_ended tag ≡ is_ended home.tag → new ≡ spelt home
      → StandsForSome a (record {
        words = set s.words (word_at p) new;
        homes = set s.homes p (some (Some (brought t box)));
        views = set s.views id (noticed m p tag now (steps_left a.plan t) (gave m.view) xs);
      })
  stands tag new same is_new =
      let w : Mind = noticed m p tag now (steps_left a.plan t) (gave m.view) xs in
      let allowed_now = may_give (setting a) h id p all.taken all.computed now all.ends all.allowed in
      let sees = sees_now a h' id p m (gave m.view) seat.here view seat.room zero_sees seat.wide
      (λ q. let on = leaves.clock q in let known = seat.known q in omega arith)
      (λ q e. leaves.over q (seat.over q e))
      tag now m.last xs (let clock = ap (λ (x : Cell). x.clock) here in omega arith)
      (λ e. ap (λ (x : Cell). is_ended x.tag) here ∙ (sym same ∙ e)) in
      let mine : IsSeat a h' id w = record {
        here = sees.here;
        is = sees.is;
        room = sees.room;
        zero = sees.zero;
        wide = sees.wide;
        known = sees.known;
        over = sees.over;
      } in
      let shown : Shown home = record {
        idle = λ e. refl;
        unborn = λ e. absurd (clash (is_unborn home.tag) e (given_not_unborn a.room left all.ends));
      } in record {
        core = h';
        sound = core.keeps (setting a) h (Give id p all.taken all.computed now all.ends) (valid_of a) k.sound allowed_now;
        history = runs_on a s.views h k.history id m w at (Give id p all.taken all.computed now all.ends) allowed_now refl steps_are
            refl;
        stands = subst (λ (n : ℕ). StandsFor a (record {
          words = set s.words (word_at p) n;
          homes = set s.homes p (some (Some (brought t box)));
          views = set s.views id w;
        }) h') (sym is_new) (record {
          crew = k.stands.crew;
          words = word_moves a s.words h.cells h.floor k.stands.words p home inside (lined a s k) shown (λ e. e);
          homes = comes_home a s.homes h.cells k.stands.homes p home (brought t box) inside (lined a s k) at_home;
          views = reseated a h h' id leaves s.views m w at refl mine k.stands.views;
          wrote = written_stays a s.words (set s.words (word_at p) (spelt home)) s.views id m w at
              (places_stay s.words (word_at p) (spelt home) (no_word p)) (λ x e. absurd (cc)) k.stands.wrote;
          halt = halt_stays a s.words (set s.words (word_at p) (spelt home)) s.views id m w at
              (halt_other a s.words p (spelt home) near) refl k.stands.halt;
        });
        going = going tag (set s.words (word_at p) new);
        alone = alone_on a s id m w (set s.words (word_at p) new) (set s.homes p (some (Some (brought t box)))) at k.stands.views.made
            (λ _ _ inside_now. absurd (let n = ap (λ (q : PlanParts). length q.programs) seat.is.plan in
            omega (arith, inside_now, n)));
      }

  -- its log goes on
  pub extended : (tag : Tag) → Extends m.view.number m.log (noticed m p tag now (steps_left a.plan t) (gave m.view) xs).log
  extended tag =
      extends_on a s.views h k.history id m (noticed m p tag now (steps_left a.plan t) (gave m.view) xs) at
      (Give id p all.taken all.computed now all.ends) refl steps_are refl m.view.number seat.is.number

  -- the word that a give stores spells the process at home
  pub spells : (new : ℕ) → new ≡ spell (given_tag a.room (may.h.recorded || may.h.was_ended) (length box.events)) now 0 → new ≡ spelt home
  spells new is = is ∙ (λ i. spell (given_tag a.room (sym ends_is i) (waiting_is i)) now 0)

-- a give is the core's give
gives_at : (a : About) (slots id p new : ℕ) (m : Mind) (cs : List (ℕ × Option Deposit)) (t : Strand) (box : EventQueue)
    → (may : calls.MayComeBack a m.view p t box) → length box.events ≤ box.room → p < count a
    → new ≡ spell (given_tag a.room (may.h.recorded || may.h.was_ended) (length box.events)) (clock_of a.plan t) 0
    → Allows (StandsForSome a) slots id (m, (p, Some (brought t box)) ∷ cs) (word_at p) (λ _. new)
    (λ _. gives_back (step slots (word_at p) new 0 none) (m, (p, Some (brought t box)) ∷ cs) new)
gives_at a slots id p new m cs t box may fits near is_new s k sized at small =
    let tag : Tag = given_tag a.room (may.h.recorded || may.h.was_ended) (length box.events) in
    let spells_it = spells a s k p id m at near t box may fits new is_new in
    let same = one_word _ _ _ _ 0 0 (omega arith) (omega arith) (sym is_new ∙ spells_it) in
    let log : Log = did m (giving m.view p (length box.events) (clock_of a.plan t)) (all_steps a s k p id m at near t box may fits) in (
      noticed m p tag (clock_of a.plan t) (steps_left a.plan t) (gave m.view) log,
      gives,
      tt,
      stands a s k p id m at near t box may fits tag new (ap is_ended same.0) spells_it,
      λ q t' c' n e small_n says.
          let is = one_word tag t' (clock_of a.plan t) c' 0 n (omega arith) small_n (sym is_new ∙ says) in
          let here : p ≡ q = omega (arith, e) in
          subst (λ (y : ℕ × Tag × ℕ). GivesBack (m, (p, Some (brought t box)) ∷ cs) y.0 y.1 y.2 (
            noticed m p tag (clock_of a.plan t) (steps_left a.plan t) (gave m.view) log,
            cs,
          ))
          (λ i. (here i, is.0 i, is.1 i)) (record {
            mind = ap (λ (q : PlanParts). noticed m p tag (clock_of a.plan t) (steps_left q t) (gave m.view) log)
                (sym (k.stands.views.viewed id m at).is.plan);
            knows = knows a s k p id m at near t box may fits tag (ap is_ended same.0);
            extends = extended a s k p id m at near t box may fits tag;
            out = refl;
          }),
    )

pub gives_of : (a : About) (slots id p new : ℕ) (m : Holder) (cs : List (ℕ × Option Deposit)) (t : Strand) (box : EventQueue)
    → m.1 ≡ (p, Some (brought t box)) ∷ cs → (may : calls.MayComeBack a m.0.view p t box) → length box.events ≤ box.room → p < count a
    → new ≡ spell (given_tag a.room (may.h.recorded || may.h.was_ended) (length box.events)) (clock_of a.plan t) 0
    → Allows (StandsForSome a) slots id m (word_at p) (λ _. new) (λ _. gives_back (step slots (word_at p) new 0 none) m new)
gives_of a slots id p new m cs t box out may fits near is_new =
    subst (λ (xs : List (ℕ × Option Deposit)). Allows (StandsForSome a) slots id (m.0, xs) (word_at p) (λ _. new)
    (λ _. gives_back (step slots (word_at p) new 0 none) (m.0, xs) new))
    (sym out) (gives_at a slots id p new m.0 cs t box may fits near is_new)
