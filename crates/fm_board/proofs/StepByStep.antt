-- Where one seat has made some steps between two tables, these lead from the state of the first to that of the second.
use Rattle.std.proofs.Common.{◌≡◌, ◌≢◌, ◌⊎◌, ℕ, zero, suc, ◌<◌, ◌≤◌, List, [], ◌∷◌, ◌++◌, length, take, get_or, set, Bool, true, false, refl, sym, ap, ◌∙◌, subst, ⊎_elim, inl, inr, arith, append_assoc, append-nil, eqb, eq-eqb, ne_eqb, length-set}
use Rattle.std.proofs.lemmas.List.{append_cancel_left}
use Rattle.std.proofs.lemmas.Bool.{cases_lt}
use Rattle.std.specs.Prelude.{if◌then◌else◌, nat_eq, not, ◌&&◌}
use mathlib.Core.Logic.{dite}
use mathlib.Core.Option.{some, some-injective}
use native.Mathlib.Decide.{ℕ_discrete}
use lib.ListN.{get_elem?}
use Rattle.atomic_table.proofs.Lists.{set_else, set_here}
use Rattle.fm_msg.specs.Event.{TimedMessage}
use Rattle.fm_line.specs.Piece.{sorted}
use Rattle.fm_line.specs.Line.{line}
use Rattle.fm_core.proofs.Booleans.{clash}
use Rattle.fm_core.proofs.Elements.{take_none}
use Rattle.fm_core.proofs.GiveTests.{given_may, may_give}
use Rattle.fm_core.proofs.Reasons.{no_reason, none_holds}
use Rattle.fm_core.specs.Effects.{Legal, after, run, visits_by_give, visits_by_look}
use Rattle.fm_core.specs.Numbers.{any_below}
use Rattle.fm_core.specs.State.{Setting, State, cell, visited}
use Rattle.fm_core.specs.Steps.{Allowed, table}
use Rattle.fm_core.specs.Tags.{has_nothing}
use Rattle.fm_core.specs.Taking.{count_due, is_due, must_take, outbox}
use Rattle.fm_core.specs.declared.due.Due.{Due}
use Rattle.fm_core.specs.declared.due.Due.TheVariants.{Nothing}
use Rattle.fm_core.specs.declared.step.Step.{Step}
use Rattle.fm_core.specs.declared.step.Step.TheVariants.{Look, Claim, Start, Record, Recall, Give, Publish, Pace, Release}
use Rattle.fm_board.specs.declared.about.About.{About}
use Rattle.fm_board.specs.declared.view.Mind.{Mind}
use Rattle.fm_board.specs.Follows.{Follows, GoesOnBy, LeadsTo, TakesIn}
use Rattle.fm_board.specs.Runs.{BeginsWith, by_seat, seat_of}
use Rattle.fm_board.specs.StandsFor.{StandsForSome, Table, beginning, setting}
use Rattle.fm_board.proofs.Frames.{at_below}
use Rattle.fm_board.proofs.OneState.{there_is}
use Rattle.fm_board.proofs.Runs.{run_more}

-- ---- lists of steps

-- the steps of a seat in two lists, one behind the other
pub by_seat_both : (k : ℕ) (xs ys : List Step) → by_seat k (xs ++ ys) ≡ by_seat k xs ++ by_seat k ys
by_seat_both k [] ys = refl
by_seat_both k (x ∷ xs) ys = go (eqb (seat_of x) k) (by_seat_both k xs ys)
  where
    go : (b : Bool) → by_seat k (xs ++ ys) ≡ by_seat k xs ++ by_seat k ys
        → (if b then x ∷ by_seat k (xs ++ ys) else by_seat k (xs ++ ys))
        ≡ (if b then x ∷ by_seat k xs else by_seat k xs) ++ by_seat k ys
    go true e = ap (λ (l : List Step). x ∷ l) e
    go false e = e

-- a step stands first among those of its seat
mine_first : (k : ℕ) (x : Step) (xs : List Step) → seat_of x ≡ k → by_seat k (x ∷ xs) ≡ x ∷ by_seat k xs
mine_first k x xs mine = ap (λ (b : Bool). if b then x ∷ by_seat k xs else by_seat k xs) (eq-eqb (seat_of x) k mine)

-- and is none of another's
other_first : (k : ℕ) (x : Step) (xs : List Step) → seat_of x ≢ k → by_seat k (x ∷ xs) ≡ by_seat k xs
other_first k x xs other = ap (λ (b : Bool). if b then x ∷ by_seat k xs else by_seat k xs) (ne_eqb (seat_of x) k other)

none_longer : (x : Step) (xs : List Step) → x ∷ xs ≡ [] → ⊥
none_longer x xs e = let no = ap length e in absurd (omega (arith, no))

-- the seat of the first step of a list is one that made a step
first_by : (P : ℕ → Type 0) (x : Step) (xs : List Step) → ((j : ℕ) → (by_seat j (x ∷ xs) ≡ []) ⊎ P j) → P (seat_of x)
first_by P x xs each = ⊎_elim
    (λ (e : by_seat (seat_of x) (x ∷ xs) ≡ []). absurd
    (none_longer x (by_seat (seat_of x) xs) (sym (mine_first (seat_of x) x xs refl) ∙ e))) (λ (p : P (seat_of x)). p) (each (seat_of x))

-- steps of no other seat are all steps of this one
only_mine : (k : ℕ) (xs : List Step) → ((j : ℕ) → j ≢ k → by_seat j xs ≡ []) → by_seat k xs ≡ xs
only_mine k [] others = refl
only_mine k (x ∷ xs) others =
    let mine = first_by (λ j. j ≡ k) x xs (λ j. dite (ℕ_discrete j k) (λ e. inr e) (λ n. inl (others j n))) in
    mine_first k x xs mine ∙ ap (λ (l : List Step). x ∷ l)
    (only_mine k xs (λ j n. sym (other_first j x xs (λ e. n (sym e ∙ mine))) ∙ others j n))

-- each step of the list is of this seat
abbrev AllBy : ℕ → List Step → Type 0
AllBy k [] = Unit {0}
AllBy k (x ∷ xs) = (seat_of x ≡ k) × AllBy k xs

-- where the steps of a list are one release and those of one other seat, it stands somewhere among these
record Woven (k : ℕ) (r : Step) (xs : List Step) : Type 0 where
  pub first : List Step
  pub others : List Step
  pub is : xs ≡ first ++ r ∷ others
  pub parts : by_seat k xs ≡ first ++ others
  pub mine : AllBy k first

woven : (k : ℕ) (r : Step) (xs : List Step) → k ≢ 0 → seat_of r ≡ 0 → by_seat 0 xs ≡ r ∷ []
    → ((j : ℕ) → j ≢ 0 → j ≢ k → by_seat j xs ≡ []) → Woven k r xs
woven k r [] far zero_is one others = absurd (none_longer r [] (sym one))
woven k r (x ∷ xs) far zero_is one others =
    dite (ℕ_discrete (seat_of x) 0) (λ e. here e) (λ n. behind (woven k r xs far zero_is) n)
  where
    here : seat_of x ≡ 0 → Woven k r (x ∷ xs)
    here e =
        let both : x ∷ by_seat 0 xs ≡ r ∷ [] = sym (mine_first 0 x xs e) ∙ one in
        let same : x ≡ r = ap (λ (l : List Step). head_of l r) both in
        let none_left : by_seat 0 xs ≡ [] = ap (λ (l : List Step). tail_of l) both in
        let all = only_mine k xs (λ j n. dite (ℕ_discrete j 0) (λ z. ap (λ (i : ℕ). by_seat i xs) z ∙ none_left)
        (λ z. sym (other_first j x xs (λ w. z (sym w ∙ e))) ∙ others j z n)) in
        record {
          first = [];
          others = xs;
          is = ap (λ (y : Step). y ∷ xs) same;
          parts = other_first k x xs (λ w. far (sym w ∙ e)) ∙ all;
          mine = tt;
        }
      where
        head_of : List Step → Step → Step
        head_of [] d = d
        head_of (y ∷ ys) d = y

        tail_of : List Step → List Step
        tail_of [] = []
        tail_of (y ∷ ys) = ys

    behind : (by_seat 0 xs ≡ r ∷ [] → ((j : ℕ) → j ≢ 0 → j ≢ k → by_seat j xs ≡ []) → Woven k r xs) → seat_of x ≢ 0
        → Woven k r (x ∷ xs)
    behind again n =
        let mine : seat_of x ≡ k = first_by (λ j. (j ≢ 0) → j ≡ k) x xs
        (λ j. dite (ℕ_discrete j 0) (λ z. inr (λ w. absurd (w z)))
        (λ z. dite (ℕ_discrete j k) (λ e. inr (λ w. e)) (λ w. inl (others j z w)))) n in
        let rest = again (sym (other_first 0 x xs n) ∙ one)
        (λ j z w. sym (other_first j x xs (λ e. w (sym e ∙ mine))) ∙ others j z w) in
        record {
          first = x ∷ rest.first;
          others = rest.others;
          is = ap (λ (l : List Step). x ∷ l) rest.is;
          parts = mine_first k x xs mine ∙ ap (λ (l : List Step). x ∷ l) rest.parts;
          mine = (mine, rest.mine);
        }

-- ---- runs

-- the end of a legal list is legal where its beginning leads to
pub legal_behind : (g : Setting) (h : State) (xs ys : List Step) → Legal g h (xs ++ ys) → Legal g (run g h xs) ys
legal_behind g h [] ys legal = legal
legal_behind g h (x ∷ xs) ys legal = legal_behind g (after g h x) xs ys legal.1

-- and is run from there
pub run_behind : (g : Setting) (h : State) (xs ys : List Step) → run g h (xs ++ ys) ≡ run g (run g h xs) ys
run_behind g h [] ys = refl
run_behind g h (x ∷ xs) ys = run_behind g (after g h x) xs ys

-- ---- a release and the steps of a worker

-- a give by another seat than 0 takes nothing
must_none : (g : Setting) (h : State) (k p : ℕ) → k ≢ 0 → must_take g h k p ≡ 0
must_none g h k p far = go (nat_eq k 0) (ne_eqb k 0 far)
  where
    go : (b : Bool) → b ≡ false
        → (if b && not (visited h p) then count_due h.due (outbox (line g.lines p) (cell h p)) else 0) ≡ 0
    go true e = absurd (clash true refl e)
    go false e = refl

-- what a worker's step and a release leave is the same in either order, and so is what they ask
record PassesOne (g : Setting) (h : State) (x : Step) (n : ℕ) : Type 0 where
  pub first : Allowed g (after g h (Release n)) x
  pub others : Allowed g (after g h x) (Release n)
  pub same : after g (after g h (Release n)) x ≡ after g (after g h x) (Release n)

module _ (g : Setting) (h : State) (n : ℕ) (allowed : Allowed g h (Release n)) where
  -- a release reads what is due, visited and gathered, and how many processes there are
  release_on : (z : State) → z.due ≡ h.due → z.visited ≡ h.visited → z.gather ≡ h.gather → length z.cells ≡ length h.cells
      → Allowed g z (Release n)
  release_on z due visits gather cells =
      let no_test = none_holds (table g h (Release n)) allowed in
      no_reason (table g z (Release n)) (
        ap (λ (d : Due). not (is_due d)) due ∙ no_test 0,
        (
          (λ i. any_below (cells i) (λ p. not (get_or (visits i) p false))) ∙ no_test 1,
          (ap (λ (es : List TimedMessage). not (nat_eq n (length es))) gather ∙ no_test 2, tt),
        ),
      )

  -- a look of a worker visits nothing
  look_visits : (k p : ℕ) → k ≢ 0 → visits_by_look h k p ≡ h.visited
  look_visits k p far = ap (λ (b : Bool). if b && has_nothing (cell h p).tag then set h.visited p true else h.visited) (ne_eqb k 0 far)

  -- nor does its give
  give_visits : (z : State) → z.visited ≡ h.visited → (k p : ℕ) → k ≢ 0 → visits_by_give z k p ≡ h.visited
  give_visits z same k p far =
      ap (λ (b : Bool). if b && is_due z.due then set z.visited p true else z.visited) (ne_eqb k 0 far) ∙ same

  -- and what it takes is nothing
  takes_nothing : (k p t m now : ℕ) (ends : Bool) → k ≢ 0 → Allowed g h (Give k p t m now ends)
      → take t (outbox (line g.lines p) (cell h p)) ≡ []
  takes_nothing k p t m now ends far may =
      ap (λ (j : ℕ). take j (outbox (line g.lines p) (cell h p)))
      ((given_may g h k p t m now ends may).take ∙ must_none g h k p far) ∙ take_none (outbox (line g.lines p) (cell h p))

  passes_one : (x : Step) → seat_of x ≢ 0 → Allowed g h x → PassesOne g h x n
  passes_one (Look k p) far may = record {
    first = may;
    others = release_on (after g h (Look k p)) refl (look_visits k p far) refl refl;
    same = refl;
  }
  passes_one (Claim k p) far may = record {
    first = may;
    others = release_on (after g h (Claim k p)) refl refl refl (length-set h.cells p _);
    same = refl;
  }
  passes_one (Start k p) far may = record {
    first = may;
    others = release_on (after g h (Start k p)) refl refl refl (length-set h.cells p _);
    same = refl;
  }
  passes_one (Record k p) far may = record {
    first = may;
    others = release_on (after g h (Record k p)) refl refl refl (length-set h.cells p _);
    same = refl;
  }
  passes_one (Recall k p) far may = record { first = may; others = allowed; same = refl }
  passes_one (Give k p t m now ends) far may =
      let q = given_may g h k p t m now ends may in
      let z : State = after g h (Give k p t m now ends) in
      let nothing = takes_nothing k p t m now ends far may in
      let gather : z.gather ≡ h.gather = ap (λ (es : List TimedMessage). h.gather ++ es) nothing ∙ append-nil h.gather in
      record {
        first = may_give g (after g h (Release n)) k p t m now ends (record {
          seat = q.seat;
          process = q.process;
          held = q.held;
          take = q.take ∙ (must_none g h k p far ∙ sym (must_none g (after g h (Release n)) k p far));
          fits = q.fits;
          none_more = q.none_more;
          low = q.low;
          roomy = q.roomy;
          on = q.on;
          within = q.within;
          same = q.same;
          stays = q.stays;
          whole = q.whole;
          at_end = q.at_end;
          recorded = q.recorded;
        });
        others = release_on z refl (give_visits h refl k p far) gather (length-set h.cells p _);
        same = λ i. record {
          cells = z.cells;
          floor = h.floor;
          desks = h.desks;
          due = Nothing;
          visited = (give_visits (after g h (Release n)) refl k p far ∙ sym (give_visits h refl k p far)) i;
          gather = nothing i;
          released = h.released ++ sorted (sym gather i);
        };
      }
  passes_one Publish far may = absurd (far refl)
  passes_one (Pace k) far may = record { first = may; others = release_on (after g h (Pace k)) refl refl refl refl; same = refl }
  passes_one (Release m) far may = absurd (far refl)

-- a release before steps of a worker leads to where it leads behind some of them
passes : (g : Setting) (h : State) (k n : ℕ) (xs ys : List Step) → k ≢ 0 → AllBy k xs → Allowed g h (Release n)
    → Legal g h (xs ++ Release n ∷ ys)
    → Legal g (after g h (Release n)) (xs ++ ys)
    × (run g (after g h (Release n)) (xs ++ ys) ≡ run g h (xs ++ Release n ∷ ys))
passes g h k n [] ys far mine allowed legal = (legal.1, refl)
passes g h k n (x ∷ xs) ys far mine allowed legal =
    let one = passes_one g h n allowed x (λ e. far (sym mine.0 ∙ e)) legal.0 in
    let more = passes g (after g h x) k n xs ys far mine.1 one.others legal.1 in (
      (one.first, subst (λ (z : State). Legal g z (xs ++ ys)) (sym one.same) more.0),
      ap (λ (z : State). run g z (xs ++ ys)) one.same ∙ more.1,
    )

-- ---- the two tables

module _ (a : About) (s t : Table) (steps : List Step) (k : StandsForSome a s) (l : StandsForSome a t) (f : Follows s t steps) where
  abbrev old : List Step
  old = k.history.steps

  abbrev new : List Step
  new = l.history.steps

  -- the second run, told apart: the steps stand behind the first run; or that ends with a release, which another seat than 0
  -- has passed by with some of them
  abbrev Parted : Type 0
  Parted = (new ≡ old ++ steps) ⊎ ((q : TakesIn old new steps) × AllBy f.seat q.first × (f.seat ≢ 0))

  there_still : (j : ℕ) (m : Mind) → j ≢ f.seat → get_elem? s.views j ≡ some m → get_elem? t.views j ≡ some m
  there_still j m other e = ap (λ (vs : List Mind). get_elem? vs j) f.is ∙ (set_else s.views f.seat j f.new other ∙ e)

  there_now : get_elem? t.views f.seat ≡ some f.new
  there_now = ap (λ (vs : List Mind). get_elem? vs f.seat) f.is ∙ set_here s.views f.seat f.new (at_below s.views f.seat f.old f.was)

  -- the others made none
  others_same : (j : ℕ) → j ≢ f.seat → by_seat j new ≡ by_seat j old
  others_same j other = by_case (cases_lt j (length s.views))
    where
      by_case : (j < length s.views) ⊎ (length s.views ≤ j) → by_seat j new ≡ by_seat j old
      by_case (inl made) =
          let v = there_is s.views j made in
          sym (l.history.made j v.0 (there_still j v.0 other v.1)) ∙ k.history.made j v.0 v.1
      by_case (inr far) =
          let long = ap (λ (vs : List Mind). length vs) f.is ∙ length-set s.views f.seat f.new in
          l.history.none j (omega (arith, long, far)) ∙ sym (k.history.none j far)

  -- the seat made these
  own_more : by_seat f.seat new ≡ by_seat f.seat old ++ steps
  own_more =
      sym (l.history.made f.seat f.new there_now)
      ∙ (f.made ∙ ap (λ (xs : List Step). xs ++ steps) (k.history.made f.seat f.old f.was))

  -- who had seen the first run has seen as much, so the second begins with it
  begins : BeginsWith new k.history.whole.mind.log.seen
  begins = dite (ℕ_discrete k.history.whole.seat f.seat) here (λ (n : k.history.whole.seat ≢ f.seat).
      l.history.seen k.history.whole.seat k.history.whole.mind
      (there_still k.history.whole.seat k.history.whole.mind n k.history.whole.is))
    where
      here : k.history.whole.seat ≡ f.seat → BeginsWith new k.history.whole.mind.log.seen
      here e =
          let same : f.old ≡ k.history.whole.mind = some-injective f.old k.history.whole.mind
          (sym f.was ∙ (ap (λ (j : ℕ). get_elem? s.views j) (sym e) ∙ k.history.whole.is)) in
          let all = l.history.seen f.seat f.new there_now in
          subst (λ (m : Mind). BeginsWith new m.log.seen) same
          (f.order.0 ++ all.0, all.1 ∙ (ap (λ (xs : List Step). xs ++ all.0) f.order.1 ∙ append_assoc f.old.log.seen f.order.0 all.0))

  -- what stands behind a common beginning, by its seats
  behind : (xs zs ys : List Step) → new ≡ xs ++ zs → old ≡ xs ++ ys
      → ((j : ℕ) → j ≢ f.seat → by_seat j zs ≡ by_seat j ys) × (by_seat f.seat zs ≡ by_seat f.seat ys ++ steps)
  behind xs zs ys is was = (
    (λ j other. append_cancel_left (by_seat j xs) (by_seat j zs) (by_seat j ys)
        (sym (by_seat_both j xs zs) ∙ (ap (by_seat j) (sym is) ∙ (others_same j other ∙ (ap (by_seat j) was ∙ by_seat_both j xs ys))))),
    append_cancel_left (by_seat f.seat xs) (by_seat f.seat zs) (by_seat f.seat ys ++ steps)
        (sym (by_seat_both f.seat xs zs) ∙ (ap (by_seat f.seat) (sym is) ∙ (own_more
        ∙ (ap (λ (m : List Step). m ++ steps) (ap (by_seat f.seat) was ∙ by_seat_both f.seat xs ys)
        ∙ append_assoc (by_seat f.seat xs) (by_seat f.seat ys) steps)))),
  )

  -- what that was, and what stands behind it in the second
  abbrev seen : List Step
  seen = k.history.whole.mind.log.seen

  abbrev more : List Step
  more = begins.0

  parted : Parted
  parted = by_case k.history.whole.all
    where
      by_case : (old ≡ seen) ⊎ ((n : ℕ) × (old ≡ seen ++ Release n ∷ [])) → Parted
      by_case (inl all) =
          let apart = behind seen more [] begins.1 (all ∙ sym (append-nil seen)) in
          let mine = only_mine f.seat more apart.0 in
          inl (begins.1 ∙ (λ i. (sym all i) ++ (sym mine ∙ apart.1) i))
      by_case (inr last) = dite (ℕ_discrete f.seat 0) (λ e. first_seat (Release last.0) refl last.1 e) (λ n. another last.0 last.1 n)
        where
          apart : (r : Step) → old ≡ seen ++ r ∷ []
              → ((j : ℕ) → j ≢ f.seat → by_seat j more ≡ by_seat j (r ∷ [])) × (by_seat f.seat more ≡ by_seat f.seat (r ∷ []) ++ steps)
          apart r is = behind seen more (r ∷ []) begins.1 is

          first_seat : (r : Step) → seat_of r ≡ 0 → old ≡ seen ++ r ∷ [] → f.seat ≡ 0 → Parted
          first_seat r zero_is was e =
              let two = apart r was in
              let own : seat_of r ≡ f.seat = zero_is ∙ sym e in
              let mine = only_mine f.seat more (λ j n. two.0 j n ∙ other_first j r [] (λ z. n (sym z ∙ own))) in
              let all : more ≡ r ∷ steps = sym mine ∙ (two.1 ∙ ap (λ (xs : List Step). xs ++ steps) (mine_first f.seat r [] own)) in
              inl (begins.1 ∙ (ap (λ (xs : List Step). seen ++ xs) all
              ∙ (sym (append_assoc seen (r ∷ []) steps) ∙ ap (λ (xs : List Step). xs ++ steps) (sym was))))

          another : (n : ℕ) → old ≡ seen ++ Release n ∷ [] → f.seat ≢ 0 → Parted
          another n was far =
              let r : Step = Release n in
              let two = apart r was in
              let one = two.0 0 (λ e. far (sym e)) ∙ mine_first 0 r [] refl in
              let w = woven f.seat r more far refl one (λ j z o. two.0 j o ∙ other_first j r [] (λ e. z (sym e))) in
              inr (
                record {
                  before = seen;
                  count = n;
                  first = w.first;
                  others = w.others;
                  was = was;
                  parts = sym (two.1 ∙ ap (λ (xs : List Step). xs ++ steps) (other_first f.seat r [] (λ e. far (sym e)))) ∙ w.parts;
                  is = begins.1 ∙ ap (λ (xs : List Step). seen ++ xs) w.is;
                },
                w.mine,
                far,
              )

  abbrev g : Setting
  g = setting a

  -- the steps lead from the state before to the state after
  pub core_step_by_step : LeadsTo a s t k l steps
  core_step_by_step = by_case parted
    where
      by_case : Parted → LeadsTo a s t k l steps
      by_case (inl e) =
          let legal = legal_behind g (beginning a) old steps (subst (Legal g (beginning a)) e l.history.legal) in
          let to = run_behind g (beginning a) old steps in
          record {
            legal = subst (λ (z : State). Legal g z steps) k.history.ends legal;
            after = ap (λ (z : State). run g z steps) (sym k.history.ends)
                ∙ (sym to ∙ (ap (run g (beginning a)) (sym e) ∙ l.history.ends));
          }
      by_case (inr y) =
          let q = y.0 in
          let r : Step = Release q.count in
          let h : State = run g (beginning a) q.before in
          let may = legal_behind g (beginning a) q.before (r ∷ []) (subst (Legal g (beginning a)) q.was k.history.legal) in
          let legal = legal_behind g (beginning a) q.before (q.first ++ r ∷ q.others) (subst (Legal g (beginning a)) q.is l.history.legal) in
          let both = passes g h f.seat q.count q.first q.others y.2 y.1 may.0 legal in
          let here : k.core ≡ after g h r =
          sym k.history.ends ∙ (ap (run g (beginning a)) q.was ∙ run_more g (beginning a) q.before r) in
          let there : run g h (q.first ++ r ∷ q.others) ≡ l.core =
          sym (run_behind g (beginning a) q.before (q.first ++ r ∷ q.others)) ∙ (ap (run g (beginning a)) (sym q.is) ∙ l.history.ends) in
          record {
            legal = subst (λ (y : State × List Step). Legal g y.0 y.1) (λ i. (sym here i, sym q.parts i)) both.0;
            after = (λ i. run g (here i) (q.parts i)) ∙ (both.1 ∙ there);
          }

  -- and the run goes on with them
  pub run_step_by_step : GoesOnBy old new steps
  run_step_by_step = by_case parted
    where
      by_case : Parted → GoesOnBy old new steps
      by_case (inl e) = inl e
      by_case (inr y) = inr y.0
