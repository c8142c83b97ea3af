-- A new board stands for the opening, and so does one with a seat more.
use Rattle.std.proofs.Common.{◌≡◌, ◌≢◌, ◌⊎◌, ℕ, zero, suc, ◌+◌, ◌-◌, ◌*◌, ◌<◌, ◌≤◌, List, [], ◌∷◌, ◌++◌, length, map, get_or, set, replicate, Bool, true, false, Option, Some, refl, sym, ap, ◌∙◌, subst, ⊎_elim, inl, inr, arith, length-set, get_or-set_same, get_or-set_other}
use Rattle.std.specs.Prelude.{nat_eq}
use mathlib.Core.Option.{some, some-ne-none, some-injective}
use lib.ListN.{get_elem?}
use Rattle.std.proofs.lemmas.List.{length-replicate, length-map}
use Rattle.fm_line.specs.Line.{line}
use Rattle.fm_core.specs.Taking.{outbox}
use Rattle.fm_program.specs.Parts.{PlanParts}
use Rattle.fm_strand.specs.Course.{steps_of}
use Rattle.std.specs.Prelude.{All}
use Rattle.std.proofs.lemmas.List.Elements.{All-nil}
use Rattle.atomic_table.specs.Table.{opening}
use Rattle.fm_core.proofs.Elements.{same_all, take_none}
use Rattle.fm_core.proofs.Opening.{opening_sound}
use Rattle.fm_core.specs.State.{State, cell, cell_in, no_desk, root, unborn}
use Rattle.fm_core.specs.State as state
use Rattle.fm_core.specs.Tags.{is_unborn}
use Rattle.fm_core.specs.declared.cell.Cell.{Cell}
use Rattle.fm_program.proofs.Lines.{plan-lines-length}
use Rattle.fm_program.specs.Process.{plan_lines}
use Rattle.fm_board.specs.declared.about.About.{About}
use Rattle.fm_board.specs.declared.deposit.Deposit.{Deposit}
use Rattle.fm_board.specs.declared.view.Mind.{Mind}
use Rattle.fm_board.specs.Minds.{all_lefts, first_mind, lefts_from}
use Rattle.fm_board.specs.StandsFor.{AtHome, Going, IsSeat, Shown, StandsForSome, count, halt_at, setting}
use Rattle.fm_board.specs.Words.{spelt, word_at}
use Rattle.fm_board.proofs.Looks.{valid_of}
use Rattle.fm_strand.specs.declared.strand.Strand.{Strand}
use Rattle.fm_strand.specs.Strand.{steps_left}

-- the slots of a new board
pub record IsStocked (a : About) (rooms : List (Option Deposit)) : Type 0 where
  pub many : length rooms ≡ count a
  pub each : (j : ℕ) → j < count a
      → (stock : Deposit) × (get_elem? rooms j ≡ some (Some stock))
      × AtHome a j (cell_in (root ∷ replicate (count a - 1) unborn) j) stock
  pub first : (j : ℕ) (stock : Deposit) (x : Strand) → get_elem? rooms j ≡ some (Some stock) → stock.strand ≡ Some x
      → (j ≡ 0) × (steps_left a.plan x ≡ steps_of a.plan 0)

pub at_opening : (P : ℕ → Cell → Type 0) (n : ℕ) → P 0 root → ((q : ℕ) → P (suc q) unborn) → (p : ℕ)
    → P p (cell_in (root ∷ replicate (n - 1) unborn) p)
at_opening P n a b zero = a
at_opening P n a b (suc q) = subst (P (suc q)) (sym (same_all (n - 1) q unborn)) (b q)

home_at : {A : Type 0} (xs : List A) (j : ℕ) (x : A) → get_elem? xs j ≡ some x → get_elem? (map some xs) j ≡ some (some x)
home_at [] j x e = absurd (some-ne-none x (sym e))
home_at (y ∷ ys) zero x e = ap (λ z. some (some z)) (some-injective y x e)
home_at (y ∷ ys) (suc j) x e = home_at ys j x e

only_one : (a b : Mind) (j : ℕ) → get_elem? (a ∷ []) j ≡ some b → (j ≡ 0) × (a ≡ b)
only_one a b zero e = (refl, some-injective a b e)
only_one a b (suc j) e = absurd (some-ne-none b (sym e))

pub snoc_cases : (l : List Mind) (a b : Mind) (j : ℕ) → get_elem? (l ++ a ∷ []) j ≡ some b
    → (get_elem? l j ≡ some b) ⊎ ((j ≡ length l) × (a ≡ b))
snoc_cases [] a b zero e = inr (refl, some-injective a b e)
snoc_cases [] a b (suc j) e = absurd (some-ne-none b (sym e))
snoc_cases (x ∷ xs) a b zero e = inl e
snoc_cases (x ∷ xs) a b (suc j) e = ⊎_elim (λ t. inl t) (λ (t : (j ≡ length xs) × (a ≡ b)). inr (ap suc t.0, t.1)) (snoc_cases xs a b j e)

pub none_known : (n p : ℕ) → ◌≡◌ {A = ℕ} (get_or (replicate n 0) p 0) 0
none_known n p = same_all n p 0

pub none_over : (n p : ℕ) → ◌≡◌ {A = Bool} (get_or (replicate n false) p false) false
none_over n p = same_all n p false

-- the steps that are left of the processes of a new board
abbrev first_left : About → ℕ → ℕ
first_left a zero = steps_of a.plan 0
first_left a (suc j) = steps_of a.plan (suc j) + 1

lefts_at : (p : PlanParts) (k n j : ℕ) → j < n → get_or (lefts_from p k n) j 0 ≡ steps_of p (k + j) + 1
lefts_at p k zero j lt = absurd (omega arith)
lefts_at p k (suc n) zero lt = ap (λ (z : ℕ). steps_of p z + 1) (omega arith)
lefts_at p k (suc n) (suc j) lt =
    lefts_at p (suc k) n j (omega (arith, lt)) ∙ ap (λ (z : ℕ). steps_of p z + 1) (omega arith)

-- a new seat knows of no fewer
pub fresh_left : (p : PlanParts) (j : ℕ) → j < length p.programs → steps_of p j < get_or (all_lefts p) j 0
unfolding all_lefts
fresh_left p j lt =
    let is = lefts_at p 0 (length p.programs) j lt in
    let at = ap (steps_of p) (let z : 0 + j ≡ j = omega arith in z) in omega (arith, is, at)

-- and it has a number for each process
pub length-lefts : (p : PlanParts) → length (all_lefts p) ≡ length p.programs
unfolding all_lefts
length-lefts p = go 0 (length p.programs)
  where
    go : (k n : ℕ) → length (lefts_from p k n) ≡ n
    go k zero = refl
    go k (suc n) = let r = go (suc k) n in omega (arith, r)

map_back : {A : Type 0} (xs : List A) (j : ℕ) (x : A) → get_elem? (map some xs) j ≡ some (some x) → get_elem? xs j ≡ some x
map_back [] j x e = absurd (some-ne-none (some x) (sym e))
map_back (y ∷ ys) zero x e = some-injective (some y) (some x) e
map_back (y ∷ ys) (suc j) x e = map_back ys j x e

first_going : (a : About) (rooms : List (Option Deposit)) → IsStocked a rooms → (ws : List ℕ) (h : State)
    → h.cells ≡ root ∷ replicate (length (plan_lines a.plan) - 1) unborn
    → Going a (record { words = ws; homes = map some rooms; views = first_mind a ∷ [] }) h
first_going a rooms stocked ws h cells = record {
  left = first_left a;
  home = λ j stock x there is. let one = stocked.first j stock x (map_back rooms j (Some stock) there) is in
      one.1 ∙ ap (first_left a) (sym one.0);
  held = λ j v e x holds. let no = ap (λ (y : Mind). y.view.holds) (only_one (first_mind a) v j e).1 ∙ holds in absurd (cc);
  known = λ j v e p lt. subst (λ (y : Mind). first_left a p ≤ get_or y.left p 0) (only_one (first_mind a) v j e).1 (few p lt);
  most = λ p lt. by_number p;
  born = λ p lt. subst (λ (cs : List Cell). is_unborn (cell_in cs p).tag ≡ false → first_left a p ≤ steps_of a.plan p) (sym cells)
      (at_opening (λ p c. is_unborn c.tag ≡ false → first_left a p ≤ steps_of a.plan p) (length (plan_lines a.plan))
      (λ b. omega arith) (λ q b. absurd (cc)) p);
  unborn = λ p lt. subst (λ (cs : List Cell). is_unborn (cell_in cs p).tag ≡ true → steps_of a.plan p < first_left a p) (sym cells)
      (at_opening (λ p c. is_unborn c.tag ≡ true → steps_of a.plan p < first_left a p) (length (plan_lines a.plan))
      (λ b. absurd (cc)) (λ q b. omega arith) p);
  early = λ p lt. subst (λ (cs : List Cell). All (λ e. e.time ≤ (cell_in cs p).clock) (outbox (line (plan_lines a.plan) p) (cell_in cs p)))
      (sym cells)
      (at_opening (λ p c. All (λ e. e.time ≤ c.clock) (outbox (line (plan_lines a.plan) p) c)) (length (plan_lines a.plan))
      (subst (All (λ e. e.time ≤ 0)) (sym (take_none (line (plan_lines a.plan) 0).events)) (All-nil (λ e. e.time ≤ 0)))
      (λ q. subst (All (λ e. e.time ≤ 0)) (sym (take_none (line (plan_lines a.plan) (suc q)).events)) (All-nil (λ e. e.time ≤ 0))) p);
}
  where
    by_number : (p : ℕ) → first_left a p ≤ steps_of a.plan p + 1
    by_number zero = omega arith
    by_number (suc p) = omega arith

    few : (p : ℕ) → p < count a → first_left a p ≤ get_or (all_lefts a.plan) p 0
    few zero lt = let is = fresh_left a.plan 0 lt in omega (arith, is)
    few (suc p) lt = let is = fresh_left a.plan (suc p) lt in omega (arith, is)

-- a new board stands for the opening
pub opens : (a : About) (rooms : List (Option Deposit)) → IsStocked a rooms
    → StandsForSome a (opening (set (replicate (2 + 10 * count a) 0) 1 1) rooms (first_mind a))
opens a rooms stocked =
    let n : ℕ = length (plan_lines a.plan) in
    let h : State = state.opening n a.seats in
    let lined : n ≡ count a = plan-lines-length a.plan in
    let crew = a.crew.0 in
    let some_line : 0 < n = (valid_of a).lines.some in
    let sound = opening_sound (setting a) a.seats (valid_of a) crew in
    let cells : length h.cells ≡ count a = sound.lined ∙ lined in
    let ws : List ℕ = set (replicate (2 + 10 * count a) 0) 1 1 in
    let wide : length (replicate (2 + 10 * count a) 0) ≡ 2 + 10 * count a = length-replicate {A = ℕ} (2 + 10 * count a) 0 in
    let nothing : (i : ℕ) → i ≢ 1 → get_or ws i 0 ≡ 0 =
    (λ i e. get_or-set_other (replicate (2 + 10 * count a) 0) 1 i 1 0 e ∙ none_known (2 + 10 * count a) i) in
    let bare : (k : ℕ) (p : ℕ) → state.held_by k (cell h p) ≡ false =
    (λ k. at_opening (λ p c. state.held_by k c ≡ false) n refl (λ q. refl)) in
    record {
      core = h;
      sound = sound;
      stands = record {
        crew = length-replicate a.seats no_desk;
        words = record {
          many = length-set (replicate (2 + 10 * count a) 0) 1 1 ∙ wide;
          floor = nothing 0 (λ e. absurd (omega arith));
          low = omega arith;
          spelt = λ j lt. at_opening (λ p c. get_or ws (word_at p) 0 ≡ spelt c) n
              (get_or-set_same (replicate (2 + 10 * count a) 0) 1 1 0 (omega (arith, wide)))
              (λ q. nothing (word_at (suc q)) (λ e. absurd (omega arith))) j;
          shown = λ j lt. at_opening (λ p c. Shown c) n (record { idle = λ e. refl; unborn = λ e. refl })
              (λ q. record { idle = λ e. refl; unborn = λ e. refl }) j;
          placed = λ j i lt done few. absurd (at_opening (λ p c. c.recorded ≡ true → ⊥) n (λ e. absurd (cc)) (λ q e. absurd (cc)) j done);
        };
        homes = record {
          many = length-map _ _ ∙ stocked.many;
          home = λ j lt free. let old = stocked.each j (omega (arith, cells, lt)) in (
            old.0,
            home_at rooms j (Some old.0) old.1,
            subst (λ (z : ℕ). AtHome a j (cell_in (root ∷ replicate (z - 1) unborn) j) old.0) (sym lined) old.2,
          );
        };
        views = record {
          viewed = λ j v e. let is = only_one (first_mind a) v j e in
              subst (λ (y : ℕ × Mind). IsSeat a h y.0 y.1) (λ i. (sym is.0 i, is.1 i)) (record {
                here = rw length-replicate crew;
                is = record {
                  plan = refl;
                  lead = refl;
                  seats = refl;
                  number = refl;
                  holds = λ p lt. bare 0 p;
                  sweep = rw (same_all a.seats 0 no_desk) refl;
                  paced = rw (same_all a.seats 0 no_desk) refl;
                };
                room = refl;
                zero = λ e. record {
                  lines = refl;
                  due = refl;
                  visited = ap (λ (z : ℕ). replicate z false) (sym lined);
                  gathered = refl;
                  released = refl;
                  published = refl;
                };
                wide = length-replicate (count a) false;
                known = λ p. let none_yet = none_known (count a) p in omega arith;
                over = λ p yes. let no = none_over (count a) p in absurd (cc);
              });
          unmade = λ j long lt. record { desk = same_all a.seats j no_desk; free = λ p less. bare j p };
          made = λ v e. ap (λ (y : Mind). y.made) (sym (only_one (first_mind a) v 0 e).1);
        };
        wrote = λ j v x i e holds. let no = ap (λ (y : Mind). y.view.holds) (only_one (first_mind a) v j e).1 ∙ holds in absurd (cc);
        halt = λ v e. ap (λ (z : ℕ). nat_eq z 1) (nothing (halt_at a) (λ e. absurd (omega (arith, e, lined, some_line))))
            ∙ ap (λ (y : Mind). y.view.halted) (only_one (first_mind a) v 0 e).1;
      };
      history = record {
        steps = [];
        legal = tt;
        ends = refl;
        made = λ j v e. ap (λ (y : Mind). y.log.mine) (sym (only_one (first_mind a) v j e).1);
        none = λ j long. refl;
        seen = λ j v e. ([], ap (λ (y : Mind). y.log.seen ++ []) (only_one (first_mind a) v j e).1);
        whole = record { seat = 0; mind = first_mind a; is = refl; all = inl refl };
      };
      going = first_going a rooms stocked ws h refl;
      alone = λ v e one near. absurd (let is = ap (λ (y : Mind). y.at) (only_one (first_mind a) v 0 e).1 in omega (arith, is, near));
    }
