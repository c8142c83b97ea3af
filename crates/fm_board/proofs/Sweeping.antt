-- What a seat keeps of its sweep is its sweep.
use Rattle.std.proofs.Common.{◌≡◌, ℕ, ◌<◌, ◌≤◌, List, [], ◌∷◌, ◌++◌, length, Bool, true, false, refl, sym, ap, ◌∙◌, subst, arith, eqb-true, length-append}
use Rattle.std.specs.Prelude.{nat_eq, if◌then◌else◌}
use Rattle.fm_line.specs.Line.{line}
use Rattle.fm_core.specs.Sweep.{sight_at, swept}
use Rattle.fm_core.specs.declared.sight.Sight.{Sight as Look}
use Rattle.fm_core.specs.declared.tag.Tag.{Tag}
use Rattle.fm_program.specs.Parts.{PlanParts}
use Rattle.fm_program.specs.Process.{plan_lines}
use Rattle.fm_board.specs.declared.view.Log.{Log}
use Rattle.fm_board.specs.declared.view.Mind.{Mind}
use Rattle.fm_board.specs.declared.view.View.{View}
use Rattle.fm_board.specs.Minds.{spotted}
use Rattle.fm_board.specs.Plays.{Holder}
use Rattle.fm_board.specs.Seats.{carried}
use Rattle.fm_board.specs.View.{InTurn, entered, is_over, looked}
use Rattle.fm_board.proofs.Steps.{Tidy}

-- a sweep has at most one look a process
swept_within : (xs : List Look) (p n : ℕ) (x : Look) → p < n → length xs ≤ n → length (swept xs p x) ≤ n
swept_within xs p n x near within = go (nat_eq p 0) (nat_eq p (length xs)) refl refl
  where
    go : (first next : Bool) → nat_eq p 0 ≡ first → nat_eq p (length xs) ≡ next
        → length (if first then x ∷ [] else if next then xs ++ x ∷ [] else xs) ≤ n
    go true next e f = omega (arith, near)
    go false true e f = let at = eqb-true p (length xs) f in omega (arith, length-append xs (x ∷ []), at, near)
    go false false e f = within

-- after a look
pub looked_tidy : (n : ℕ) (o : Bool) (xs xs' lent : List Look) (c c' p k r : ℕ) (t : Tag) (m m' : Holder) (y : Mind) (pl : PlanParts)
    (x : Look) (made : Log) (ps : List ℕ)
    → Tidy n o xs c m → m.0 ≡ y → InTurn y.view p → y.view.plan ≡ pl → m'.0 ≡ spotted m.0 p t k r (looked m.0.view p t k) made → m'.1 ≡ m.1
    → lent ≡ xs → ps ≡ (line (plan_lines pl) p).predecessors → x ≡ sight_at t k lent ps → xs' ≡ swept xs p x → c' ≡ c → Tidy n o xs' c' m'
looked_tidy n o xs xs' lent c c' p k r t m m' y pl x made ps tidy is turn plan now out lends waits seen enters space =
    let v : View = m.0.view in
    let old = tidy.4 in
    let plans : pl ≡ v.plan = sym (ap (λ (z : Mind). z.view.plan) is ∙ plan) in
    let near : p < length v.plan.programs = subst (λ (z : Mind). p < length z.view.plan.programs) (sym is) turn.there in
    let look : x ≡ entered v p t k =
    seen
    ∙ ap (λ zs. sight_at t k zs ps) (lends ∙ old.same)
    ∙ ap (λ qs. sight_at t k v.sweep qs) (waits ∙ ap (λ q. (line (plan_lines q) p).predecessors) plans) in
    let sweep : m'.0.view.sweep ≡ swept v.sweep p (entered v p t k) = ap (λ (z : Mind). z.view.sweep) now in
    let holds : m'.0.view.holds ≡ v.holds = ap (λ (z : Mind). z.view.holds) now in
    let many : length m'.0.view.plan.programs ≡ length v.plan.programs = ap (λ (z : Mind). length z.view.plan.programs) now in (
      tidy.0 ∙ sym (ap (λ (z : Mind). z.view.number) now),
      tidy.1,
      out ∙ (tidy.2 ∙ ap carried (sym holds)),
      λ some. tidy.3 (λ none. some (holds ∙ none)) ∙ ap is_over (sym holds),
      record {
        same = enters ∙ ((λ j. swept (old.same j) p (look j)) ∙ sym sweep);
        space = let was = old.space in omega (arith, was, many, space);
        within =
            let top = swept_within v.sweep p (length v.plan.programs) (entered v p t k) near old.within in
            omega (arith, top, many, ap length sweep);
        few = let was = old.few in omega (arith, was, many);
      },
    )
