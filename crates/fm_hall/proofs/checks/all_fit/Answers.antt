-- One that is not as it must be is found, or there is none.
use Rattle.std.proofs.Common.{rules, ◌≡◌, ℕ, suc, ◌<◌, Bool, true, false, length, refl, sym, subst, arith}
use Rattle.std.proofs.lemmas.Bool.{both_ways}
use native.Mathlib.Decide.{ℕ_discrete}
use mathlib.Core.Logic.{dite}
use Rattle.fm_line.specs.Validity.{line_valid}
use Rattle.fm_line.proofs.NumberTests.{each_below_at, each_below_from}
use Rattle.fm_hall.proofs.checks.all_fit.Goals as goal

-- a test that cannot hold does not
never : (b : Bool) → (b ≡ true → ⊥) → b ≡ false
never true cannot = absurd (cannot refl)
never false cannot = refl

-- one more that is as it must be
one_more : (f : ℕ → Bool) (p : ℕ) → f p ≡ true → ((q : ℕ) → q < p → f q ≡ true) → (q : ℕ) → q < suc p → f q ≡ true
one_more f p here before_it q lt = dite (ℕ_discrete q p) (λ e. subst (λ (r : ℕ). f r ≡ true) (sym e) here)
    (λ d. before_it q (omega arith))

pub returns-then-not-does_fit : goal.returns-then-not-does_fit
returns-then-not-does_fit c =
    let ls = c.args.lines.now in let p = c.loop-i.i in
    let here : line_valid ls p ≡ false = search rules in
    sym (never _ (λ all. both_ways _ here (each_below_at (length ls) p (line_valid ls) all c.loop-i-test.true)))

pub loop-i-preserved : goal.loop-i-preserved
loop-i-preserved c =
    let ls = c.args.lines.now in let p = c.loop-i.i in
    λ q lt. one_more (line_valid ls) p (search rules) c.loop-i.invariant q (omega arith)

pub returns : goal.returns
returns c =
    let ls = c.args.lines.now in let past = c.loop-i-test.false in
    sym (each_below_from (length ls) (line_valid ls) (λ q lt. c.loop-i.invariant q (omega arith)))
