-- The events so far and those of the next line are no more than all.
use Rattle.std.proofs.Common.{◌≡◌, ℕ, zero, suc, ◌≤◌, length, sym, ap, arith}
use Rattle.std.proofs.lemmas.Bool.{lt-leb}
use native.Mathlib.Decide.{ℕ_discrete}
use mathlib.Core.Logic.{dite}
use Rattle.fm_line.specs.Line.{line, sum_below, total}
use Rattle.fm_line.specs.declared.limits.TheConstants.{MAX_EVENTS}
use Rattle.fm_hall.proofs.checks.have_few_events.Goals as goal

-- a sum over fewer numbers is no greater
sum_rises : (n m : ℕ) (f : ℕ → ℕ) → n ≤ m → sum_below n f ≤ sum_below m f
sum_rises n zero f le = let z : n ≡ 0 = omega arith in rw z (omega arith)
sum_rises n (suc m) f le = dite (ℕ_discrete n (suc m)) (λ e. rw e (omega arith))
    (λ d. let before = sum_rises n m f (omega arith) in omega arith)

pub returns-then-space-more : goal.returns-then-space-more
returns-then-space-more c =
    let ls = c.args.lines.now in let p = c.loop-i.i in
    let more = ap length c.events_of-more.ensures in
    let so_far = c.loop-i.invariant.sum in
    let all = sum_rises (suc p) (length ls) (λ q. length (line ls q).events) (omega arith) in
    sym (lt-leb (total ls) MAX_EVENTS (omega arith))
