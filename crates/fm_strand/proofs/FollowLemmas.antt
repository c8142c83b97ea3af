-- The clock of a strand and the events of its line, one event on.
use Rattle.std.proofs.Common.{◌≡◌, ap, subst, arith, ℕ, zero, suc, ◌+◌, ◌≤◌, List, [], ◌∷◌, ◌++◌, take}
use Rattle.fm_msg.specs.Event.{TimedMessage}
use Rattle.fm_line.specs.Line.{line}
use Rattle.fm_line.specs.Runs.{AllFrom}
use Rattle.fm_line.specs.Sounds.{Sound, clock_with}
use Rattle.fm_line.proofs.OutEager.{pick_from}
use Rattle.fm_program.specs.Parts.{PlanParts}
use Rattle.fm_program.specs.Process.{plan_lines}
use Rattle.fm_strand.specs.declared.strand.Strand.{Strand}

-- ---- the clock

-- where the program and all that waits are from a tick on, so is the clock
pub clock-from : (t u : ℕ) (ws : List Sound) → t ≤ u → AllFrom t ws → t ≤ clock_with u ws
clock-from t u [] below all = below
clock-from t u (w ∷ ws) below all = let first = pick_from t w ws all in omega arith

more_none : (x : TimedMessage) (xs : List TimedMessage) → x ∷ xs ≡ [] → ⊥
more_none x xs same = cc

tails : (x y : TimedMessage) (xs ys : List TimedMessage) → x ∷ xs ≡ y ∷ ys → xs ≡ ys
tails x y xs ys same = cc

followed-next : (g : ℕ) (all : List TimedMessage) (e : TimedMessage) (left : List TimedMessage) → take g all ++ e ∷ left ≡ all
    → take (suc g) all ++ left ≡ all
followed-next zero [] e left is = absurd (more_none e left is)
followed-next zero (a ∷ all) e left is = ap (λ (xs : List TimedMessage). a ∷ xs) (tails e a left all is)
followed-next (suc g) [] e left is = absurd (more_none e left is)
followed-next (suc g) (a ∷ all) e left is =
    ap (λ (xs : List TimedMessage). a ∷ xs) (followed-next g all e left (tails a a (take g all ++ e ∷ left) all is))

-- one event more was given of a list
pub followed-more : (g : ℕ) (all : List TimedMessage) (e : TimedMessage) (left : List TimedMessage) → take g all ++ e ∷ left ≡ all
    → take (g + 1) all ++ left ≡ all
followed-more g all e left is =
    subst (λ (n : ℕ). take n all ++ left ≡ all) (let one : suc g ≡ g + 1 = omega arith in one) (followed-next g all e left is)

-- where the line of a strand ends
abbrev pub end_of : PlanParts → Strand → ℕ
end_of p s = (line (plan_lines p) s.process).end
