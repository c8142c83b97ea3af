-- What a search finds is there, and fits its rule.
use Rattle.std.proofs.Common.{◌≡◌, ℕ, length, true, sym, ◌∙◌}
use Rattle.fm_core.proofs.Below.{some_found}
use Rattle.fm_core.proofs.Booleans.{both}
use Rattle.fm_core.specs.State.{Setting, State, cell}
use Rattle.fm_core.specs.Tags.{is_held}
use Rattle.fm_progress.specs.Left.{can_lower}
use Rattle.fm_hall.proofs.choices.chosen_step.Goals as goal

-- what can be lowered is held
held_of : (g : Setting) (h : State) (p : ℕ) → can_lower g h p ≡ true → is_held (cell h p).tag ≡ true
held_of g h p can = (both (is_held (cell h p).tag) _ can).0

pub lowering-requires-clause-process : goal.lowering-requires-clause-process
lowering-requires-clause-process c =
    let g = c.args.rules.now in let h = c.args.tables.now.state in
    (some_found (length h.cells) (can_lower g h) c.in-Some.process (sym c.first_lowering.ensures ∙ c.in-Some.is)).below

pub lowering-requires-clause-held : goal.lowering-requires-clause-held
lowering-requires-clause-held c =
    let g = c.args.rules.now in let h = c.args.tables.now.state in let p = c.in-Some.process in
    held_of g h p (some_found (length h.cells) (can_lower g h) p (sym c.first_lowering.ensures ∙ c.in-Some.is)).holds

pub giving_back-requires-clause-process : goal.giving_back-requires-clause-process
giving_back-requires-clause-process c =
    let h = c.args.tables.now.state in
    (some_found (length h.cells) (λ p. is_held (cell h p).tag) c.in-Some-first_held.process
    (sym c.first_held.ensures ∙ c.in-Some-first_held.is)).below
