use Rattle.std.proofs.Common.{◌≡◌, ◌+◌, ◌-◌, ◌*◌, [], ◌∷◌, ◌++◌, length, map, drop}
use Rattle.std.specs.Prelude.{vec_items}
use Rattle.fm_expansion.specs.Homes.{Inside as Open, loop_round, slots_of, in_scope}
use Rattle.fm_expansion.specs.Expansion.{whole, with_scopes, unrolled, expand_in, expand_arms}
use Rattle.fm_outline.specs.View.{arms_of_blocks, block_view}
use Rattle.fm_plan.specs.Made.{made_in}
use Rattle.fm_plan.specs.Seen.{emitting_of, look_of, Agrees}
use Rattle.fm_plan.proofs.Weights.{total, step_weight, steps_weight, phrases_weight}
use Rattle.fm_plan.proofs.expanding.+expand.Given as goal

-- ---- what is left to expand

abbrev pub decreases-expand_step : goal.decreases-expand_step
decreases-expand_step l = 4 * (phrases_weight (map vec_items l.earlier.bodies.now) + step_weight l.step.now)

abbrev pub decreases-expand_steps : goal.decreases-expand_steps
decreases-expand_steps l = 4 * (phrases_weight (map vec_items l.earlier.bodies.now) + steps_weight l.steps.now) + 1

abbrev pub decreases-expand_phrase : goal.decreases-expand_phrase
decreases-expand_phrase l = 4 * phrases_weight (map vec_items l.earlier.bodies.now) + 3

abbrev pub decreases-expand_choice : goal.decreases-expand_choice
decreases-expand_choice l =
    4 * (phrases_weight (map vec_items l.earlier.bodies.now) + (steps_weight l.yes.now + steps_weight l.no.now)) + 2

abbrev pub decreases-expand_loop : goal.decreases-expand_loop
decreases-expand_loop l = 4 * (phrases_weight (map vec_items l.earlier.bodies.now) + steps_weight l.body.now) + 2

abbrev pub decreases-expand_rounds : goal.decreases-expand_rounds
decreases-expand_rounds l = 4 * (phrases_weight (map vec_items l.earlier.bodies.now) + steps_weight l.body.now) + 2

abbrev pub decreases-expand_fork : goal.decreases-expand_fork
decreases-expand_fork l =
    4 * (phrases_weight (map vec_items l.earlier.bodies.now) + total (map (λ b. steps_weight b.items) l.branches.now)) + 2

abbrev pub decreases-expand_warp : goal.decreases-expand_warp
decreases-expand_warp l = 4 * (phrases_weight (map vec_items l.earlier.bodies.now) + steps_weight l.body.now) + 2

abbrev pub decreases-expand_list : goal.decreases-expand_list
decreases-expand_list l = 4 * (phrases_weight (map vec_items l.earlier.bodies.now) + steps_weight l.body.now) + 2

-- ---- loops

-- the statements that are left make the same programs as all
abbrev pub invariant-expand_steps-loop-step : goal.invariant-expand_steps-loop-step
invariant-expand_steps-loop-step l =
    (i : Open) → Agrees l.fn.m l.inside i
    → Agrees l.m l.inside i × (l.m.cycles.items ≡ l.fn.m.cycles.items) × (l.m.levels.items ≡ l.fn.m.levels.items)
    × (made_in l.forking (block_view (look_of l.earlier) l.steps) i (emitting_of l.fn.m)
    ≡ made_in l.forking (block_view (look_of l.earlier) (drop l.step-index l.steps)) i (emitting_of l.m))

-- the rounds that are left make the same programs as all
abbrev pub invariant-expand_rounds-loop-round : goal.invariant-expand_rounds-loop-round
invariant-expand_rounds-loop-round l =
    (i : Open) → Agrees l.fn.m l.inside i
    → Agrees l.m l.inside i × (l.m.cycles.items ≡ l.fn.m.cycles.items) × (l.m.levels.items ≡ l.fn.m.levels.items)
    × (unrolled (λ j f. expand_in (block_view (look_of l.earlier) l.body) (in_scope (loop_round j) (length f.scopes) i)
    (with_scopes (slots_of (loop_round j ∷ i.homes) ∷ []) f)) l.round-end 0 (emitting_of l.fn.m)
    ≡ unrolled (λ j f. expand_in (block_view (look_of l.earlier) l.body) (in_scope (loop_round j) (length f.scopes) i)
    (with_scopes (slots_of (loop_round j ∷ i.homes) ∷ []) f)) (l.round-end - l.round) l.round (emitting_of l.m))

-- the branches that are left make the same programs as all
abbrev pub invariant-expand_fork-loop-branch : goal.invariant-expand_fork-loop-branch
invariant-expand_fork-loop-branch l =
    (i : Open) → Agrees l.fn.m l.inside i
    → Agrees l.m l.inside i × (l.m.cycles.items ≡ l.fn.m.cycles.items) × (l.m.levels.items ≡ l.fn.m.levels.items)
    × (l.forked ≡ length (emitting_of l.fn.m).finished)
    × (expand_arms (arms_of_blocks (map (λ b. block_view (look_of l.earlier) b.items) l.branches)) i l.forked
    (whole (emitting_of l.fn.m)) (emitting_of l.fn.m).scopes
    ≡ (let j = expand_arms (arms_of_blocks (map (λ b. block_view (look_of l.earlier) b.items)
    (drop l.branch-index l.branches))) i l.forked (whole (emitting_of l.m)) (emitting_of l.m).scopes in
    record { programs = j.programs; lasts = l.lasts.items ++ j.lasts; scopes = j.scopes }))
