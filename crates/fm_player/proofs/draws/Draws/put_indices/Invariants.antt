use Rattle.std.proofs.Common.{◌≡◌, ◌+◌, ◌<◌, ◌++◌, length, map, All}
use Rattle.fm_program.specs.declared.op.TheConstants.{MAX_INDEX}
use Rattle.fm_program.specs.Parts.{stock_parts}
use Rattle.fm_program.specs.Action.{scope_at}
use Rattle.fm_program.specs.State.{Standing, slot_index}
use Rattle.fm_player.specs.Drawing.{DrawsStand}
use Rattle.fm_player.proofs.draws.Draws.put_indices.Given as goal

-- the indices so far, and then those of the scope that is left, are those of the whole scope
abbrev pub invariant-loop-slot : goal.invariant-loop-slot
invariant-loop-slot l =
    let t = stock_parts l.stock in
    (l.rest < length t.scopes)
    × (length l.indices.items + length (scope_at t l.rest) ≡ length (scope_at t l.scope))
    × All (λ i. i < MAX_INDEX) l.indices.items
    × ((s : Standing) → DrawsStand t l.self s
    → l.indices.items ++ map (slot_index s.frames) (scope_at t l.rest) ≡ map (slot_index s.frames) (scope_at t l.scope))

abbrev pub decreases-loop-slot : goal.decreases-loop-slot
decreases-loop-slot l = l.rest
