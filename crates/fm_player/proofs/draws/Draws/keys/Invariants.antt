use Rattle.std.proofs.Common.{◌≡◌, ◌<◌, length, map, take, All}
use Rattle.fm_msg.specs.declared.msg.TheConstants.{DATA_VALUES}
use Rattle.fm_program.specs.Parts.{stock_parts}
use Rattle.fm_program.specs.Action.{amount_of, scope_at}
use Rattle.fm_program.specs.State.{pitches_drawn}
use Rattle.fm_player.specs.Drawing.{DrawsTo}
use Rattle.fm_player.proofs.draws.Draws.keys.Given as goal

abbrev pub invariant-loop-pitch : goal.invariant-loop-pitch
invariant-loop-pitch l =
    (l.self.frames ≡ l.fn.self.frames)
    × (length l.keys.items ≡ l.pitch-index)
    × All (λ key. key < DATA_VALUES) l.keys.items
    × (let t = stock_parts l.stock in
    DrawsTo t l.fn.self l.self l.keys.items (pitches_drawn (map (amount_of t) (take l.pitch-index l.pitches)) (scope_at t l.scope)))
