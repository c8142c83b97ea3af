use Rattle.std.proofs.Common.{◌≡◌, length, take, All, []}
use Rattle.fm_program.specs.Parts.{stock_parts}
use Rattle.fm_program.specs.Process.{cycles_opened}
use Rattle.fm_player.specs.Drawing.{IsFrame, FramesStand}
use Rattle.fm_player.proofs.draws.Draws.new.Given as goal

abbrev pub invariant-loop-list : goal.invariant-loop-list
invariant-loop-list l =
    (length l.frames.items ≡ l.list-index)
    × All (IsFrame (stock_parts l.stock)) l.frames.items
    × FramesStand (stock_parts l.stock) l.frames.items (cycles_opened (stock_parts l.stock) (take l.list-index l.lists) [])
