use Rattle.std.proofs.Common.{take}
use Rattle.fm_expansion.specs.Outline.{Tables}
use Rattle.fm_outline.specs.Asking.{BlockAsks}
use Rattle.fm_outline.specs.Forking.{AreAsking}
use Rattle.fm_outline.specs.View.{Look, block_view}
use Rattle.fm_outline.proofs.asking.steps_ask.Given as goal

-- what the statements so far ask
abbrev pub invariant-loop-step : goal.invariant-loop-step
invariant-loop-step l =
    (t : Tables) (look : Look) → AreAsking t look l.steps → BlockAsks t (block_view look (take l.step-index l.steps)) l.needs
