-- The process that was found is there.
use Rattle.std.proofs.Common.{length, sym, ◌∙◌}
use Rattle.fm_core.proofs.Below.{some_found}
use Rattle.fm_core.specs.Steps.{unvisited}
use Rattle.fm_hall.proofs.choices.visiting.Goals as goal

pub cell-requires : goal.cell-requires
cell-requires c =
    let h = c.args.tables.now.state in
    (some_found (length h.cells) (unvisited h) c.in_ok-process.process (sym c.first_unvisited.ensures ∙ c.in_ok-process.was)).below
