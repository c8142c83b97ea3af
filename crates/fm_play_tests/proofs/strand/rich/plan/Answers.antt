use Rattle.fm_strand.proofs.RichRows.{rich_of}
use Rattle.fm_play_tests.proofs.strand.rich.plan.Goals as goal

pub of-requires : goal.of-requires
of-requires c =
    rich_of c.in_ok-stock.stock c.in_ok-programs.programs.items c.in_ok-program.program c.first.result c.in_ok-stock.ensures
    c.in_ok-programs.ensures.items c.in_ok-program.ensures c.first.ensures
