use Rattle.std.proofs.Common.{◌∙◌, sym}
use Rattle.fm_outline.specs.Asking.{depths_view}
use Rattle.fm_outline.specs.View.{instruction_view, tables_view}
use Rattle.fm_outline.proofs.AskingLemmas.{alone_asks, asks_still, whole_asks}
use Rattle.fm_outline.proofs.asking.needs_of.Goals as goal

pub returns-then-stands_alone : goal.returns-then-stands_alone
returns-then-stands_alone c = λ t look same can.
    let i = instruction_view look c.args.what.now in
    alone_asks t i c.own_needs-own.result
    (asks_still (tables_view c.args.tables.now) t i _ (c.own_needs-own.ensures.asks look) same)
    (c.own_needs-own.ensures.forks look) (sym (c.stands_alone.ensures look) ∙ c.if-stands_alone.true)

pub returns : goal.returns
returns c = λ t look same can.
    let i = instruction_view look c.args.what.now in
    rw (c.both.ensures, c.outside.ensures)
    (whole_asks t i c.own_needs-own.result c.inside_asks.result (depths_view c.opens.result)
    (asks_still (tables_view c.args.tables.now) t i _ (c.own_needs-own.ensures.asks look) same)
    (c.own_needs-own.ensures.forks look) (c.opens.ensures t look) (c.inside_asks.ensures t look can)
    (sym (c.stands_alone.ensures look) ∙ c.if-stands_alone.false))
