use Rattle.std.proofs.Common.{◌≡◌, ◌||◌, false, map, rules}
use Rattle.std.specs.List.{list_any}
use Rattle.fm_expansion.specs.Outline as plain
use Rattle.fm_expansion.specs.Outline.{chord_in, expr_in, source_of, length_of, rounds_of}
use Rattle.fm_meaning.specs.Places.{is_beat, draw_outside, span_outside, has_outside, count_outside}
use Rattle.fm_outline.specs.declared.step.Step.{Step, the_lemmas}
use Rattle.fm_outline.specs.View.{block_view, instruction_view, lasting_view, quality_view, arms_of_blocks, phrase_at, tables_view}
use Rattle.fm_grammar.proofs.StatementViews.{map_twice}
use Rattle.fm_outline.proofs.NeedsLemmas.{asks_told, fork_told, nothing_told}
use Rattle.fm_outline.proofs.own.own_needs.Goals as goal

pub returns-in-Note-clause-asks : goal.returns-in-Note-clause-asks
returns-in-Note-clause-asks c = λ look spot.
    let tables = tables_view c.args.tables.now in
    let span = length_of tables (lasting_view c.in-Note.lasting) in
    let draws = map (source_of tables) (chord_in tables c.in-Note.chord) in
    let seen : instruction_view look c.args.what.now ≡ plain.note c.in-Note.chord (lasting_view c.in-Note.lasting)
    = search (rules, the_lemmas) in
    rw (seen, c.asks.ensures, c.is_beat.ensures tables)
    (asks_told spot (is_beat span) c.loops_of_note.result
    (λ l. list_any (draw_outside l) draws || span_outside l span) c.loops_of_note.ensures)

pub returns-in-Rest-clause-asks : goal.returns-in-Rest-clause-asks
returns-in-Rest-clause-asks c = λ look spot.
    let tables = tables_view c.args.tables.now in
    let span = length_of tables (lasting_view c.in-Rest.lasting) in
    let seen : instruction_view look c.args.what.now ≡ plain.rest (lasting_view c.in-Rest.lasting) = search (rules, the_lemmas) in
    rw (seen, c.asks-in-Rest.ensures, c.is_beat-in-Rest.ensures tables)
    (asks_told spot (is_beat span) c.loops_of_lasting.result (λ l. span_outside l span) c.loops_of_lasting.ensures)

pub returns-in-Send-clause-asks : goal.returns-in-Send-clause-asks
returns-in-Send-clause-asks c = λ look spot.
    let source = source_of (tables_view c.args.tables.now) c.in-Send.draw in
    let seen : instruction_view look c.args.what.now ≡ plain.send c.in-Send.point c.in-Send.draw = search (rules, the_lemmas) in
    rw (seen, c.asks-in-Send.ensures)
    (asks_told spot false c.loops_of_draw.result (λ l. draw_outside l source) c.loops_of_draw.ensures)

pub returns-in-Set-clause-asks : goal.returns-in-Set-clause-asks
returns-in-Set-clause-asks c = λ look spot.
    let expr = expr_in (tables_view c.args.tables.now) c.in-Set.expr in
    let seen : instruction_view look c.args.what.now ≡ plain.assign c.in-Set.register c.in-Set.expr = search (rules, the_lemmas) in
    rw (seen, c.asks-in-Set.ensures)
    (asks_told spot false c.loops_of_expr.result (λ l. has_outside l expr) c.loops_of_expr.ensures)

pub returns-in-Choice-clause-asks : goal.returns-in-Choice-clause-asks
returns-in-Choice-clause-asks c = λ look spot.
    let expr = expr_in (tables_view c.args.tables.now) c.in-Choice.expr in
    let seen : instruction_view look c.args.what.now ≡ plain.choice c.in-Choice.expr
    (block_view look c.in-Choice.yes.items) (block_view look c.in-Choice.no.items) = search (rules, the_lemmas) in
    rw (seen, c.asks-in-Choice.ensures)
    (asks_told spot false c.loops_of_expr-in-Choice.result (λ l. has_outside l expr) c.loops_of_expr-in-Choice.ensures)

pub returns-in-Loop-clause-asks : goal.returns-in-Loop-clause-asks
returns-in-Loop-clause-asks c = λ look spot.
    let count = rounds_of (tables_view c.args.tables.now) c.in-Loop.count in
    let seen : instruction_view look c.args.what.now ≡ plain.loop c.in-Loop.count (block_view look c.in-Loop.body.items)
    = search (rules, the_lemmas) in
    rw (seen, c.asks-in-Loop.ensures)
    (asks_told spot false c.loops_of_count.result (λ l. count_outside l count) c.loops_of_count.ensures)

pub returns-in-Par-clause-asks : goal.returns-in-Par-clause-asks
returns-in-Par-clause-asks c = λ look spot.
    let seen : instruction_view look c.args.what.now ≡ plain.par (arms_of_blocks (map (λ b. block_view look b.items) c.in-Par.branches.items))
    = search (rules, the_lemmas, map_twice) in
    rw (seen, c.fork.ensures) (fork_told spot)

pub returns-in-Phrase-clause-asks : goal.returns-in-Phrase-clause-asks
returns-in-Phrase-clause-asks c = λ look spot.
    let seen : instruction_view look c.args.what.now ≡ plain.phrase (phrase_at look c.in-Phrase.number) = search (rules, the_lemmas) in
    rw (seen, c.no_needs.ensures) (nothing_told spot)

pub returns-in-Warp-clause-asks : goal.returns-in-Warp-clause-asks
returns-in-Warp-clause-asks c = λ look spot.
    let seen : instruction_view look c.args.what.now ≡ plain.warp c.in-Warp.number (block_view look c.in-Warp.body.items)
    = search (rules, the_lemmas) in
    rw (seen, c.no_needs-in-Warp.ensures) (nothing_told spot)

pub returns-in-Channel-clause-asks : goal.returns-in-Channel-clause-asks
returns-in-Channel-clause-asks c = λ look spot.
    let seen : instruction_view look c.args.what.now ≡ plain.channel c.in-Channel.number (block_view look c.in-Channel.body.items)
    = search (rules, the_lemmas) in
    rw (seen, c.no_needs-in-Channel.ensures) (nothing_told spot)

pub returns-in-Steady-clause-asks : goal.returns-in-Steady-clause-asks
returns-in-Steady-clause-asks c = λ look spot.
    let seen : instruction_view look c.args.what.now ≡ plain.steady (quality_view c.in-Steady.quality) c.in-Steady.entry
    (block_view look c.in-Steady.body.items) = search (rules, the_lemmas) in
    rw (seen, c.no_needs-in-Steady.ensures) (nothing_told spot)

pub returns-in-Under-clause-asks : goal.returns-in-Under-clause-asks
returns-in-Under-clause-asks c = λ look spot.
    let seen : instruction_view look c.args.what.now ≡ plain.under (quality_view c.in-Under.quality) c.in-Under.list
    (block_view look c.in-Under.body.items) = search (rules, the_lemmas) in
    rw (seen, c.no_needs-in-Under.ensures) (nothing_told spot)
