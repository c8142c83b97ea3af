use Rattle.std.proofs.Common.{◌≡◌, map, rules}
use Rattle.fm_expansion.specs.Outline as plain
use Rattle.fm_expansion.specs.Outline.{rounds_of}
use Rattle.fm_outline.specs.declared.step.Step.{the_lemmas}
use Rattle.fm_outline.specs.View.{block_view, instruction_view, lasting_view, quality_view, arms_of_blocks, phrase_at}
use Rattle.fm_grammar.proofs.StatementViews.{map_twice}
use Rattle.fm_outline.proofs.AskingLemmas.{opens_nothing}
use Rattle.fm_outline.proofs.own.opens.Goals as goal

pub returns-in-Note : goal.returns-in-Note
returns-in-Note c = λ t look.
    let seen : instruction_view look c.args.what.now ≡ plain.note c.in-Note.chord (lasting_view c.in-Note.lasting) = search (rules, the_lemmas) in
    rw (seen, c.nothing_open.ensures) opens_nothing

pub returns-in-Rest : goal.returns-in-Rest
returns-in-Rest c = λ t look.
    let seen : instruction_view look c.args.what.now ≡ plain.rest (lasting_view c.in-Rest.lasting) = search (rules, the_lemmas) in
    rw (seen, c.nothing_open-in-Rest.ensures) opens_nothing

pub returns-in-Send : goal.returns-in-Send
returns-in-Send c = λ t look.
    let seen : instruction_view look c.args.what.now ≡ plain.send c.in-Send.point c.in-Send.draw = search (rules, the_lemmas) in
    rw (seen, c.nothing_open-in-Send.ensures) opens_nothing

pub returns-in-Set : goal.returns-in-Set
returns-in-Set c = λ t look.
    let seen : instruction_view look c.args.what.now ≡ plain.assign c.in-Set.register c.in-Set.expr = search (rules, the_lemmas) in
    rw (seen, c.nothing_open-in-Set.ensures) opens_nothing

pub returns-in-Choice : goal.returns-in-Choice
returns-in-Choice c = λ t look.
    let seen : instruction_view look c.args.what.now ≡ plain.choice c.in-Choice.expr (block_view look c.in-Choice.yes.items) (block_view look c.in-Choice.no.items)
    = search (rules, the_lemmas) in
    rw seen c.choice.ensures

pub returns-in-Loop : goal.returns-in-Loop
returns-in-Loop c = λ t look.
    let seen : instruction_view look c.args.what.now ≡ plain.loop c.in-Loop.count (block_view look c.in-Loop.body.items)
    = search (rules, the_lemmas) in
    rw seen (c.rounds.ensures (rounds_of t c.in-Loop.count) (c.is_computed.ensures t))

pub returns-in-Phrase : goal.returns-in-Phrase
returns-in-Phrase c = λ t look.
    let seen : instruction_view look c.args.what.now ≡ plain.phrase (phrase_at look c.in-Phrase.number)
    = search (rules, the_lemmas) in
    rw seen c.block.ensures

pub returns-in-Par : goal.returns-in-Par
returns-in-Par c = λ t look.
    let seen : instruction_view look c.args.what.now ≡ plain.par (arms_of_blocks (map (λ b. block_view look b.items) c.in-Par.branches.items))
    = search (rules, the_lemmas, map_twice) in
    rw seen c.branches.ensures

pub returns-in-Warp : goal.returns-in-Warp
returns-in-Warp c = λ t look.
    let seen : instruction_view look c.args.what.now ≡ plain.warp c.in-Warp.number (block_view look c.in-Warp.body.items)
    = search (rules, the_lemmas) in
    rw seen c.warp.ensures

pub returns-in-Channel : goal.returns-in-Channel
returns-in-Channel c = λ t look.
    let seen : instruction_view look c.args.what.now ≡ plain.channel c.in-Channel.number (block_view look c.in-Channel.body.items)
    = search (rules, the_lemmas) in
    rw seen c.block-in-Channel.ensures

pub returns-in-Steady : goal.returns-in-Steady
returns-in-Steady c = λ t look.
    let seen : instruction_view look c.args.what.now ≡ plain.steady (quality_view c.in-Steady.quality) c.in-Steady.entry (block_view look c.in-Steady.body.items)
    = search (rules, the_lemmas) in
    rw seen c.block-in-Steady.ensures

pub returns-in-Under : goal.returns-in-Under
returns-in-Under c = λ t look.
    let seen : instruction_view look c.args.what.now ≡ plain.under (quality_view c.in-Under.quality) c.in-Under.list (block_view look c.in-Under.body.items)
    = search (rules, the_lemmas) in
    rw seen (c.list.ensures (quality_view c.in-Under.quality) c.is_rhythm.ensures)
