use Rattle.std.proofs.Common.{◌≡◌, ◌∙◌, ◌++◌, rules, ap₂, map, refl, sym, subst, Vec, Global}
use Rattle.std.specs.Prelude.{◌||◌, flat_map, vec_items}
use Rattle.fm_expansion.specs.Outline as plain
use Rattle.fm_outline.specs.Forking.{inside, called, AreAsking, IsKnownOf}
use Rattle.fm_outline.specs.View.{block_view, instruction_view, lasting_view, phrase_at, quality_view, arms_of_blocks}
use Rattle.fm_outline.specs.declared.step.Step.{Step, the_lemmas}
use Rattle.fm_grammar.proofs.StatementViews.{map_twice}
use Rattle.fm_outline.proofs.AskingLemmas.{none_inside}
use Rattle.fm_outline.proofs.ForkLemmas.{left_marked, right_marked}
use Rattle.fm_outline.proofs.NeedsLemmas.{both_tells}
use Rattle.fm_outline.proofs.asking.inside_asks.Goals as goal

pub returns-in-Note : goal.returns-in-Note
returns-in-Note c = λ t look can.
    let seen : instruction_view look c.args.what.now ≡ plain.note c.in-Note.chord (lasting_view c.in-Note.lasting)
    = search (rules, the_lemmas) in
    rw (seen, c.no_needs.ensures) (none_inside t _ refl)

pub returns-in-Rest : goal.returns-in-Rest
returns-in-Rest c = λ t look can.
    let seen : instruction_view look c.args.what.now ≡ plain.rest (lasting_view c.in-Rest.lasting) = search (rules, the_lemmas) in
    rw (seen, c.no_needs-in-Rest.ensures) (none_inside t _ refl)

pub returns-in-Send : goal.returns-in-Send
returns-in-Send c = λ t look can.
    let seen : instruction_view look c.args.what.now ≡ plain.send c.in-Send.point c.in-Send.draw = search (rules, the_lemmas) in
    rw (seen, c.no_needs-in-Send.ensures) (none_inside t _ refl)

pub returns-in-Set : goal.returns-in-Set
returns-in-Set c = λ t look can.
    let seen : instruction_view look c.args.what.now ≡ plain.assign c.in-Set.register c.in-Set.expr = search (rules, the_lemmas) in
    rw (seen, c.no_needs-in-Set.ensures) (none_inside t _ refl)

pub returns-in-Loop : goal.returns-in-Loop
returns-in-Loop c = λ t look can.
    let b = c.in-Loop.body.items in
    let seen : instruction_view look c.args.what.now ≡ plain.loop c.in-Loop.count (block_view look b) = search (rules, the_lemmas) in
    let own : inside c.args.what.now ≡ b = search (rules, the_lemmas) in
    let asks = c.steps_ask-in-Loop.ensures t look (subst (AreAsking t look) (own ∙ sym c.deref-in-Loop.ensures.value) can.those) in
    rw (seen, ← c.deref-in-Loop.ensures.value) (record { forks = asks.forks; faults = asks.faults })

pub returns-in-Warp : goal.returns-in-Warp
returns-in-Warp c = λ t look can.
    let b = c.in-Warp.body.items in
    let seen : instruction_view look c.args.what.now ≡ plain.warp c.in-Warp.number (block_view look b) = search (rules, the_lemmas) in
    let own : inside c.args.what.now ≡ b = search (rules, the_lemmas) in
    let asks = c.steps_ask-in-Warp.ensures t look (subst (AreAsking t look) (own ∙ sym c.deref-in-Warp.ensures.value) can.those) in
    rw (seen, ← c.deref-in-Warp.ensures.value) (record { forks = asks.forks; faults = asks.faults })

pub returns-in-Channel : goal.returns-in-Channel
returns-in-Channel c = λ t look can.
    let b = c.in-Channel.body.items in
    let seen : instruction_view look c.args.what.now ≡ plain.channel c.in-Channel.number (block_view look b) = search (rules, the_lemmas) in
    let own : inside c.args.what.now ≡ b = search (rules, the_lemmas) in
    let asks = c.steps_ask-in-Channel.ensures t look (subst (AreAsking t look) (own ∙ sym c.deref-in-Channel.ensures.value) can.those) in
    rw (seen, ← c.deref-in-Channel.ensures.value) (record { forks = asks.forks; faults = asks.faults })

pub returns-in-Steady : goal.returns-in-Steady
returns-in-Steady c = λ t look can.
    let b = c.in-Steady.body.items in
    let seen : instruction_view look c.args.what.now ≡ plain.steady (quality_view c.in-Steady.quality) c.in-Steady.entry (block_view look b) = search (rules, the_lemmas) in
    let own : inside c.args.what.now ≡ b = search (rules, the_lemmas) in
    let asks = c.steps_ask-in-Steady.ensures t look (subst (AreAsking t look) (own ∙ sym c.deref-in-Steady.ensures.value) can.those) in
    rw (seen, ← c.deref-in-Steady.ensures.value) (record { forks = asks.forks; faults = asks.faults })

pub returns-in-Under : goal.returns-in-Under
returns-in-Under c = λ t look can.
    let b = c.in-Under.body.items in
    let seen : instruction_view look c.args.what.now ≡ plain.under (quality_view c.in-Under.quality) c.in-Under.list (block_view look b) = search (rules, the_lemmas) in
    let own : inside c.args.what.now ≡ b = search (rules, the_lemmas) in
    let asks = c.steps_ask-in-Under.ensures t look (subst (AreAsking t look) (own ∙ sym c.deref-in-Under.ensures.value) can.those) in
    rw (seen, ← c.deref-in-Under.ensures.value) (record { forks = asks.forks; faults = asks.faults })

pub returns-in-Phrase : goal.returns-in-Phrase
returns-in-Phrase c = λ t look can.
    let n = c.in-Phrase.number in
    let seen : instruction_view look c.args.what.now ≡ plain.phrase (phrase_at look n) = search (rules, the_lemmas) in
    let own : called c.args.what.now ≡ n = search (rules, the_lemmas) in
    let asks = c.phrase_asks.ensures t look (subst (IsKnownOf c.args.phrases.now t look) own can.phrase) in
    rw seen (record { forks = asks.forks; faults = asks.faults })

pub returns-in-Par : goal.returns-in-Par
returns-in-Par c = λ t look can.
    let view = λ (b : Vec Step Global). block_view look b.items in
    let bs = c.in-Par.branches.items in
    let seen : instruction_view look c.args.what.now ≡ plain.par (arms_of_blocks (map view bs))
    = search (rules, the_lemmas, map_twice) in
    let own : inside c.args.what.now ≡ flat_map vec_items bs = search (rules, the_lemmas) in
    let there = subst (AreAsking t look) own can.those in
    rw (seen, ← c.deref-in-Par.ensures.value)
    (record { forks = refl; faults = c.branches_ask.ensures t look (rw c.deref-in-Par.ensures.value there) })

pub returns-in-Choice : goal.returns-in-Choice
returns-in-Choice c = λ t look can.
    let a = c.in-Choice.yes.items in
    let b = c.in-Choice.no.items in
    let seen : instruction_view look c.args.what.now ≡ plain.choice c.in-Choice.expr (block_view look a) (block_view look b)
    = search (rules, the_lemmas) in
    let own : inside c.args.what.now ≡ a ++ b = search (rules, the_lemmas) in
    let all = subst (AreAsking t look) own can.those in
    let first = c.steps_ask.ensures t look (subst (AreAsking t look) (sym c.deref.ensures.value) (left_marked a b all)) in
    let second = c.steps_ask-in-Choice.ensures t look
    (subst (AreAsking t look) (sym c.deref-in-Choice.ensures.value) (right_marked a b all)) in
    rw (seen, ← c.deref.ensures.value, ← c.deref-in-Choice.ensures.value, c.both.ensures)
    (record {
      forks = ap₂ (λ i j. i || j) first.forks second.forks;
      faults = both_tells _ _ _ _ first.faults second.faults;
    })
