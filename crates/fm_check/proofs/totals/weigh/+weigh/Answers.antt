use Rattle.std.proofs.Common.{◌≡◌, ◌*◌, ◌+◌, ◌++◌, rules, ap, sym, subst, ◌∙◌, map, take, length, arith, Vec, Global}
use Rattle.std.proofs.lemmas.List.{length-map, take_all}
use Rattle.fm_expansion.specs.Outline as plain
use Rattle.fm_expansion.specs.Outline.{passage_in, source_of, chord_in, parts_in}
use Rattle.std.specs.Prelude.{flat_map, vec_items}
use Rattle.fm_expansion.specs.Emission.{forks}
use Rattle.fm_expansion.proofs.Lengths.{forks_in_alike}
use Rattle.fm_meaning.specs.Bounds.{with_more, bounds_in, forks_in}
use Rattle.fm_outline.specs.Forking.{inside, AreMarked}
use Rattle.fm_outline.proofs.ForkLemmas.{branch_marked, inside_marked, left_marked, right_marked, says}
use Rattle.fm_outline.specs.declared.step.Step.{Step, the_lemmas}
use Rattle.fm_outline.specs.View.{tables_view, step_view, block_view, lasting_view, quality_view, arms_of_blocks, phrase_at}
use Rattle.fm_check.proofs.SumsLemmas.{span_saturated, warp_saturated, none_saturated, joined_saturated}
use Rattle.fm_check.proofs.WeightLemmas.{bounds_more, beside_more}
use Rattle.fm_outline.proofs.MapLemmas.{map_take_more, take_one_more}
use Rattle.fm_grammar.proofs.StatementViews.{map_twice}
use Rattle.fm_check.proofs.totals.weigh.+weigh.Goals as goal

pub weigh_step-returns-in-Note : goal.weigh_step-returns-in-Note
weigh_step-returns-in-Note t c = λ n look is marks knows.
    let tables = tables_view c.args.tables.now in
    let seen : (step_view look c.args.step.now).what ≡ plain.note c.in-Note.chord (lasting_view c.in-Note.lasting)
    = search (rules, the_lemmas) in
    let count : length (map (source_of tables) (chord_in tables c.in-Note.chord)) ≡ c.pitches.result
    = search (rules, length-map) in
    rw (seen, count)
    (c.note.ensures
    ∙ span_saturated c.most_ticks.result _ (2 * c.pitches.result) (2 * c.pitches.result + 1)
    (c.most_ticks.ensures n tables is))

pub weigh_step-returns-in-Choice : goal.weigh_step-returns-in-Choice
weigh_step-returns-in-Choice t c = λ n look is marks knows.
    let seen : (step_view look c.args.step.now).what ≡ plain.choice c.in-Choice.expr
    (block_view look c.in-Choice.yes.items) (block_view look c.in-Choice.no.items) = search (rules, the_lemmas) in
    let a = c.in-Choice.yes.items in
    let b = c.in-Choice.no.items in
    let own : inside c.args.step.now.what ≡ a ++ b = search (rules, the_lemmas) in
    let all = subst (AreMarked look) own (inside_marked marks) in
    rw (seen, ← c.deref.ensures.value, ← c.deref-in-Choice.ensures.value)
    (c.either.ensures _ _
    (c.weigh_steps.ensures n look is (subst (AreMarked look) (sym c.deref.ensures.value) (left_marked a b all)) knows)
    (c.weigh_steps-in-Choice.ensures n look is
    (subst (AreMarked look) (sym c.deref-in-Choice.ensures.value) (right_marked a b all)) knows))

pub weigh_step-returns-in-Loop : goal.weigh_step-returns-in-Loop
weigh_step-returns-in-Loop t c = λ n look is marks knows.
    let tables = tables_view c.args.tables.now in
    let b = c.in-Loop.body.items in
    let seen : (step_view look c.args.step.now).what ≡ plain.loop c.in-Loop.count (block_view look b) = search (rules, the_lemmas) in
    let own : inside c.args.step.now.what ≡ b = search (rules, the_lemmas) in
    let those = subst (AreMarked look) (own ∙ sym c.deref-in-Loop.ensures.value) (inside_marked marks) in
    let forked : c.forks.result ≡ forks_in (passage_in tables (block_view look b))
    = c.forks.ensures ∙ says marks ∙ ap forks seen ∙ sym (forks_in_alike tables (block_view look b)) in
    rw (seen, ← forked, ← c.deref-in-Loop.ensures.value, ← c.most_rounds.ensures tables)
    (c.repeated.ensures _ (c.weigh_steps-in-Loop.ensures n look is those knows))

pub weigh_step-returns-in-Phrase : goal.weigh_step-returns-in-Phrase
weigh_step-returns-in-Phrase t c = λ n look is marks knows.
    let tables = tables_view c.args.tables.now in
    let seen : (step_view look c.args.step.now).what ≡ plain.phrase (phrase_at look c.in-Phrase.number)
    = search (rules, the_lemmas) in
    rw seen (c.inside.ensures _ (c.weigh_phrase.ensures tables n look knows))

pub weigh_step-returns-in-Warp : goal.weigh_step-returns-in-Warp
weigh_step-returns-in-Warp t c = λ n look is marks knows.
    let steps = c.in-Warp.body.items in
    let own : inside c.args.step.now.what ≡ steps = search (rules, the_lemmas) in
    let those = subst (AreMarked look) (own ∙ sym c.deref-in-Warp.ensures.value) (inside_marked marks) in
    let tables = tables_view c.args.tables.now in
    let seen : (step_view look c.args.step.now).what ≡ plain.warp c.in-Warp.number (block_view look c.in-Warp.body.items)
    = search (rules, the_lemmas) in
    let body = block_view look c.deref-in-Warp.result.now in
    let b = with_more 2 2 (bounds_in n (passage_in tables body)) in
    let inside = c.inside-inside.ensures _ (c.weigh_steps-in-Warp.ensures n look is those knows) in
    rw (seen, ← c.deref-in-Warp.ensures.value)
    (warp_saturated b (parts_in tables c.in-Warp.number) inside (c.warped.ensures b.length (ap (λ s. s.length) inside)))

pub weigh_step-returns-in-Channel : goal.weigh_step-returns-in-Channel
weigh_step-returns-in-Channel t c = λ n look is marks knows.
    let steps = c.in-Channel.body.items in
    let own : inside c.args.step.now.what ≡ steps = search (rules, the_lemmas) in
    let those = subst (AreMarked look) (own ∙ sym c.deref-in-Channel.ensures.value) (inside_marked marks) in
    let seen : (step_view look c.args.step.now).what ≡ plain.channel c.in-Channel.number (block_view look c.in-Channel.body.items)
    = search (rules, the_lemmas) in
    rw (seen, ← c.deref-in-Channel.ensures.value)
    (c.inside-in-Channel.ensures _ (c.weigh_steps-in-Channel.ensures n look is those knows))

pub weigh_step-returns-in-Steady : goal.weigh_step-returns-in-Steady
weigh_step-returns-in-Steady t c = λ n look is marks knows.
    let steps = c.in-Steady.body.items in
    let own : inside c.args.step.now.what ≡ steps = search (rules, the_lemmas) in
    let those = subst (AreMarked look) (own ∙ sym c.deref-in-Steady.ensures.value) (inside_marked marks) in
    let seen : (step_view look c.args.step.now).what ≡ plain.steady (quality_view c.in-Steady.quality) c.in-Steady.entry
    (block_view look c.in-Steady.body.items) = search (rules, the_lemmas) in
    rw (seen, ← c.deref-in-Steady.ensures.value)
    (c.inside-in-Steady.ensures _ (c.weigh_steps-in-Steady.ensures n look is those knows))

pub weigh_step-returns-in-Under : goal.weigh_step-returns-in-Under
weigh_step-returns-in-Under t c = λ n look is marks knows.
    let steps = c.in-Under.body.items in
    let own : inside c.args.step.now.what ≡ steps = search (rules, the_lemmas) in
    let those = subst (AreMarked look) (own ∙ sym c.deref-in-Under.ensures.value) (inside_marked marks) in
    let seen : (step_view look c.args.step.now).what ≡ plain.under (quality_view c.in-Under.quality) c.in-Under.list
    (block_view look c.in-Under.body.items)
    = search (rules, the_lemmas) in
    rw (seen, ← c.deref-in-Under.ensures.value)
    (c.inside-in-Under.ensures _ (c.weigh_steps-in-Under.ensures n look is those knows))

-- ---- branches

pub weigh_step-loop-branch-init : goal.weigh_step-loop-branch-init
weigh_step-loop-branch-init t c = λ n look is marks knows. joined_saturated

pub weigh_step-loop-branch-preserved : goal.weigh_step-loop-branch-preserved
weigh_step-loop-branch-preserved t c = λ n look is marks knows.
    let tables = tables_view c.args.tables.now in
    let view = λ (b : Vec Step Global). block_view look b.items in
    let branches = c.deref-branch-items.result.now in
    let i = c.loop-branch.branch-index in
    let b = c.branch-item.result in
    let own : inside c.args.step.now.what ≡ flat_map vec_items branches
    = search (rules, the_lemmas, c.deref-branch-items.ensures.value) in
    let those = branch_marked branches i b c.loop-branch-test.true c.branch-item.is
    (subst (AreMarked look) own (inside_marked marks)) in
    rw (
      map_take_more view branches i b c.loop-branch-test.true c.branch-item.is,
      beside_more n tables (map view (take i branches)) (block_view look b.items),
      ← c.deref-in-loop-branch.ensures.value,
    )
    (c.beside-sums.ensures _ _ (c.loop-branch.invariant n look is marks knows)
    (c.weigh_steps-in-loop-branch.ensures n look is
    (subst (AreMarked look) (sym c.deref-in-loop-branch.ensures.value) those) knows))

pub weigh_step-returns-after-loop-branch : goal.weigh_step-returns-after-loop-branch
weigh_step-returns-after-loop-branch t c = λ n look is marks knows.
    let view = λ (b : Vec Step Global). block_view look b.items in
    let branches = c.deref-branch-items.result.now in
    let seen : (step_view look c.args.step.now).what ≡ plain.par (arms_of_blocks (map view branches))
    = search (rules, the_lemmas, map_twice, c.deref-branch-items.ensures.value) in
    let whole : take c.loop-branch.branch-index branches ≡ branches
    = take_all c.loop-branch.branch-index branches (omega arith) in
    rw (seen, ← ap (λ bs. arms_of_blocks (map view bs)) whole) (c.loop-branch.invariant n look is marks knows)

-- ---- statements in turn

pub weigh_steps-loop-step-init : goal.weigh_steps-loop-step-init
weigh_steps-loop-step-init t c = λ n look is marks knows. none_saturated

pub weigh_steps-loop-step-preserved : goal.weigh_steps-loop-step-preserved
weigh_steps-loop-step-preserved t c = λ n look is marks knows.
    let tables = tables_view c.args.tables.now in
    let steps = c.args.steps.now in
    let i = c.loop-step.step-index in
    let x = c.step-item.result in
    rw (
      take_one_more steps i x c.loop-step-test.true c.step-item.is,
      bounds_more n tables look (take i steps) x,
    )
    (c.plus-sums.ensures _ _ (c.loop-step.invariant n look is marks knows)
    (c.weigh_step.ensures n look is (marks x i c.loop-step-test.true c.step-item.is) knows))
