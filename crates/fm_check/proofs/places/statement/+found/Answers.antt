use Rattle.std.proofs.Common.{◌≡◌, ◌∙◌, ◌++◌, [], None, Some, map, take, refl, sym, ap, subst, rules, arith, append_assoc, Vec, Global}
use Rattle.std.specs.Prelude.{flat_map, vec_items}
use Rattle.std.proofs.lemmas.List.{take_all}
use Rattle.fm_expansion.specs.Outline as plain
use Rattle.fm_expansion.specs.Outline.{play_in, passage_in, fork_in}
use Rattle.fm_rules.specs.Found.{IsFirst}
use Rattle.fm_meaning.specs.Faults.{first_found}
use Rattle.fm_meaning.specs.Places.{Depths, depth_faults, passage_faults, place_faults}
use Rattle.fm_outline.specs.declared.step.Step.{Step, the_lemmas}
use Rattle.fm_outline.specs.Asking.{IsWithin, depths_view, own_faults, within}
use Rattle.fm_outline.specs.Forking.{inside, AreAsking}
use Rattle.fm_outline.specs.View.{tables_view, instruction_view, block_view, lasting_view, quality_view, arms_of_blocks, phrase_at}
use Rattle.fm_outline.proofs.ForkLemmas.{branch_marked, inside_marked, left_marked, right_marked, says}
use Rattle.fm_outline.proofs.MapLemmas.{take_one_more, map_take_more}
use Rattle.fm_outline.proofs.NeedsLemmas.{still_within}
use Rattle.fm_outline.proofs.PassageLemmas.{passage_more, fork_more}
use Rattle.fm_outline.proofs.SeenLemmas.{step_seen}
use Rattle.fm_grammar.proofs.StatementViews.{map_twice}
use Rattle.fm_check.proofs.PlaceLemmas.{bare_missing, told_of}
use Rattle.fm_check.proofs.places.statement.+found.Goals as goal

-- ---- statements without blocks

pub look_at-returns-in-Note : goal.look_at-returns-in-Note
look_at-returns-in-Note t c = λ look asks w.
    let tables = tables_view c.args.tables.now in
    let step = c.args.step.now in
    let seen : instruction_view look step.what ≡ plain.note c.in-Note.chord (lasting_view c.in-Note.lasting) = search (rules, the_lemmas) in
    let told = rw seen at (told_of tables look step asks) in
    rw seen (rw c.needs.ensures at c.first_missing.ensures
    ∙ ap first_found (bare_missing tables (plain.note c.in-Note.chord (lasting_view c.in-Note.lasting)) step.spot step.needs (depths_view c.args.depths) refl told w))

pub look_at-returns-in-Rest : goal.look_at-returns-in-Rest
look_at-returns-in-Rest t c = λ look asks w.
    let tables = tables_view c.args.tables.now in
    let step = c.args.step.now in
    let seen : instruction_view look step.what ≡ plain.rest (lasting_view c.in-Rest.lasting) = search (rules, the_lemmas) in
    let told = rw seen at (told_of tables look step asks) in
    rw seen (rw c.needs-in-Rest.ensures at c.first_missing-in-Rest.ensures
    ∙ ap first_found (bare_missing tables (plain.rest (lasting_view c.in-Rest.lasting)) step.spot step.needs (depths_view c.args.depths) refl told w))

pub look_at-returns-in-Send : goal.look_at-returns-in-Send
look_at-returns-in-Send t c = λ look asks w.
    let tables = tables_view c.args.tables.now in
    let step = c.args.step.now in
    let seen : instruction_view look step.what ≡ plain.send c.in-Send.point c.in-Send.draw = search (rules, the_lemmas) in
    let told = rw seen at (told_of tables look step asks) in
    rw seen (rw c.needs-in-Send.ensures at c.first_missing-in-Send.ensures
    ∙ ap first_found (bare_missing tables (plain.send c.in-Send.point c.in-Send.draw) step.spot step.needs (depths_view c.args.depths) refl told w))

pub look_at-returns-in-Set : goal.look_at-returns-in-Set
look_at-returns-in-Set t c = λ look asks w.
    let tables = tables_view c.args.tables.now in
    let step = c.args.step.now in
    let seen : instruction_view look step.what ≡ plain.assign c.in-Set.register c.in-Set.expr = search (rules, the_lemmas) in
    let told = rw seen at (told_of tables look step asks) in
    rw seen (rw c.needs-in-Set.ensures at c.first_missing-in-Set.ensures
    ∙ ap first_found (bare_missing tables (plain.assign c.in-Set.register c.in-Set.expr) step.spot step.needs (depths_view c.args.depths) refl told w))

pub look_at-returns-in-Phrase : goal.look_at-returns-in-Phrase
look_at-returns-in-Phrase t c = λ look asks w.
    let tables = tables_view c.args.tables.now in
    let step = c.args.step.now in
    let seen : instruction_view look step.what ≡ plain.phrase (phrase_at look c.in-Phrase.number) = search (rules, the_lemmas) in
    let told = rw seen at (told_of tables look step asks) in
    rw seen (rw c.needs-in-Phrase.ensures at c.first_missing-in-Phrase.ensures
    ∙ ap first_found (bare_missing tables (plain.phrase (phrase_at look c.in-Phrase.number)) step.spot step.needs (depths_view c.args.depths) refl told w))

-- ---- statements with blocks

pub look_at-returns-in-Choice : goal.look_at-returns-in-Choice
look_at-returns-in-Choice t c = λ look asks w.
    let tables = tables_view c.args.tables.now in
    let step = c.args.step.now in
    let a = c.in-Choice.yes.items in
    let b = c.in-Choice.no.items in
    let i = plain.choice c.in-Choice.expr (block_view look a) (block_view look b) in
    let d = depths_view c.args.depths in
    let seen : instruction_view look step.what ≡ i = search (rules, the_lemmas) in
    let own : inside step.what ≡ a ++ b = search (rules, the_lemmas) in
    let all = subst (AreAsking tables look) own (inside_marked asks) in
    let inner : IsWithin d → depths_view c.opened_by-inner.result ≡ within (play_in tables i) d
    = rw seen at (c.opened_by-inner.ensures _ (c.opens.ensures tables look)) in
    let round : IsFirst c.look_round.result (own_faults step.spot (play_in tables i) d
    ++ depth_faults step.spot (within (play_in tables i) d)) = rw seen at (c.look_round.ensures look w) in
    let body : IsWithin (within (play_in tables i) d) → IsFirst c.first_of-body.result
    (passage_faults (passage_in tables (block_view look a)) (within (play_in tables i) d)
    ++ passage_faults (passage_in tables (block_view look b)) (within (play_in tables i) d))
    = λ deep.
    c.first_of-body.ensures _ _
    (rw (inner w, c.deref.ensures.value) at (c.look_through-first.ensures look
    (subst (AreAsking tables look) (sym c.deref.ensures.value) (left_marked a b all)) (rw (inner w) deep)))
    (λ none. rw (inner w, c.deref-in-Choice.ensures.value) at (c.look_through.ensures look
    (subst (AreAsking tables look) (sym c.deref-in-Choice.ensures.value) (right_marked a b all)) (rw (inner w) deep))) in
    rw (
      seen,
      append_assoc (own_faults step.spot (play_in tables i) d ++ depth_faults step.spot (within (play_in tables i) d))
          (passage_faults (passage_in tables (block_view look a)) (within (play_in tables i) d))
          (passage_faults (passage_in tables (block_view look b)) (within (play_in tables i) d)),
    )
    (c.first_of.ensures _ _ round
    (λ none. body (still_within step.spot (own_faults step.spot (play_in tables i) d) (depths_view c.opens.result) (within (play_in tables i)) d (rw seen at (c.opens.ensures tables look)) w none)))

pub look_at-returns-in-Par : goal.look_at-returns-in-Par
look_at-returns-in-Par t c = λ look asks w.
    let tables = tables_view c.args.tables.now in
    let step = c.args.step.now in
    let view = λ (b : Vec Step Global). block_view look b.items in
    let bs = c.in-Par.branches.items in
    let i = plain.par (arms_of_blocks (map view bs)) in
    let d = depths_view c.args.depths in
    let seen : instruction_view look step.what ≡ i = search (rules, the_lemmas, map_twice) in
    let own : inside step.what ≡ flat_map vec_items bs = search (rules, the_lemmas) in
    let all = subst (AreAsking tables look) own (inside_marked asks) in
    let inner : IsWithin d → depths_view c.opened_by-inner.result ≡ within (play_in tables i) d
    = rw seen at (c.opened_by-inner.ensures _ (c.opens.ensures tables look)) in
    let round : IsFirst c.look_round-in-Par.result (own_faults step.spot (play_in tables i) d
    ++ depth_faults step.spot (within (play_in tables i) d)) = rw seen at (c.look_round-in-Par.ensures look w) in
    rw seen
    (c.first_of-in-Par.ensures _ _ round
    (λ none. rw (inner w, c.deref-in-Par.ensures.value) at (c.look_among-body.ensures look
    (rw c.deref-in-Par.ensures.value all)
    (rw (inner w) (still_within step.spot (own_faults step.spot (play_in tables i) d) (depths_view c.opens.result) (within (play_in tables i)) d (rw seen at (c.opens.ensures tables look)) w none)))))

pub look_at-returns-in-Loop : goal.look_at-returns-in-Loop
look_at-returns-in-Loop t c = λ look asks w.
    let tables = tables_view c.args.tables.now in
    let step = c.args.step.now in
    let b = c.in-Loop.body.items in
    let i = plain.loop c.in-Loop.count (block_view look b) in
    let d = depths_view c.args.depths in
    let seen : instruction_view look step.what ≡ i = search (rules, the_lemmas) in
    let own : inside step.what ≡ b = search (rules, the_lemmas) in
    let all = subst (AreAsking tables look) (own ∙ sym c.deref-in-Loop.ensures.value) (inside_marked asks) in
    let inner : IsWithin d → depths_view c.opened_by-inner.result ≡ within (play_in tables i) d
    = rw seen at (c.opened_by-inner.ensures _ (c.opens.ensures tables look)) in
    let round : IsFirst c.look_round-in-Loop.result (own_faults step.spot (play_in tables i) d
    ++ depth_faults step.spot (within (play_in tables i) d)) = rw seen at (c.look_round-in-Loop.ensures look w) in
    rw seen
    (c.first_of-in-Loop.ensures _ _ round
    (λ none. rw (inner w, c.deref-in-Loop.ensures.value) at (c.look_through-body.ensures look all
    (rw (inner w) (still_within step.spot (own_faults step.spot (play_in tables i) d) (depths_view c.opens.result) (within (play_in tables i)) d (rw seen at (c.opens.ensures tables look)) w none)))))

pub look_at-returns-in-Warp : goal.look_at-returns-in-Warp
look_at-returns-in-Warp t c = λ look asks w.
    let tables = tables_view c.args.tables.now in
    let step = c.args.step.now in
    let b = c.in-Warp.body.items in
    let i = plain.warp c.in-Warp.number (block_view look b) in
    let d = depths_view c.args.depths in
    let seen : instruction_view look step.what ≡ i = search (rules, the_lemmas) in
    let own : inside step.what ≡ b = search (rules, the_lemmas) in
    let all = subst (AreAsking tables look) (own ∙ sym c.deref-in-Warp.ensures.value) (inside_marked asks) in
    let inner : IsWithin d → depths_view c.opened_by-inner.result ≡ within (play_in tables i) d
    = rw seen at (c.opened_by-inner.ensures _ (c.opens.ensures tables look)) in
    let round : IsFirst c.look_round-in-Warp.result (own_faults step.spot (play_in tables i) d
    ++ depth_faults step.spot (within (play_in tables i) d)) = rw seen at (c.look_round-in-Warp.ensures look w) in
    rw seen
    (c.first_of-in-Warp.ensures _ _ round
    (λ none. rw (inner w, c.deref-in-Warp.ensures.value) at (c.look_through-body-in-Warp.ensures look all
    (rw (inner w) (still_within step.spot (own_faults step.spot (play_in tables i) d) (depths_view c.opens.result) (within (play_in tables i)) d (rw seen at (c.opens.ensures tables look)) w none)))))

pub look_at-returns-in-Channel : goal.look_at-returns-in-Channel
look_at-returns-in-Channel t c = λ look asks w.
    let tables = tables_view c.args.tables.now in
    let step = c.args.step.now in
    let b = c.in-Channel.body.items in
    let i = plain.channel c.in-Channel.number (block_view look b) in
    let d = depths_view c.args.depths in
    let seen : instruction_view look step.what ≡ i = search (rules, the_lemmas) in
    let own : inside step.what ≡ b = search (rules, the_lemmas) in
    let all = subst (AreAsking tables look) (own ∙ sym c.deref-in-Channel.ensures.value) (inside_marked asks) in
    let inner : IsWithin d → depths_view c.opened_by-inner.result ≡ within (play_in tables i) d
    = rw seen at (c.opened_by-inner.ensures _ (c.opens.ensures tables look)) in
    let round : IsFirst c.look_round-in-Channel.result (own_faults step.spot (play_in tables i) d
    ++ depth_faults step.spot (within (play_in tables i) d)) = rw seen at (c.look_round-in-Channel.ensures look w) in
    rw seen
    (c.first_of-in-Channel.ensures _ _ round
    (λ none. rw (inner w, c.deref-in-Channel.ensures.value) at (c.look_through-body-in-Channel.ensures look all
    (rw (inner w) (still_within step.spot (own_faults step.spot (play_in tables i) d) (depths_view c.opens.result) (within (play_in tables i)) d (rw seen at (c.opens.ensures tables look)) w none)))))

pub look_at-returns-in-Steady : goal.look_at-returns-in-Steady
look_at-returns-in-Steady t c = λ look asks w.
    let tables = tables_view c.args.tables.now in
    let step = c.args.step.now in
    let b = c.in-Steady.body.items in
    let i = plain.steady (quality_view c.in-Steady.quality) c.in-Steady.entry (block_view look b) in
    let d = depths_view c.args.depths in
    let seen : instruction_view look step.what ≡ i = search (rules, the_lemmas) in
    let own : inside step.what ≡ b = search (rules, the_lemmas) in
    let all = subst (AreAsking tables look) (own ∙ sym c.deref-in-Steady.ensures.value) (inside_marked asks) in
    let inner : IsWithin d → depths_view c.opened_by-inner.result ≡ within (play_in tables i) d
    = rw seen at (c.opened_by-inner.ensures _ (c.opens.ensures tables look)) in
    let round : IsFirst c.look_round-in-Steady.result (own_faults step.spot (play_in tables i) d
    ++ depth_faults step.spot (within (play_in tables i) d)) = rw seen at (c.look_round-in-Steady.ensures look w) in
    rw seen
    (c.first_of-in-Steady.ensures _ _ round
    (λ none. rw (inner w, c.deref-in-Steady.ensures.value) at (c.look_through-body-in-Steady.ensures look all
    (rw (inner w) (still_within step.spot (own_faults step.spot (play_in tables i) d) (depths_view c.opens.result) (within (play_in tables i)) d (rw seen at (c.opens.ensures tables look)) w none)))))

pub look_at-returns-in-Under : goal.look_at-returns-in-Under
look_at-returns-in-Under t c = λ look asks w.
    let tables = tables_view c.args.tables.now in
    let step = c.args.step.now in
    let b = c.in-Under.body.items in
    let i = plain.under (quality_view c.in-Under.quality) c.in-Under.list (block_view look b) in
    let d = depths_view c.args.depths in
    let seen : instruction_view look step.what ≡ i = search (rules, the_lemmas) in
    let own : inside step.what ≡ b = search (rules, the_lemmas) in
    let all = subst (AreAsking tables look) (own ∙ sym c.deref-in-Under.ensures.value) (inside_marked asks) in
    let inner : IsWithin d → depths_view c.opened_by-inner.result ≡ within (play_in tables i) d
    = rw seen at (c.opened_by-inner.ensures _ (c.opens.ensures tables look)) in
    let round : IsFirst c.look_round-in-Under.result (own_faults step.spot (play_in tables i) d
    ++ depth_faults step.spot (within (play_in tables i) d)) = rw seen at (c.look_round-in-Under.ensures look w) in
    rw seen
    (c.first_of-in-Under.ensures _ _ round
    (λ none. rw (inner w, c.deref-in-Under.ensures.value) at (c.look_through-body-in-Under.ensures look all
    (rw (inner w) (still_within step.spot (own_faults step.spot (play_in tables i) d) (depths_view c.opens.result) (within (play_in tables i)) d (rw seen at (c.opens.ensures tables look)) w none)))))

-- ---- statements in turn, and branches

pub look_among-loop-branch-init : goal.look_among-loop-branch-init
look_among-loop-branch-init t c = λ look asks w. refl

pub look_among-loop-branch-preserved : goal.look_among-loop-branch-preserved
look_among-loop-branch-preserved t c = λ look asks w.
    let tables = tables_view c.args.tables.now in
    let view = λ (b : Vec Step Global). block_view look b.items in
    let bs = c.args.branches.now in
    let i = c.loop-branch.branch-index in
    let b = c.branch-item.result in
    rw (
      map_take_more view bs i b c.loop-branch-test.true c.branch-item.is,
      ← fork_more tables (map view (take i bs)) (block_view look b.items) (depths_view c.args.depths),
    )
    (c.first_of-found.ensures _ _ (c.loop-branch.invariant look asks w)
    (λ none. rw c.deref.ensures.value at (c.look_through.ensures look
    (rw c.deref.ensures.value (branch_marked bs i b c.loop-branch-test.true c.branch-item.is asks)) w)))

pub look_among-returns : goal.look_among-returns
look_among-returns t c = λ look asks w.
    let whole : take c.loop-branch.branch-index c.args.branches.now ≡ c.args.branches.now
    = take_all c.loop-branch.branch-index c.args.branches.now c.loop-branch-test.false in
    rw whole at (c.loop-branch.invariant look asks w)

pub look_through-loop-step-init : goal.look_through-loop-step-init
look_through-loop-step-init t c = λ look asks w. refl

pub look_through-loop-step-preserved : goal.look_through-loop-step-preserved
look_through-loop-step-preserved t c = λ look asks w.
    let tables = tables_view c.args.tables.now in
    let steps = c.args.steps.now in
    let i = c.loop-step.step-index in
    let x = c.step-item.result in
    rw (
      take_one_more steps i x c.loop-step-test.true c.step-item.is,
      ← passage_more tables look (take i steps) x (depths_view c.args.depths),
      step_seen look x,
    )
    (c.first_of-found.ensures _ _ (c.loop-step.invariant look asks w)
    (λ none. c.look_at.ensures look (asks x i c.loop-step-test.true c.step-item.is) w))

pub look_through-returns : goal.look_through-returns
look_through-returns t c = λ look asks w.
    let whole : take c.loop-step.step-index c.args.steps.now ≡ c.args.steps.now
    = take_all c.loop-step.step-index c.args.steps.now c.loop-step-test.false in
    rw whole at (c.loop-step.invariant look asks w)
