use Rattle.std.proofs.Common.{◌≡◌, ◌∙◌, ◌+◌, ◌-◌, ◌*◌, ◌<◌, ◌≤◌, suc, true, false, [], ◌∷◌, ◌++◌, drop, take, length, rules, refl, ap}
use Rattle.std.proofs.Common.{ap₂, sym, subst, arith}
use Rattle.std.specs.Prelude.{IfOk, map, flat_map, vec_items, slice_index_or, ◌&&◌}
use Rattle.std.proofs.lemmas.List.{take-map, length-map}
use Rattle.fm_expansion.specs.Outline as plain
use Rattle.fm_expansion.specs.Outline.{Arms, arm}
use Rattle.fm_expansion.specs.Homes as homes
use Rattle.fm_expansion.specs.Homes.{loop_round, list_of_one, slots_of, at_home, in_scope}
use Rattle.fm_expansion.specs.Emission.{forks, forks_in}
use Rattle.fm_expansion.specs.Expansion.{Joined, whole, with_scopes, straight, unrolled, written_rounds, expand, expand_in, expand_arms}
use Rattle.fm_grammar.proofs.StatementViews.{map_twice}
use Rattle.fm_outline.specs.View.{arms_of_blocks, block_view, step_view, quality_view}
use Rattle.fm_outline.specs.declared.step.Step.{the_lemmas}
use Rattle.fm_outline.specs.Forking.{inside, AreMarked}
use Rattle.fm_outline.proofs.ForkLemmas.{branch_marked, drop_at, left_marked, phrase_marked, right_marked, says}
use Rattle.fm_outline.proofs.MapLemmas.{map_at}
use Rattle.fm_plan.specs.Made.{made, made_in}
use Rattle.fm_plan.specs.Seen.{emitting_of, look_at, look_of, Agrees, Makes}
use Rattle.fm_plan.proofs.MadeLemmas.{made_phrase, made_channel, made_steady}
use Rattle.fm_plan.proofs.AgreesLemmas.{agrees_channel, agrees_steady}
use Rattle.fm_plan.proofs.Weights.{total, step_weight, steps_weight, phrases_weight, element_weight, phrase_weight}
use Rattle.fm_plan.proofs.PhraseLemmas.{phrase_stands, phrase_past}
use Rattle.fm_plan.proofs.ForkLemmas.{those_marked}
use Rattle.fm_plan.proofs.ExpandLemmas.{nothing, loop_written, loop_framed, choice_made, loop_made, list_made, warp_made, steps_on}
use Rattle.fm_plan.proofs.ExpandLemmas.{rounds_on, fork_on}
use Rattle.fm_plan.proofs.expanding.+expand.Goals as goal

pub expand_choice-returns : goal.expand_choice-returns
expand_choice-returns t c = λ i a.
    choice_made _ _ _ _ _ _ _ _ i _ _ _ _ _ _ _ a c.in_ok-push.ensures c.in_ok-expand_steps.ensures c.in_ok-push-2.ensures
    c.in_ok-expand_steps-2.ensures c.set.ensures c.set-2.ensures c.size-test.ensures c.size-jump.ensures c.in_ok-middle.ensures
    c.in_ok-target.ensures

pub expand_loop-returns : goal.expand_loop-returns
expand_loop-returns t c = λ i a.
    loop_made _ _ _ _ _ _ _ _ i _ _ _ _ _ _ a c.in_ok-push.ensures c.in_ok-back.ensures c.in_ok-scope.ensures.number
    c.in_ok-scope.ensures.programs c.in_ok-deeper.ensures c.in_ok-expand_steps.ensures c.in_ok-push-2.ensures c.in_ok-past.ensures
    c.set.ensures c.size-start.ensures

-- ---- lists and deformations

pub expand_list-returns : goal.expand_list-returns
expand_list-returns t c = λ i a.
    let many = c.expand_steps.new.m.cycles in
    let last : c.pop.new.self.items ≡ take (length many.items - 1) many.items =
    c.pop.ensures.rest ∙ ap (λ n. take (n - 1) many.items) (search rules) in
    let body = block_view (look_of c.args.earlier) c.args.body.now in
    list_made _ _ _ _ _ _ _ _ i c.args.forking _ _ body a c.in_ok-deeper.ensures c.in_ok-push.ensures
    c.in_ok-expand_steps.ensures c.in_ok-push-3.ensures
    refl c.in_ok-push-2.ensures.items refl refl last refl

pub expand_warp-returns : goal.expand_warp-returns
expand_warp-returns t c = λ i a.
    let many = c.expand_steps.new.m.levels in
    let last : c.pop.new.self.items ≡ take (length many.items - 1) many.items =
    c.pop.ensures.rest ∙ ap (λ n. take (n - 1) many.items) (search rules) in
    let body = block_view (look_of c.args.earlier) c.args.body.now in
    warp_made _ _ _ _ _ _ _ i c.args.forking _ body a c.in_ok-push.ensures
    c.in_ok-expand_steps.ensures c.in_ok-push-3.ensures
    refl refl c.in_ok-push-2.ensures.items refl refl last

-- ---- turns of loops

pub expand_steps-loop-step-preserved : goal.expand_steps-loop-step-preserved
expand_steps-loop-step-preserved t c = λ i a.
    let h = c.loop-step.invariant i a in
    let look = look_of c.args.earlier in
    let at = drop_at c.args.steps.now c.loop-step.step-index c.step-item.result c.loop-step-test.true c.step-item.is in
    let x = step_view look c.step-item.result in
    steps_on c.args.m.now c.loop-step.m c.expand_step.new.m c.args.inside i c.args.forking _ x.spot x.what
    (block_view look (drop (c.loop-step.step-index + 1) c.args.steps.now))
    (h.0, h.1, h.2, h.3 ∙ ap (λ l. made_in c.args.forking (block_view look l) i (emitting_of c.loop-step.m)) at)
    (c.in_ok-expand_step.ensures i h.0)

pub expand_rounds-loop-round-preserved : goal.expand_rounds-loop-round-preserved
expand_rounds-loop-round-preserved t c = λ i a.
    let h = c.loop-round.invariant i a in
    let body = block_view (look_of c.args.earlier) c.args.body.now in
    let end = c.written_rounds-round-end.result in
    let round = c.loop-round.round in
    let count : end - round ≡ suc (end - (round + 1)) = omega (arith, c.loop-round-test.true) in
    rounds_on c.args.m.now c.loop-round.m c.add_scope.new.self c.expand_steps.new.m c.args.inside c.in_round.result i _ body
    (end - (round + 1)) round c.in_ok-scope.scope (
      h.0,
      h.1,
      h.2,
      h.3 ∙ ap (λ k. unrolled (λ j f. expand_in body (in_scope (loop_round j) (length f.scopes) i)
          (with_scopes (slots_of (loop_round j ∷ i.homes) ∷ []) f)) k round (emitting_of c.loop-round.m)) count,
    )
    c.in_ok-scope.ensures.number c.in_ok-scope.ensures.programs c.in_round.ensures c.in_ok-expand_steps.ensures

pub expand_fork-loop-branch-preserved : goal.expand_fork-loop-branch-preserved
expand_fork-loop-branch-preserved t c = λ i a.
    let h = c.loop-branch.invariant i a in
    let look = look_of c.args.earlier in
    let at = drop_at c.args.branches.now c.loop-branch.branch-index c.branch-item.result c.loop-branch-test.true c.branch-item.is in
    let e = emitting_of c.loop-branch.m in
    let forked = c.in_ok-forked.forked in
    let lasts = c.loop-branch.lasts.items in
    let others = arms_of_blocks (map (λ b. block_view look b.items) (drop (c.loop-branch.branch-index + 1) c.args.branches.now)) in
    let number : c.in_ok-as_index.field-0 ≡ length c.expand_steps.new.m.finished.items = search rules in
    let joined_by : Arms → Joined = λ arms.
    (let j = expand_arms arms i forked (whole e) e.scopes in
    record { programs = j.programs; lasts = lasts ++ j.lasts; scopes = j.scopes }) in
    fork_on c.args.m.now c.loop-branch.m c.next_program.new.self c.expand_steps.new.m c.args.inside i
    (block_view look c.deref.result.now) others forked c.in_ok-as_index.field-0 _ lasts _ _ (
      h.0,
      h.1,
      h.2,
      h.3,
      h.4
          ∙ ap (λ l. joined_by (arms_of_blocks (map (λ b. block_view look b.items) l))) at
          ∙ ap (λ b. joined_by (arm (block_view look b) others)) (sym c.deref.ensures.value),
    )
    (c.in_ok-push.ensures.items ∙ ap (λ l. l ++ forked ∷ []) c.new-parent.ensures.items) c.in_ok-next_program.ensures
    c.in_ok-expand_steps.ensures number c.in_ok-push-2.ensures.items

-- ---- less is left

pub expand_steps-expand_step-requires : goal.expand_steps-expand_step-requires
expand_steps-expand_step-requires t c =
    let all = steps_weight c.args.steps.now in
    let part : step_weight c.step-item.result ≤ all =
    subst (λ x. step_weight x ≤ all) (sym c.step-item.is)
    (element_weight step_weight c.args.steps.now c.loop-step.step-index c.step-item.result c.loop-step-test.true) in
    let less : 4 * (phrases_weight (map vec_items c.args.earlier.bodies.now) + step_weight c.step-item.result) < t =
    omega (arith, c.decreases, part) in
    (less, (c.requires.known, c.requires.marked c.step-item.result c.loop-step.step-index c.loop-step-test.true c.step-item.is))

pub expand_fork-expand_steps-requires : goal.expand_fork-expand_steps-requires
expand_fork-expand_steps-requires t c =
    let all = total (map (λ b. steps_weight b.items) c.args.branches.now) in
    let part : steps_weight c.branch-item.result.items ≤ all =
    subst (λ b. steps_weight b.items ≤ all) (sym c.branch-item.is)
    (element_weight (λ b. steps_weight b.items) c.args.branches.now c.loop-branch.branch-index c.branch-item.result
    c.loop-branch-test.true) in
    let less : 4 * (phrases_weight (map vec_items c.args.earlier.bodies.now) + steps_weight c.deref.result.now) + 1 < t =
    omega (arith, c.decreases, part, ap steps_weight c.deref.ensures.value) in
    let those = branch_marked c.args.branches.now c.loop-branch.branch-index c.branch-item.result c.loop-branch-test.true c.branch-item.is
    c.requires.marked in
    (less, (c.requires.known, rw (c.deref.ensures.value) those))

pub expand_step-expand_fork-requires : goal.expand_step-expand_fork-requires
expand_step-expand_fork-requires t c =
    let own : step_weight c.args.step.now ≡ 1 + total (map (λ b. steps_weight b.items) c.in-Par.branches.items)
    = search (rules, the_lemmas, map_twice) in
    let less : 4 * (phrases_weight (map vec_items c.args.earlier.bodies.now)
    + total (map (λ b. steps_weight b.items) c.deref-then-forking.result.now)) + 2 < t =
    omega (arith, c.decreases, own, ap (λ l. total (map (λ b. steps_weight b.items) l)) c.deref-then-forking.ensures.value) in
    let is : inside c.args.step.now.what ≡ flat_map vec_items c.in-Par.branches.items = search (rules, the_lemmas) in
    (less, (c.requires.known, those_marked c.requires.marked is (ap (flat_map vec_items) c.deref-then-forking.ensures.value)))

pub expand_step-expand_choice-requires : goal.expand_step-expand_choice-requires
expand_step-expand_choice-requires t c =
    let a = c.in-Choice.yes.items in
    let b = c.in-Choice.no.items in
    let own : step_weight c.args.step.now ≡ 1 + (steps_weight a + steps_weight b) = search (rules, the_lemmas) in
    let less : 4 * (phrases_weight (map vec_items c.args.earlier.bodies.now)
    + (steps_weight c.deref.result.now + steps_weight c.deref-in-Choice.result.now)) + 2 < t =
    omega (arith, c.decreases, own, ap steps_weight c.deref.ensures.value, ap steps_weight c.deref-in-Choice.ensures.value) in
    let is : inside c.args.step.now.what ≡ a ++ b = search (rules, the_lemmas) in
    let look = look_of c.args.earlier in
    let all = those_marked c.requires.marked is refl in
    let yes = subst (AreMarked look) (sym c.deref.ensures.value) (left_marked a b all) in
    let no = subst (AreMarked look) (sym c.deref-in-Choice.ensures.value) (right_marked a b all) in
    (less, (c.requires.known, (yes, no)))

pub expand_phrase-expand_steps-requires : goal.expand_phrase-expand_steps-requires
expand_phrase-expand_steps-requires t c =
    let ps = map vec_items c.args.earlier.bodies.now in
    let n = c.args.number in
    let p = c.index-bodies-number.result in
    let within : n < length c.args.earlier.bodies.now = omega (arith, c.if-number-bodies.true) in
    let inside : n < length ps = omega (arith, within, length-map c.args.earlier.bodies.now vec_items) in
    let body : slice_index_or ps n (vec_items p) ≡ vec_items p =
    map_at vec_items c.args.earlier.bodies.now n p (vec_items p) within c.index-bodies-number.is in
    let less : 4 * (phrases_weight (map vec_items (take n c.args.earlier.bodies.now)) + steps_weight c.as_slice-body.result.now) + 1 < t =
    omega (
      arith,
      c.decreases,
      phrase_weight ps n (vec_items p) inside,
      ap steps_weight body,
      ap phrases_weight (take-map vec_items n c.args.earlier.bodies.now),
      ap steps_weight c.as_slice-body.ensures.value,
    ) in
    (less, phrase_marked c.args.earlier.bodies.now n p within c.index-bodies-number.is c.as_slice-body.ensures.value c.requires.known)

-- ---- phrases

pub expand_phrase-returns-then-number-bodies : goal.expand_phrase-returns-then-number-bodies
expand_phrase-returns-then-number-bodies t c = λ i a.
    let ps = map vec_items c.args.earlier.bodies.now in
    let n = c.args.number in
    let p = c.index-bodies-number.result in
    let within : n < length c.args.earlier.bodies.now = omega (arith, c.if-number-bodies.true) in
    let inside : n < length ps = omega (arith, within, length-map c.args.earlier.bodies.now vec_items) in
    let stands : look_at ps n ≡ block_view (look_at (map vec_items (take n c.args.earlier.bodies.now))) c.as_slice-body.result.now =
    phrase_stands ps n inside
    ∙ ap₂ (λ l b. block_view (look_at l) b) (take-map vec_items n c.args.earlier.bodies.now)
    (map_at vec_items c.args.earlier.bodies.now n p [] within c.index-bodies-number.is ∙ sym c.as_slice-body.ensures.value) in
    subst (λ b. IfOk c.expand_steps.result (λ _. Makes c.args.m.now c.expand_steps.new.m
    (made_in c.args.forking b i (emitting_of c.args.m.now)))) (sym stands) (c.expand_steps.ensures i a)

pub expand_phrase-returns-else-number-bodies : goal.expand_phrase-returns-else-number-bodies
expand_phrase-returns-else-number-bodies t c = λ i a.
    let ps = map vec_items c.args.earlier.bodies.now in
    let past : length ps ≤ c.args.number =
    omega (arith, c.if-number-bodies.false, length-map c.args.earlier.bodies.now vec_items) in
    nothing c.args.forking c.args.m.now _ i (phrase_past ps c.args.number past)

-- ---- statements

pub expand_step-returns-in-Some : goal.expand_step-returns-in-Some
expand_step-returns-in-Some t c = λ i a.
    let f = c.args.forking in
    let e = emitting_of c.args.m.now in
    let look = look_of c.args.earlier in
    let seen : (step_view look c.args.step.now).what ≡ plain.phrase (look c.in-Some.n) = search (rules, the_lemmas) in
    subst (λ x. IfOk c.expand_phrase.result (λ _. Makes c.args.m.now c.expand_phrase.new.m x))
    (sym (ap (λ w. made f w i e) seen ∙ made_phrase f (look c.in-Some.n) i e)) (c.expand_phrase.ensures i a)

pub expand_step-returns-in-Channel : goal.expand_step-returns-in-Channel
expand_step-returns-in-Channel t c = λ i a.
    let f = c.args.forking in
    let e = emitting_of c.args.m.now in
    let look = look_of c.args.earlier in
    let n = c.in-Channel.number in
    let inside : homes.Inside = record i { channel = n } in
    let seen : (step_view look c.args.step.now).what ≡ plain.channel n (block_view look c.in-Channel.body.items)
    = search (rules, the_lemmas) in
    subst (λ x. IfOk c.expand_steps.result (λ _. Makes c.args.m.now c.expand_steps.new.m x))
    (sym (ap (λ w. made f w i e) seen ∙ made_channel f n (block_view look c.in-Channel.body.items) i e
    ∙ ap (λ b. made_in f (block_view look b) inside e) (sym c.deref-in-Channel.ensures.value)))
    (c.expand_steps.ensures inside
    (subst (λ x. Agrees c.args.m.now x inside) (sym c.on_channel.ensures) (agrees_channel c.args.m.now c.args.inside i n a)))

pub expand_step-returns-in-Steady : goal.expand_step-returns-in-Steady
expand_step-returns-in-Steady t c = λ i a.
    let f = c.args.forking in
    let e = emitting_of c.args.m.now in
    let look = look_of c.args.earlier in
    let q = c.in-Steady.quality in
    let v = c.in-Steady.entry in
    let inside = at_home (list_of_one (quality_view q) v) i in
    let seen : (step_view look c.args.step.now).what
    ≡ plain.steady (quality_view q) v (block_view look c.in-Steady.body.items) = search (rules, the_lemmas) in
    subst (λ x. IfOk c.expand_steps-in-Steady.result (λ _. Makes c.args.m.now c.expand_steps-in-Steady.new.m x))
    (sym (ap (λ w. made f w i e) seen ∙ made_steady f (quality_view q) v (block_view look c.in-Steady.body.items) i e
    ∙ ap (λ b. made_in f (block_view look b) inside e) (sym c.deref-in-Steady.ensures.value)))
    (c.expand_steps-in-Steady.ensures inside
    (subst (λ x. Agrees c.args.m.now x inside) (sym c.steady.ensures) (agrees_steady c.args.m.now c.args.inside i q v a)))

pub expand_step-returns-then-forking : goal.expand_step-returns-then-forking
expand_step-returns-then-forking t c = λ i a.
    let e = emitting_of c.args.m.now in
    let look = look_of c.args.earlier in
    let seen : (step_view look c.args.step.now).what
    ≡ plain.par (arms_of_blocks (map (λ b. block_view look b.items) c.in-Par.branches.items))
    = search (rules, the_lemmas, map_twice) in
    subst (λ x. IfOk c.expand_fork.result (λ _. Makes c.args.m.now c.expand_fork.new.m x))
    (sym (ap₂ (λ f w. made f w i e) c.if-forking.true seen
    ∙ ap (λ l. expand (plain.par (arms_of_blocks (map (λ b. block_view look b.items) l))) i e) (sym c.deref-then-forking.ensures.value)))
    (c.expand_fork.ensures i a)

pub expand_step-returns-then-is_written_out : goal.expand_step-returns-then-is_written_out
expand_step-returns-then-is_written_out t c = λ i a.
    let f = c.args.forking in
    let e = emitting_of c.args.m.now in
    let look = look_of c.args.earlier in
    let count = c.in-Loop.count in
    let own = c.in-Loop.body.items in
    let seen : (step_view look c.args.step.now).what ≡ plain.loop count (block_view look own) = search (rules, the_lemmas) in
    let out : (f && forks_in (block_view look own)) ≡ true =
    ap (λ b. f && b) (sym (says c.requires.marked ∙ ap forks seen)) ∙ sym c.is_written_out.ensures ∙ c.if-is_written_out.true in
    subst (λ x. IfOk c.expand_rounds.result (λ _. Makes c.args.m.now c.expand_rounds.new.m x))
    (sym (ap (λ w. made f w i e) seen ∙ loop_written f count (block_view look own) i e out
    ∙ ap (λ b. unrolled (λ j g. expand_in (block_view look b) (in_scope (loop_round j) (length g.scopes) i)
    (with_scopes (slots_of (loop_round j ∷ i.homes) ∷ []) g)) (written_rounds count) 0 e)
    (sym c.deref-then-is_written_out.ensures.value)))
    (c.expand_rounds.ensures i a)

pub expand_step-returns-else-is_written_out : goal.expand_step-returns-else-is_written_out
expand_step-returns-else-is_written_out t c = λ i a.
    let f = c.args.forking in
    let e = emitting_of c.args.m.now in
    let look = look_of c.args.earlier in
    let count = c.in-Loop.count in
    let own = c.in-Loop.body.items in
    let seen : (step_view look c.args.step.now).what ≡ plain.loop count (block_view look own) = search (rules, the_lemmas) in
    let framed : (f && forks_in (block_view look own)) ≡ false =
    ap (λ b. f && b) (sym (says c.requires.marked ∙ ap forks seen)) ∙ sym c.is_written_out.ensures ∙ c.if-is_written_out.false in
    subst (λ x. IfOk c.expand_loop.result (λ _. Makes c.args.m.now c.expand_loop.new.m x))
    (sym (ap (λ w. made f w i e) seen ∙ loop_framed f count (block_view look own) i e framed
    ∙ ap (λ b. straight (plain.loop count (block_view look b)) i e) (sym c.deref-else-is_written_out.ensures.value)))
    (c.expand_loop.ensures i a)
