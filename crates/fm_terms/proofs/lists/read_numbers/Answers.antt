-- An item, and further ones behind commas.
use Rattle.std.proofs.Common.{[], ◌∷◌, ◌++◌, length, ap, ◌∙◌, arith}
use Rattle.fm_grammar.specs.Grammar.{no_more}
use Rattle.fm_grammar.specs.Spelling.{num_text}
use Rattle.fm_grammar.specs.Standing.{num_tree}
use Rattle.fm_grammar.specs.Rules.{numbers}
use Rattle.fm_terms.proofs.Steps.{passed, handed, no_memory}
use Rattle.fm_terms.proofs.Ways.{one_more, no_more as no_comma}
use Rattle.fm_terms.proofs.Lengths.{num_more}
use Rattle.fm_terms.proofs.Growing.{grown, listed}
use Rattle.fm_terms.specs.Follow.{leaf_at}
use Rattle.fm_terms.proofs.lists.read_numbers.Goals as goal

pub returns-in_err-first-clause-follows : goal.returns-in_err-first-clause-follows
returns-in_err-first-clause-follows c = λ F u below a.
    let e = c.in_err-first.field-0.0 in
    let is = passed c.from_residual.result e c.from_residual.ensures.1 in
    handed F 0 below _ e _ is (c.in_err-first.ensures.follows F u _ a)

pub returns-in_err-push-clause-follows : goal.returns-in_err-push-clause-follows
returns-in_err-push-clause-follows c = λ F u below a.
    let e = c.in_err-push.field-0.0 in
    let is = passed c.from_residual-in_err-push.result e c.from_residual-in_err-push.ensures.1 in
    handed F 0 below _ e _ is (no_memory F e c.in_err-push.ensures.memory)

pub loop-r-init : goal.loop-r-init
loop-r-init c = record {
  first = c.in_ok-first.ensures.text.form;
  others = no_more;
  spells = c.in_ok-first.ensures.text.spells;
  stands_for = c.in_ok-push.ensures.ok ∙ ap (λ l. l ++ c.in_ok-first.first ∷ []) c.new-list.ensures.items
      ∙ ap (λ x. x ∷ []) c.in_ok-first.ensures.text.stands_for;
  leads = λ F u below a. c.in_ok-first.ensures.follows F u _ a;
}

pub returns-in_err-expect-clause-follows : goal.returns-in_err-expect-clause-follows
returns-in_err-expect-clause-follows c = λ F u below a.
    let e = c.in_err-expect.field-0.0 in
    let is = passed c.from_residual-in_err-expect.result e c.from_residual-in_err-expect.ensures.1 in
    handed F 0 below _ e _ is (c.in_err-expect.ensures.follows F 0 _ (one_more _ c.next_is.ensures.there F 0 numbers
    below (c.next_is.ensures.same c.loop-r-test.true) (c.loop-r.invariant.leads F u below a)))

pub returns-in_err-next-clause-follows : goal.returns-in_err-next-clause-follows
returns-in_err-next-clause-follows c = λ F u below a.
    let e = c.in_err-next.field-0.0 in
    let is = passed c.from_residual-in_err-next.result e c.from_residual-in_err-next.ensures.1 in
    handed F 0 below _ e _ is (c.in_err-next.ensures.follows F 0 _ (c.in_ok-expect.ensures.follows F 0 _
    (one_more _ c.next_is.ensures.there F 0 numbers below (c.next_is.ensures.same c.loop-r-test.true)
    (c.loop-r.invariant.leads F u below a))))

pub returns-in_err-push-2-clause-follows : goal.returns-in_err-push-2-clause-follows
returns-in_err-push-2-clause-follows c = λ F u below a.
    let e = c.in_err-push-2.field-0.0 in
    let is = passed c.from_residual-in_err-push-2.result e c.from_residual-in_err-push-2.ensures.1 in
    handed F 0 below _ e _ is (no_memory F e c.in_err-push-2.ensures.memory)

pub loop-r-preserved : goal.loop-r-preserved
loop-r-preserved c =
    grown num_text num_tree numbers _ _ _ _ _ _ _ c.loop-r.invariant
    (leaf_at c.in_ok-expect.ensures.text.bytes c.in_ok-expect.field-0) c.in_ok-next.ensures.text.form
    c.in_ok-expect.ensures.text.text c.in_ok-next.ensures.text.spells c.in_ok-next.ensures.text.stands_for
    c.in_ok-push-2.ensures.ok
    (λ F below a. c.in_ok-next.ensures.follows F 0 _ (c.in_ok-expect.ensures.follows F 0 _
    (one_more _ c.next_is.ensures.there F 0 numbers below (c.next_is.ensures.same c.loop-r-test.true) a)))

pub loop-r-smaller : goal.loop-r-smaller
loop-r-smaller c =
    let here = ap length c.in_ok-expect.ensures.text.text in
    let behind = ap length c.in_ok-next.ensures.text.spells in
    omega (arith, here, behind, num_more c.in_ok-next.ensures.text.form c.read_number-in-loop-r.new.r)

pub returns-clause-text : goal.returns-clause-text
returns-clause-text c = listed num_text num_tree numbers _ _ _ c.loop-r.invariant

pub returns-clause-follows : goal.returns-clause-follows
returns-clause-follows c = λ F u below a. no_comma _ c.next_is.ensures.there F 0 numbers below (c.next_is.ensures.other
    c.loop-r-test.false) (c.loop-r.invariant.leads F u below a)
