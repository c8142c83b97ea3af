-- Each function of an expression follows the table, and grows the draft by the nodes of its form.
use Rattle.std.proofs.Common.{◌+◌, refl, ap, ◌∙◌, arith}
use Rattle.fm_grammar.specs.Signs.{close_parenthesis}
use Rattle.fm_grammar.specs.Grammar.{negate, group, pick, compare, no_term, no_sum}
use Rattle.fm_grammar.specs.Rules.{factor, kind_code, rules_of}
use Rattle.fm_grammar.specs.Table.{taking}
use Rattle.fm_terms.proofs.Steps.{passed, kind_there, no_memory, recount}
use Rattle.fm_terms.proofs.Insides.{owes_sign, owes_terms, owes_sums, owes_second, open_minus, open_group, open_pick, open_compared, open_scaling, open_adding, no_scaling, no_adding, stopped, no_factor, no_function}
use Rattle.fm_terms.proofs.Pieces.{compared_text, compared_nodes, at_least, more_than, inner_read, scaled_read, added_read}
use Rattle.fm_terms.proofs.Drafting.{extended-none, extended-twice}
use Rattle.fm_terms.specs.Follow.{leaf_at}
use Rattle.fm_terms.proofs.expr.+expr.Goals as goal

pub read_negated-returns-in_err-minus-clause-follows : goal.read_negated-returns-in_err-minus-clause-follows
read_negated-returns-in_err-minus-clause-follows t c = λ F below o a.
    let e = c.in_err-minus.field-0.0 in
    let is = passed c.from_residual.result e c.from_residual.ensures.1 in
    stopped F below _ e _ is (c.in_err-minus.ensures.follows F _ _ (open_minus F _ _ below o a))

pub read_negated-returns-in_err-count-clause-follows : goal.read_negated-returns-in_err-count-clause-follows
read_negated-returns-in_err-count-clause-follows t c = λ F below o a.
    let e = c.in_err-count.field-0.0 in
    let is = passed c.from_residual-in_err-count.result e c.from_residual-in_err-count.ensures.1 in
    stopped F below _ e _ is (c.in_err-count.ensures.follows F _ o (c.in_ok-minus.ensures.follows F _ _
    (open_minus F _ _ below o a)))

pub read_negated-returns-in_err-push_node-clause-follows : goal.read_negated-returns-in_err-push_node-clause-follows
read_negated-returns-in_err-push_node-clause-follows t c = λ F below o a.
    let e = c.in_err-push_node.field-0.0 in
    let is = passed c.from_residual-in_err-push_node.result e c.from_residual-in_err-push_node.ensures.1 in
    stopped F below _ e _ is (no_memory F e c.in_err-push_node.ensures.memory)

pub read_negated-returns-clause-follows : goal.read_negated-returns-clause-follows
read_negated-returns-clause-follows t c = λ F below o a. c.in_ok-count.ensures.follows F _ o
    (c.in_ok-minus.ensures.follows F _ _ (open_minus F _ _ below o a))

pub read_negated-returns-clause-text : goal.read_negated-returns-clause-text
read_negated-returns-clause-text t c = record {
  form = negate (leaf_at c.in_ok-minus.ensures.text.bytes c.in_ok-minus.minus) c.in_ok-count.ensures.text.form;
  spells = rw (c.in_ok-minus.ensures.text.text, c.in_ok-count.ensures.text.spells) refl;
  grows = extended-twice _ _ _ _ _ c.in_ok-count.ensures.text.grows c.in_ok-push_node.ensures.ok;
}

pub read_group-returns-in_err-expect_within-clause-follows : goal.read_group-returns-in_err-expect_within-clause-follows
read_group-returns-in_err-expect_within-clause-follows t c = λ F below o a.
    let e = c.in_err-expect_within.field-0.0 in
    let is = passed c.from_residual.result e c.from_residual.ensures.1 in
    stopped F below _ e _ is (c.in_err-expect_within.ensures.follows F _ _ (open_group F _ _ below o a))

pub read_group-returns-in_err-count-clause-follows : goal.read_group-returns-in_err-count-clause-follows
read_group-returns-in_err-count-clause-follows t c = λ F below o a.
    let e = c.in_err-count.field-0.0 in
    let is = passed c.from_residual-in_err-count.result e c.from_residual-in_err-count.ensures.1 in
    stopped F below _ e _ is (c.in_err-count.ensures.follows F _ (owes_sign close_parenthesis below _ o)
    (c.in_ok-expect_within.ensures.follows F _ _ (open_group F _ _ below o a)))

pub read_group-returns-in_err-expect-clause-follows : goal.read_group-returns-in_err-expect-clause-follows
read_group-returns-in_err-expect-clause-follows t c = λ F below o a.
    let e = c.in_err-expect.field-0.0 in
    let is = passed c.from_residual-in_err-expect.result e c.from_residual-in_err-expect.ensures.1 in
    stopped F below _ e _ is (c.in_err-expect.ensures.inside F _ _ (c.in_ok-count.ensures.follows F _
    (owes_sign close_parenthesis below _ o) (c.in_ok-expect_within.ensures.follows F _ _
    (open_group F _ _ below o a))))

pub read_group-returns-clause-follows : goal.read_group-returns-clause-follows
read_group-returns-clause-follows t c = λ F below o a. c.in_ok-expect.ensures.inside F _ _
    (c.in_ok-count.ensures.follows F _ (owes_sign close_parenthesis below _ o) (c.in_ok-expect_within.ensures.follows F _ _
    (open_group F _ _ below o a)))

pub read_group-returns-clause-text : goal.read_group-returns-clause-text
read_group-returns-clause-text t c = record {
  form = group (leaf_at c.in_ok-expect_within.ensures.text.bytes c.in_ok-expect_within.field-0) c.in_ok-count.ensures.text.form
      (leaf_at c.in_ok-expect.ensures.text.bytes c.in_ok-expect.field-0);
  spells = rw (c.in_ok-expect_within.ensures.text.text, c.in_ok-count.ensures.text.spells, c.in_ok-expect.ensures.text.text)
      refl;
  grows = c.in_ok-count.ensures.text.grows;
}

pub read_pick-returns-in_err-word-clause-follows : goal.read_pick-returns-in_err-word-clause-follows
read_pick-returns-in_err-word-clause-follows t c = λ F below o a.
    let e = c.in_err-word.field-0.0 in
    let is = passed c.from_residual.result e c.from_residual.ensures.1 in
    stopped F below _ e _ is (c.in_err-word.ensures.follows F _ _ (open_pick F _ _ below o a))

pub read_pick-returns-in_err-expect-clause-follows : goal.read_pick-returns-in_err-expect-clause-follows
read_pick-returns-in_err-expect-clause-follows t c = λ F below o a.
    let e = c.in_err-expect.field-0.0 in
    let is = passed c.from_residual-in_err-expect.result e c.from_residual-in_err-expect.ensures.1 in
    stopped F below _ e _ is (c.in_err-expect.ensures.inside F _ _ (c.in_ok-word.ensures.follows F _ _
    (open_pick F _ _ below o a)))

pub read_pick-returns-in_err-count-clause-follows : goal.read_pick-returns-in_err-count-clause-follows
read_pick-returns-in_err-count-clause-follows t c = λ F below o a.
    let e = c.in_err-count.field-0.0 in
    let is = passed c.from_residual-in_err-count.result e c.from_residual-in_err-count.ensures.1 in
    stopped F below _ e _ is (c.in_err-count.ensures.follows F _ (owes_sign close_parenthesis below _ o)
    (recount F (c.args.used + 1 + 1) (c.args.used + 2) _ _ (omega arith) (c.in_ok-expect.ensures.inside F _ _
    (c.in_ok-word.ensures.follows F _ _ (open_pick F _ _ below o a)))))

pub read_pick-returns-in_err-expect-2-clause-follows : goal.read_pick-returns-in_err-expect-2-clause-follows
read_pick-returns-in_err-expect-2-clause-follows t c = λ F below o a.
    let e = c.in_err-expect-2.field-0.0 in
    let is = passed c.from_residual-in_err-expect-2.result e c.from_residual-in_err-expect-2.ensures.1 in
    stopped F below _ e _ is (c.in_err-expect-2.ensures.inside F _ _ (c.in_ok-count.ensures.follows F _
    (owes_sign close_parenthesis below _ o) (recount F (c.args.used + 1 + 1) (c.args.used + 2) _ _ (omega arith)
    (c.in_ok-expect.ensures.inside F _ _ (c.in_ok-word.ensures.follows F _ _
    (open_pick F _ _ below o a))))))

pub read_pick-returns-in_err-push_node-clause-follows : goal.read_pick-returns-in_err-push_node-clause-follows
read_pick-returns-in_err-push_node-clause-follows t c = λ F below o a.
    let e = c.in_err-push_node.field-0.0 in
    let is = passed c.from_residual-in_err-push_node.result e c.from_residual-in_err-push_node.ensures.1 in
    stopped F below _ e _ is (no_memory F e c.in_err-push_node.ensures.memory)

pub read_pick-returns-clause-follows : goal.read_pick-returns-clause-follows
read_pick-returns-clause-follows t c = λ F below o a. c.in_ok-expect-2.ensures.inside F _ _
    (c.in_ok-count.ensures.follows F _ (owes_sign close_parenthesis below _ o) (recount F (c.args.used + 1 + 1)
    (c.args.used + 2) _ _ (omega arith) (c.in_ok-expect.ensures.inside F _ _ (c.in_ok-word.ensures.follows F _ _
    (open_pick F _ _ below o a)))))

pub read_pick-returns-clause-text : goal.read_pick-returns-clause-text
read_pick-returns-clause-text t c = record {
  form = pick (leaf_at c.in_ok-word.ensures.text.bytes c.in_ok-word.word) (leaf_at c.in_ok-expect.ensures.text.bytes
      c.in_ok-expect.field-0) c.in_ok-count.ensures.text.form (leaf_at c.in_ok-expect-2.ensures.text.bytes
      c.in_ok-expect-2.field-0);
  spells = rw (
    c.in_ok-word.ensures.text.text,
    c.in_ok-expect.ensures.text.text,
    c.in_ok-count.ensures.text.spells,
    c.in_ok-expect-2.ensures.text.text,
  ) refl;
  grows = extended-twice _ _ _ _ _ c.in_ok-count.ensures.text.grows c.in_ok-push_node.ensures.ok;
}

pub read_two-returns-in_err-expect-clause-follows : goal.read_two-returns-in_err-expect-clause-follows
read_two-returns-in_err-expect-clause-follows t c = λ F below o a.
    let e = c.in_err-expect.field-0.0 in
    let is = passed c.from_residual.result e c.from_residual.ensures.1 in
    stopped F below _ e _ is (c.in_err-expect.ensures.inside F _ _ a)

pub read_two-returns-in_err-first-clause-follows : goal.read_two-returns-in_err-first-clause-follows
read_two-returns-in_err-first-clause-follows t c = λ F below o a.
    let e = c.in_err-first.field-0.0 in
    let is = passed c.from_residual-in_err-first.result e c.from_residual-in_err-first.ensures.1 in
    stopped F below _ e _ is (c.in_err-first.ensures.follows F _ (owes_second below _ o)
    (c.in_ok-expect.ensures.inside F _ _ a))

pub read_two-returns-in_err-expect-2-clause-follows : goal.read_two-returns-in_err-expect-2-clause-follows
read_two-returns-in_err-expect-2-clause-follows t c = λ F below o a.
    let e = c.in_err-expect-2.field-0.0 in
    let is = passed c.from_residual-in_err-expect-2.result e c.from_residual-in_err-expect-2.ensures.1 in
    stopped F below _ e _ is (c.in_err-expect-2.ensures.inside F _ _ (c.in_ok-first.ensures.follows F _
    (owes_second below _ o) (c.in_ok-expect.ensures.inside F _ _ a)))

pub read_two-returns-in_err-second-clause-follows : goal.read_two-returns-in_err-second-clause-follows
read_two-returns-in_err-second-clause-follows t c = λ F below o a.
    let e = c.in_err-second.field-0.0 in
    let is = passed c.from_residual-in_err-second.result e c.from_residual-in_err-second.ensures.1 in
    stopped F below _ e _ is (c.in_err-second.ensures.follows F _ (owes_sign close_parenthesis below _ o)
    (c.in_ok-expect-2.ensures.inside F _ _ (c.in_ok-first.ensures.follows F _ (owes_second below _ o)
    (c.in_ok-expect.ensures.inside F _ _ a))))

pub read_two-returns-in_err-expect-3-clause-follows : goal.read_two-returns-in_err-expect-3-clause-follows
read_two-returns-in_err-expect-3-clause-follows t c = λ F below o a.
    let e = c.in_err-expect-3.field-0.0 in
    let is = passed c.from_residual-in_err-expect-3.result e c.from_residual-in_err-expect-3.ensures.1 in
    stopped F below _ e _ is (c.in_err-expect-3.ensures.inside F _ _ (c.in_ok-second.ensures.follows F _
    (owes_sign close_parenthesis below _ o) (c.in_ok-expect-2.ensures.inside F _ _ (c.in_ok-first.ensures.follows F
    _ (owes_second below _ o) (c.in_ok-expect.ensures.inside F _ _ a)))))

pub read_two-returns-clause-follows : goal.read_two-returns-clause-follows
read_two-returns-clause-follows t c = λ F below o a. c.in_ok-expect-3.ensures.inside F _ _
    (c.in_ok-second.ensures.follows F _ (owes_sign close_parenthesis below _ o) (c.in_ok-expect-2.ensures.inside F _ _
    (c.in_ok-first.ensures.follows F _ (owes_second below _ o) (c.in_ok-expect.ensures.inside F _ _ a))))

pub read_two-returns-clause-text : goal.read_two-returns-clause-text
read_two-returns-clause-text t c = record {
  form = record {
    opens = leaf_at c.in_ok-expect.ensures.text.bytes c.in_ok-expect.field-0;
    left = c.in_ok-first.ensures.text.form;
    comma_at = leaf_at c.in_ok-expect-2.ensures.text.bytes
        c.in_ok-expect-2.field-0;
    right = c.in_ok-second.ensures.text.form;
    closes =
        (leaf_at c.in_ok-expect-3.ensures.text.bytes c.in_ok-expect-3.field-0);
  };
  spells = rw (
    c.in_ok-expect.ensures.text.text,
    c.in_ok-first.ensures.text.spells,
    c.in_ok-expect-2.ensures.text.text,
    c.in_ok-second.ensures.text.spells,
    c.in_ok-expect-3.ensures.text.text,
  ) refl;
  grows = extended-twice _ _ _ _ _ c.in_ok-first.ensures.text.grows c.in_ok-second.ensures.text.grows;
}

pub read_compared-returns-in_err-spot-clause-follows : goal.read_compared-returns-in_err-spot-clause-follows
read_compared-returns-in_err-spot-clause-follows t c = λ F below o a.
    let e = c.in_err-spot.field-0.0 in
    let is = passed c.from_residual.result e c.from_residual.ensures.1 in
    stopped F below _ e _ is (c.in_err-spot.ensures.follows F _ _ (open_compared F _ _ below o _ _ c.requires.compares.word_is a))

pub read_compared-returns-in_err-count-clause-follows : goal.read_compared-returns-in_err-count-clause-follows
read_compared-returns-in_err-count-clause-follows t c = λ F below o a.
    let e = c.in_err-count.field-0.0 in
    let is = passed c.from_residual-in_err-count.result e c.from_residual-in_err-count.ensures.1 in
    stopped F below _ e _ is (c.in_err-count.ensures.follows F _ o (c.in_ok-spot.ensures.follows F _ _
    (open_compared F _ _ below o _ _ c.requires.compares.word_is a)))

pub read_compared-returns-in_err-push_node-clause-follows : goal.read_compared-returns-in_err-push_node-clause-follows
read_compared-returns-in_err-push_node-clause-follows t c = λ F below o a.
    let e = c.in_err-push_node.field-0.0 in
    let is = passed c.from_residual-in_err-push_node.result e c.from_residual-in_err-push_node.ensures.1 in
    stopped F below _ e _ is (no_memory F e c.in_err-push_node.ensures.memory)

pub read_compared-returns-clause-follows : goal.read_compared-returns-clause-follows
read_compared-returns-clause-follows t c = λ F below o a. c.in_ok-count.ensures.follows F _ o
    (c.in_ok-spot.ensures.follows F _ _ (open_compared F _ _ below o _ _ c.requires.compares.word_is a))

pub read_compared-returns-clause-text : goal.read_compared-returns-clause-text
read_compared-returns-clause-text t c = record {
  form = compare c.requires.compares.sort (leaf_at c.in_ok-spot.ensures.text.bytes c.in_ok-spot.spot)
      c.in_ok-count.ensures.text.form.opens c.in_ok-count.ensures.text.form.left
      c.in_ok-count.ensures.text.form.comma_at c.in_ok-count.ensures.text.form.right
      c.in_ok-count.ensures.text.form.closes;
  spells = c.in_ok-spot.ensures.text.text ∙ compared_text _ _ c.requires.compares.word_is _ _ _ _
      c.in_ok-count.ensures.text.spells;
  grows = compared_nodes _ _ c.requires.compares.node_is _ _ _ _ _ _ c.in_ok-count.ensures.text.grows
      c.in_ok-push_node.ensures.ok;
}

pub read_terms-returns-in_err-spot-clause-follows : goal.read_terms-returns-in_err-spot-clause-follows
read_terms-returns-in_err-spot-clause-follows t c = λ F below o a.
    let e = c.in_err-spot.field-0.0 in
    let is = passed c.from_residual.result e c.from_residual.ensures.1 in
    stopped F below _ e _ is (c.in_err-spot.ensures.follows F _ _ (open_scaling F _ _ below o _ _ c.in-Some.ensures.some.kind_is a))

pub read_terms-returns-in_err-first-clause-follows : goal.read_terms-returns-in_err-first-clause-follows
read_terms-returns-in_err-first-clause-follows t c = λ F below o a.
    let e = c.in_err-first.field-0.0 in
    let is = passed c.from_residual-in_err-first.result e c.from_residual-in_err-first.ensures.1 in
    stopped F below _ e _ is (c.in_err-first.ensures.follows F _ (owes_terms below _ o) (c.in_ok-spot.ensures.follows F _
    _ (open_scaling F _ _ below o _ _ c.in-Some.ensures.some.kind_is a)))

pub read_terms-returns-in_err-push_node-clause-follows : goal.read_terms-returns-in_err-push_node-clause-follows
read_terms-returns-in_err-push_node-clause-follows t c = λ F below o a.
    let e = c.in_err-push_node.field-0.0 in
    let is = passed c.from_residual-in_err-push_node.result e c.from_residual-in_err-push_node.ensures.1 in
    stopped F below _ e _ is (no_memory F e c.in_err-push_node.ensures.memory)

pub read_terms-returns-clause-follows : goal.read_terms-returns-clause-follows
read_terms-returns-clause-follows t c = λ F below o a. c.read_terms.ensures.follows F _ o
    (c.in_ok-first.ensures.follows F _ (owes_terms below _ o) (c.in_ok-spot.ensures.follows F _ _
    (open_scaling F _ _ below o _ _ c.in-Some.ensures.some.kind_is a)))

pub read_terms-returns-in_default-clause-follows : goal.read_terms-returns-in_default-clause-follows
read_terms-returns-in_default-clause-follows t c = λ F below o a. no_scaling _ _ c.peek-token.ensures F c.args.used
    c.args.owed below o (c.scaling_of.ensures.none c.in_default.is) a

pub read_terms-returns-in_default-clause-text : goal.read_terms-returns-in_default-clause-text
read_terms-returns-in_default-clause-text t c = record { form = no_term; spells = refl; grows = extended-none _ }

pub read_terms-returns-clause-more : goal.read_terms-returns-clause-more
read_terms-returns-clause-more t c =
    at_least _ c.args.used c.in_ok-first.first (omega (arith, c.in_ok-first.ensures.more)) c.read_terms.ensures.more

pub read_terms-returns-clause-text : goal.read_terms-returns-clause-text
read_terms-returns-clause-text t c =
    scaled_read _ _ _ c.in-Some.ensures.some.sign c.in-Some.ensures.some.kind_is c.in-Some.ensures.some.node_is
    (leaf_at c.in_ok-spot.ensures.text.bytes c.in_ok-spot.spot) _ _ _ _ _ _ _ _ c.in_ok-spot.ensures.text.text
    c.in_ok-first.ensures.text c.in_ok-push_node.ensures.ok c.read_terms.ensures.text

pub read_sums-returns-in_err-spot-clause-follows : goal.read_sums-returns-in_err-spot-clause-follows
read_sums-returns-in_err-spot-clause-follows t c = λ F below o a.
    let e = c.in_err-spot.field-0.0 in
    let is = passed c.from_residual.result e c.from_residual.ensures.1 in
    stopped F below _ e _ is (c.in_err-spot.ensures.follows F _ _ (open_adding F _ _ below o _ _ c.in-Some.ensures.some.kind_is a))

pub read_sums-returns-in_err-factor-clause-follows : goal.read_sums-returns-in_err-factor-clause-follows
read_sums-returns-in_err-factor-clause-follows t c = λ F below o a.
    let e = c.in_err-factor.field-0.0 in
    let is = passed c.from_residual-in_err-factor.result e c.from_residual-in_err-factor.ensures.1 in
    stopped F below _ e _ is (c.in_err-factor.ensures.follows F _ (owes_terms _ _ (owes_sums below _ o))
    (c.in_ok-spot.ensures.follows F _ _ (open_adding F _ _ below o _ _ c.in-Some.ensures.some.kind_is a)))

pub read_sums-returns-in_err-term-clause-follows : goal.read_sums-returns-in_err-term-clause-follows
read_sums-returns-in_err-term-clause-follows t c = λ F below o a.
    let e = c.in_err-term.field-0.0 in
    let is = passed c.from_residual-in_err-term.result e c.from_residual-in_err-term.ensures.1 in
    stopped F below _ e _ is (c.in_err-term.ensures.follows F _ (owes_sums below _ o) (c.in_ok-factor.ensures.follows F
    _ (owes_terms _ _ (owes_sums below _ o)) (c.in_ok-spot.ensures.follows F _ _
    (open_adding F _ _ below o _ _ c.in-Some.ensures.some.kind_is a))))

pub read_sums-returns-in_err-push_node-clause-follows : goal.read_sums-returns-in_err-push_node-clause-follows
read_sums-returns-in_err-push_node-clause-follows t c = λ F below o a.
    let e = c.in_err-push_node.field-0.0 in
    let is = passed c.from_residual-in_err-push_node.result e c.from_residual-in_err-push_node.ensures.1 in
    stopped F below _ e _ is (no_memory F e c.in_err-push_node.ensures.memory)

pub read_sums-returns-clause-follows : goal.read_sums-returns-clause-follows
read_sums-returns-clause-follows t c = λ F below o a. c.read_sums.ensures.follows F _ o (c.in_ok-term.ensures.follows
    F _ (owes_sums below _ o) (c.in_ok-factor.ensures.follows F _ (owes_terms _ _ (owes_sums below _ o))
    (c.in_ok-spot.ensures.follows F _ _ (open_adding F _ _ below o _ _ c.in-Some.ensures.some.kind_is a))))

pub read_sums-returns-in_default-clause-follows : goal.read_sums-returns-in_default-clause-follows
read_sums-returns-in_default-clause-follows t c = λ F below o a. no_adding _ _ c.peek-token.ensures F c.args.used
    c.args.owed below o (c.adding_of.ensures.none c.in_default.is) a

pub read_sums-returns-in_default-clause-text : goal.read_sums-returns-in_default-clause-text
read_sums-returns-in_default-clause-text t c = record { form = no_sum; spells = refl; grows = extended-none _ }

pub read_sums-returns-clause-more : goal.read_sums-returns-clause-more
read_sums-returns-clause-more t c =
    at_least _ c.args.used c.in_ok-term.term (omega (arith, c.in_ok-factor.ensures.more, c.in_ok-term.ensures.more))
    c.read_sums.ensures.more

pub read_sums-returns-clause-text : goal.read_sums-returns-clause-text
read_sums-returns-clause-text t c =
    added_read _ _ _ c.in-Some.ensures.some.sign c.in-Some.ensures.some.kind_is c.in-Some.ensures.some.node_is
    (leaf_at c.in_ok-spot.ensures.text.bytes c.in_ok-spot.spot) _ _ _ _ _ _ _ _ _ _ c.in_ok-spot.ensures.text.text
    c.in_ok-factor.ensures.text c.in_ok-term.ensures.text c.in_ok-push_node.ensures.ok c.read_sums.ensures.text

pub read_inner-returns-in_err-factor-clause-follows : goal.read_inner-returns-in_err-factor-clause-follows
read_inner-returns-in_err-factor-clause-follows t c = λ F below o a.
    let e = c.in_err-factor.field-0.0 in
    let is = passed c.from_residual.result e c.from_residual.ensures.1 in
    stopped F below _ e _ is (c.in_err-factor.ensures.follows F _ (owes_terms _ _ (owes_sums below _ o)) a)

pub read_inner-returns-in_err-term-clause-follows : goal.read_inner-returns-in_err-term-clause-follows
read_inner-returns-in_err-term-clause-follows t c = λ F below o a.
    let e = c.in_err-term.field-0.0 in
    let is = passed c.from_residual-in_err-term.result e c.from_residual-in_err-term.ensures.1 in
    stopped F below _ e _ is (c.in_err-term.ensures.follows F _ (owes_sums below _ o) (c.in_ok-factor.ensures.follows F
    _ (owes_terms _ _ (owes_sums below _ o)) a))

pub read_inner-returns-clause-follows : goal.read_inner-returns-clause-follows
read_inner-returns-clause-follows t c = λ F below o a. c.read_sums.ensures.follows F _ o (c.in_ok-term.ensures.follows
    F _ (owes_sums below _ o) (c.in_ok-factor.ensures.follows F _ (owes_terms _ _ (owes_sums below _ o)) a))

pub read_inner-returns-clause-more : goal.read_inner-returns-clause-more
read_inner-returns-clause-more t c =
    more_than _ c.args.used c.in_ok-term.term (omega (arith, c.in_ok-factor.ensures.more, c.in_ok-term.ensures.more))
    c.read_sums.ensures.more

pub read_inner-returns-clause-text : goal.read_inner-returns-clause-text
read_inner-returns-clause-text t c = inner_read _ _ _ _ _ _ _ _ _ c.in_ok-factor.ensures.text c.in_ok-term.ensures.text
    c.read_sums.ensures.text

pub read_function-returns-in_default : goal.read_function-returns-in_default
read_function-returns-in_default t c = record {
  room = tt;
  more = tt;
  text = tt;
  follows = λ F below o a.
      no_factor F _ below _ _ c.peek.ensures
      (ap (λ k. taking (kind_code k) (rules_of factor)) (kind_there _ _ _ c.peek.ensures c.requires.first)
      ∙ no_function c.args.word c.in_default.not-Pick c.in_default.not-Min c.in_default.not-Max c.in_default.not-Less
      c.in_default.not-Same) a;
}
