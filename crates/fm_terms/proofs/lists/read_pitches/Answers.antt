-- An item, and further ones behind commas.
use Rattle.std.proofs.Common.{[], ◌∷◌, ◌++◌, length, map, ap, ◌∙◌, arith}
use Rattle.std.proofs.lemmas.List.{map-append}
use Rattle.fm_grammar.specs.View.{pitch_view}
use Rattle.fm_grammar.specs.Grammar.{no_more}
use Rattle.fm_grammar.specs.Spelling.{pitch_text}
use Rattle.fm_grammar.specs.Standing.{pitch_tree}
use Rattle.fm_grammar.specs.Rules.{pitches}
use Rattle.fm_terms.proofs.Steps.{passed, handed, no_memory}
use Rattle.fm_terms.proofs.Ways.{one_more, no_more as no_comma}
use Rattle.fm_terms.proofs.Lengths.{pitch_more}
use Rattle.fm_terms.proofs.Growing.{grown, listed}
use Rattle.fm_terms.specs.Follow.{leaf_at}
use Rattle.fm_terms.proofs.lists.read_pitches.Goals as goal

pub returns-in_err-first-clause-follows : goal.returns-in_err-first-clause-follows
returns-in_err-first-clause-follows c = λ F u below a.
    let e = c.in_err-first.field-0.0 in
    let is = passed c.from_residual.result e c.from_residual.ensures.1 in
    handed F 0 below _ e _ is (c.in_err-first.ensures.follows F u _ a)

pub returns-in_err-append-clause-follows : goal.returns-in_err-append-clause-follows
returns-in_err-append-clause-follows c = λ F u below a.
    let e = c.in_err-append.field-0.0 in
    let is = passed c.from_residual-in_err-append.result e c.from_residual-in_err-append.ensures.1 in
    handed F 0 below _ e _ is (no_memory F e c.in_err-append.ensures.memory)

pub loop-alloc-init : goal.loop-alloc-init
loop-alloc-init c = record {
  first = c.in_ok-first.ensures.text.form;
  others = no_more;
  spells = c.in_ok-first.ensures.text.spells;
  stands_for = ap (map pitch_view) (c.in_ok-append.ensures.ok ∙ ap (λ l. l ++ c.in_ok-first.first ∷ [])
      c.new-list.ensures.items) ∙ ap (λ x. x ∷ []) c.in_ok-first.ensures.text.stands_for;
  leads = λ F u below a. c.in_ok-first.ensures.follows F u _ a;
}

pub returns-in_err-expect-clause-follows : goal.returns-in_err-expect-clause-follows
returns-in_err-expect-clause-follows c = λ F u below a.
    let e = c.in_err-expect.field-0.0 in
    let is = passed c.from_residual-in_err-expect.result e c.from_residual-in_err-expect.ensures.1 in
    handed F 0 below _ e _ is (c.in_err-expect.ensures.follows F 0 _ (one_more _ c.next_is.ensures.there F 0 pitches
    below (c.next_is.ensures.same c.loop-alloc-test.true) (c.loop-alloc.invariant.leads F u below a)))

pub returns-in_err-next-clause-follows : goal.returns-in_err-next-clause-follows
returns-in_err-next-clause-follows c = λ F u below a.
    let e = c.in_err-next.field-0.0 in
    let is = passed c.from_residual-in_err-next.result e c.from_residual-in_err-next.ensures.1 in
    handed F 0 below _ e _ is (c.in_err-next.ensures.follows F 0 _ (c.in_ok-expect.ensures.follows F 0 _
    (one_more _ c.next_is.ensures.there F 0 pitches below (c.next_is.ensures.same c.loop-alloc-test.true)
    (c.loop-alloc.invariant.leads F u below a))))

pub returns-in_err-append-2-clause-follows : goal.returns-in_err-append-2-clause-follows
returns-in_err-append-2-clause-follows c = λ F u below a.
    let e = c.in_err-append-2.field-0.0 in
    let is = passed c.from_residual-in_err-append-2.result e c.from_residual-in_err-append-2.ensures.1 in
    handed F 0 below _ e _ is (no_memory F e c.in_err-append-2.ensures.memory)

pub loop-alloc-preserved : goal.loop-alloc-preserved
loop-alloc-preserved c =
    grown pitch_text pitch_tree pitches _ _ _ _ _ _ _ c.loop-alloc.invariant
    (leaf_at c.in_ok-expect.ensures.text.bytes c.in_ok-expect.field-0) c.in_ok-next.ensures.text.form
    c.in_ok-expect.ensures.text.text c.in_ok-next.ensures.text.spells c.in_ok-next.ensures.text.stands_for
    (ap (map pitch_view) c.in_ok-append-2.ensures.ok ∙ map-append pitch_view c.loop-alloc.list.items
    (c.in_ok-next.next ∷ []))
    (λ F below a. c.in_ok-next.ensures.follows F 0 _ (c.in_ok-expect.ensures.follows F 0 _
    (one_more _ c.next_is.ensures.there F 0 pitches below (c.next_is.ensures.same c.loop-alloc-test.true) a)))

pub loop-alloc-smaller : goal.loop-alloc-smaller
loop-alloc-smaller c =
    let here = ap length c.in_ok-expect.ensures.text.text in
    let behind = ap length c.in_ok-next.ensures.text.spells in
    omega (arith, here, behind, pitch_more c.in_ok-next.ensures.text.form c.read_pitch-in-loop-alloc.new.r)

pub returns-clause-text : goal.returns-clause-text
returns-clause-text c = listed pitch_text pitch_tree pitches _ _ _ c.loop-alloc.invariant

pub returns-clause-follows : goal.returns-clause-follows
returns-clause-follows c = λ F u below a. no_comma _ c.next_is.ensures.there F 0 pitches below (c.next_is.ensures.other
    c.loop-alloc-test.false) (c.loop-alloc.invariant.leads F u below a)
