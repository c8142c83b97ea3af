-- The head of a score.
use Rattle.std.proofs.Common.{refl}
use Rattle.fm_terms.proofs.Steps.{passed, handed}
use Rattle.fm_terms.specs.Follow.{leaf_at}
use Rattle.fm_parse.proofs.Heads.{divides, as_tested}
use Rattle.fm_parse.proofs.text.read_head.Goals as goal

pub returns-in_err-expect-clause-follows : goal.returns-in_err-expect-clause-follows
returns-in_err-expect-clause-follows c = λ F a.
    let e = c.in_err-expect.field-0.0 in
    let is = passed c.from_residual.result e c.from_residual.ensures.1 in
    handed F 0 _ _ e _ is (c.in_err-expect.ensures.follows F 0 _ a)

pub returns-in_err-version-clause-follows : goal.returns-in_err-version-clause-follows
returns-in_err-version-clause-follows c = λ F a.
    let e = c.in_err-version.field-0.0 in
    let is = passed c.from_residual-in_err-version.result e c.from_residual-in_err-version.ensures.1 in
    handed F 0 _ _ e _ is (c.in_err-version.ensures.follows F 0 _ (c.in_ok-expect.ensures.follows F 0 _ a))

pub returns-in_err-expect-2-clause-follows : goal.returns-in_err-expect-2-clause-follows
returns-in_err-expect-2-clause-follows c = λ F a.
    let e = c.in_err-expect-2.field-0.0 in
    let is = passed c.from_residual-in_err-expect-2.result e c.from_residual-in_err-expect-2.ensures.1 in
    handed F 0 _ _ e _ is (c.in_err-expect-2.ensures.follows F 0 _ (c.in_ok-version.ensures.follows F 0 _
    (c.in_ok-expect.ensures.follows F 0 _ a)))

pub returns-in_err-division-clause-follows : goal.returns-in_err-division-clause-follows
returns-in_err-division-clause-follows c = λ F a.
    let e = c.in_err-division.field-0.0 in
    let is = passed c.from_residual-in_err-division.result e c.from_residual-in_err-division.ensures.1 in
    let same = divides _ _ _ _ _ _ _ _ c.in_ok-expect.ensures.text.text c.in_ok-version.ensures.text.spells
    c.in_ok-version.ensures.text.stands_for c.in_ok-expect-2.ensures.text.text in
    handed F 0 _ _ e _ is (c.in_err-division.ensures.follows F (as_tested F _ _ _ same
    (c.in_ok-expect-2.ensures.follows F 0 _ (c.in_ok-version.ensures.follows F 0 _ (c.in_ok-expect.ensures.follows F 0 _ a)))))

pub returns-in_err-seed-clause-follows : goal.returns-in_err-seed-clause-follows
returns-in_err-seed-clause-follows c = λ F a.
    let e = c.in_err-seed.field-0.0 in
    let is = passed c.from_residual-in_err-seed.result e c.from_residual-in_err-seed.ensures.1 in
    let same = divides _ _ _ _ _ _ _ _ c.in_ok-expect.ensures.text.text c.in_ok-version.ensures.text.spells
    c.in_ok-version.ensures.text.stands_for c.in_ok-expect-2.ensures.text.text in
    handed F 0 _ _ e _ is (c.in_err-seed.ensures.follows F 0 _
    (c.in_ok-division.ensures.follows F (as_tested F _ _ _ same
    (c.in_ok-expect-2.ensures.follows F 0 _ (c.in_ok-version.ensures.follows F 0 _ (c.in_ok-expect.ensures.follows F 0 _ a))))))

pub returns-clause-follows : goal.returns-clause-follows
returns-clause-follows c = λ F a.
    let same = divides _ _ _ _ _ _ _ _ c.in_ok-expect.ensures.text.text c.in_ok-version.ensures.text.spells
    c.in_ok-version.ensures.text.stands_for c.in_ok-expect-2.ensures.text.text in
    c.in_ok-seed.ensures.follows F 0 _ (c.in_ok-division.ensures.follows F (as_tested F _ _ _ same
    (c.in_ok-expect-2.ensures.follows F 0 _ (c.in_ok-version.ensures.follows F 0 _ (c.in_ok-expect.ensures.follows F 0 _ a)))))

pub returns-clause-text : goal.returns-clause-text
returns-clause-text c = record {
  form = record {
    word = leaf_at c.in_ok-expect.ensures.text.bytes c.in_ok-expect.field-0;
    version = c.in_ok-version.ensures.text.form;
    ends = leaf_at c.in_ok-expect-2.ensures.text.bytes
        c.in_ok-expect-2.field-0;
    divided = c.in_ok-division.ensures.text.form;
    seeded = c.in_ok-seed.ensures.text.form;
  };
  spells = rw (
    c.in_ok-expect.ensures.text.text,
    c.in_ok-version.ensures.text.spells,
    c.in_ok-expect-2.ensures.text.text,
    c.in_ok-division.ensures.text.spells,
    c.in_ok-seed.ensures.text.spells,
  ) refl;
  stands_for = rw (
    c.in_ok-version.ensures.text.stands_for,
    c.in_ok-division.ensures.text.stands_for,
    c.in_ok-seed.ensures.text.stands_for,
  ) refl;
}
