-- The name of a deformation.
use Rattle.std.proofs.Common.{refl}
use Rattle.fm_grammar.specs.Grammar as forms
use Rattle.fm_grammar.specs.View.{name_view}
use Rattle.fm_terms.proofs.Steps.{passed, handed}
use Rattle.fm_terms.specs.Follow.{leaf_at}
use Rattle.fm_parse.proofs.opening.read_warp.Goals as goal

pub returns-in_err-spot-clause-follows : goal.returns-in_err-spot-clause-follows
returns-in_err-spot-clause-follows c = λ F u below a.
    let e = c.in_err-spot.field-0.0 in
    let is = passed c.from_residual.result e c.from_residual.ensures.1 in
    handed F 0 below _ e _ is (c.in_err-spot.ensures.follows F u _ a)

pub returns-in_err-name-clause-follows : goal.returns-in_err-name-clause-follows
returns-in_err-name-clause-follows c = λ F u below a.
    let e = c.in_err-name.field-0.0 in
    let is = passed c.from_residual-in_err-name.result e c.from_residual-in_err-name.ensures.1 in
    handed F 0 below _ e _ is (c.in_err-name.ensures.follows F 0 _ (c.in_ok-spot.ensures.follows F u _ a))

pub returns-clause-follows : goal.returns-clause-follows
returns-clause-follows c = λ F u below a.
    c.in_ok-name.ensures.follows F 0 _ (c.in_ok-spot.ensures.follows F u _ a)

pub returns-clause-text : goal.returns-clause-text
returns-clause-text c = record {
  form = λ b. forms.warp (leaf_at c.in_ok-spot.ensures.text.bytes c.in_ok-spot.spot) (name_view c.in_ok-name.name) b;
  spells = λ b next is. rw (c.in_ok-spot.ensures.text.text, c.in_ok-name.ensures.text, is) refl;
  stands_for = λ b. refl;
}
