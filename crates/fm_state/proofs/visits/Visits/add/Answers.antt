-- One process less is missing.
use Rattle.std.proofs.Common.{◌≡◌, true, map, set, ap, sym, ◌∙◌}
use Rattle.std.specs.Prelude.{nat_eq}
use Rattle.fm_state.proofs.Marks.{marked, marks_on, some_missing}
use Rattle.fm_state.proofs.visits.Visits.add.Goals as goal

pub overflow_sub-self : goal.overflow_sub-self
overflow_sub-self c =
    let m = c.self.inside in let a = c.args in
    let seen = map (nat_eq m.round) m.marks.items in
    let same : a.self.now ≡ seen = sym c.self.view_is in
    some_missing seen a.process m.missing (rw same at c.requires)
    (rw same at (sym c.has.ensures ∙ c.if-not-has.true)) c.self.invariant.counted

pub invariant_of-self : goal.invariant_of-self
invariant_of-self c =
    let m = c.self.inside in let a = c.args in
    let seen = map (nat_eq m.round) m.marks.items in
    let same : a.self.now ≡ seen = sym c.self.view_is in
    marks_on m.round a.process m.missing m.marks.items c.self.invariant (rw same at c.requires)
    (rw same at (sym c.has.ensures ∙ c.if-not-has.true))

pub returns-then-not-has : goal.returns-then-not-has
returns-then-not-has c =
    let m = c.self.inside in
    marked m.round c.args.process m.marks.items ∙ ap (λ seen. set seen c.args.process true) c.self.view_is
