use Rattle.std.proofs.Common.{◌≤◌, ◌<◌, subst, arith, List}
use Rattle.std.proofs.lemmas.Bool.{ltb-true, ltb-false}
use Rattle.fm_offs.specs.declared.note_off.NoteOff.{NoteOff}
use Rattle.fm_offs.specs.Stack.{ComesNext, HasRoom, IsEarliest, no_off, tick_at}
use Rattle.fm_offs.proofs.StackLemmas.{comes-due, comes-cut, lets-none}
use Rattle.fm_offs.proofs.waiting.Waiting.is_next.Goals as goal

pub returns-then-deref-first-clause-yes : goal.returns-then-deref-first-clause-yes
returns-then-deref-first-clause-yes c = λ _.
    let xs = c.self.inside.offs.items in
    let first = c.earliest-first.result in
    let early : IsEarliest xs first
    = subst (λ (ys : List NoteOff). IsEarliest ys first) c.as_slice.ensures.value c.earliest-first.ensures in
    subst (ComesNext c.args.tick c.args.pitches) c.self.view_is
    (comes-due c.args.tick c.args.pitches first xs early
    (subst (λ (ys : List NoteOff). tick_at ys first ≤ c.args.tick) c.deref.ensures.0 c.if-deref-first.true))

pub returns-clause-yes : goal.returns-clause-yes
returns-clause-yes c = λ e.
    let xs = c.self.inside.offs.items in
    let first = c.earliest-first.result in
    let early : IsEarliest xs first
    = subst (λ (ys : List NoteOff). IsEarliest ys first) c.as_slice.ensures.value c.earliest-first.ensures in
    let late : c.args.tick < tick_at xs first =
    subst (λ (ys : List NoteOff). c.args.tick < tick_at ys first) c.deref.ensures.0 c.if-deref-first.false in
    subst (ComesNext c.args.tick c.args.pitches) c.self.view_is
    (comes-cut c.args.tick c.args.pitches first xs early late (omega (arith, c.len.ensures.value, ltb-true _ _ e)))

pub returns-clause-no : goal.returns-clause-no
returns-clause-no c = λ e.
    let xs = c.self.inside.offs.items in
    let first = c.earliest-first.result in
    let early : IsEarliest xs first
    = subst (λ (ys : List NoteOff). IsEarliest ys first) c.as_slice.ensures.value c.earliest-first.ensures in
    let late : c.args.tick < tick_at xs first =
    subst (λ (ys : List NoteOff). c.args.tick < tick_at ys first) c.deref.ensures.0 c.if-deref-first.false in
    subst (HasRoom c.args.tick c.args.pitches) c.self.view_is
    (lets-none c.args.tick c.args.pitches first xs no_off early late (omega (arith, c.len.ensures.value, ltb-false _ _ e)))
