use Rattle.std.proofs.Common.{All, ◌≤◌, ◌<◌, ◌+◌, length, sym, subst, arith, List}
use Rattle.fm_line.specs.Sounds.{Sound, most_waiting}
use Rattle.fm_offs.specs.declared.note_off.NoteOff.{NoteOff}
use Rattle.fm_offs.specs.Stack.{HasRoom, IsEarliest, IsOff, LetsOut, off_sound, off_sounds, no_off, tick_at}
use Rattle.fm_offs.proofs.StackLemmas.{lets-due, lets-cut, lets-none, remove-all}
use Rattle.fm_offs.proofs.waiting.Waiting.next.Goals as goal

pub returns-then-deref-first-clause-some : goal.returns-then-deref-first-clause-some
returns-then-deref-first-clause-some c =
    let xs = c.self.inside.offs.items in
    let first = c.earliest-first.result in
    let early : IsEarliest xs first
    = subst (λ (ys : List NoteOff). IsEarliest ys first) c.as_slice.ensures.value c.earliest-first.ensures in
    let due : tick_at xs first ≤ c.args.tick =
    subst (λ (ys : List NoteOff). tick_at ys first ≤ c.args.tick) c.deref.ensures.0 c.if-deref-first.true in
    subst (λ (olds : List Sound). LetsOut c.args.tick c.args.pitches olds (off_sounds c.remove.new.self.items) (off_sound c.remove.result))
    c.self.view_is
    (subst (λ (news : List NoteOff). LetsOut c.args.tick c.args.pitches (off_sounds xs) (off_sounds news) (off_sound c.remove.result))
    (sym c.remove.ensures.items)
    (lets-due c.args.tick c.args.pitches first xs c.remove.result early due c.remove.ensures.value))

pub returns-then-len-pitches-gt-MOST_WAITING-clause-some :
    goal.returns-then-len-pitches-gt-MOST_WAITING-clause-some
returns-then-len-pitches-gt-MOST_WAITING-clause-some c =
    let xs = c.self.inside.offs.items in
    let first = c.earliest-first.result in
    let early : IsEarliest xs first
    = subst (λ (ys : List NoteOff). IsEarliest ys first) c.as_slice.ensures.value c.earliest-first.ensures in
    let late : c.args.tick < tick_at xs first =
    subst (λ (ys : List NoteOff). c.args.tick < tick_at ys first) c.deref.ensures.0 c.if-deref-first.false in
    let many : most_waiting < length xs + c.args.pitches =
    omega (arith, c.len.ensures.value, c.if-len-pitches-gt-MOST_WAITING.true) in
    let off = record c.remove-off.result { tick = c.args.tick } in
    subst (λ (olds : List Sound). LetsOut c.args.tick c.args.pitches olds (off_sounds c.remove-off.new.self.items) (off_sound off))
    c.self.view_is
    (subst (λ (news : List NoteOff). LetsOut c.args.tick c.args.pitches (off_sounds xs) (off_sounds news) (off_sound off))
    (sym c.remove-off.ensures.items)
    (lets-cut c.args.tick c.args.pitches first xs c.remove-off.result early late many c.remove-off.ensures.value))

pub returns-clause-none : goal.returns-clause-none
returns-clause-none c =
    let xs = c.self.inside.offs.items in
    let first = c.earliest-first.result in
    let early : IsEarliest xs first
    = subst (λ (ys : List NoteOff). IsEarliest ys first) c.as_slice.ensures.value c.earliest-first.ensures in
    let late : c.args.tick < tick_at xs first =
    subst (λ (ys : List NoteOff). c.args.tick < tick_at ys first) c.deref.ensures.0 c.if-deref-first.false in
    let few : length xs + c.args.pitches ≤ most_waiting =
    omega (arith, c.len.ensures.value, c.if-len-pitches-gt-MOST_WAITING.false) in
    subst (HasRoom c.args.tick c.args.pitches) c.self.view_is
    (lets-none c.args.tick c.args.pitches first xs no_off early late few)

pub invariant_of-self : goal.invariant_of-self
invariant_of-self c = (
  omega (arith, c.remove.ensures.len, c.self.invariant.0),
  subst (All IsOff) (sym c.remove.ensures.items) (remove-all IsOff c.self.inside.offs.items c.earliest-first.result c.self.invariant.1),
)

pub invariant_of-self-then-len-pitches-gt-MOST_WAITING :
    goal.invariant_of-self-then-len-pitches-gt-MOST_WAITING
invariant_of-self-then-len-pitches-gt-MOST_WAITING c = (
  omega (arith, c.remove-off.ensures.len, c.self.invariant.0),
  subst (All IsOff) (sym c.remove-off.ensures.items) (remove-all IsOff c.self.inside.offs.items 0 c.self.invariant.1),
)
