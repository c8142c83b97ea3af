-- A step that is taken leads on, and one that is refused ends the walk.
use Rattle.std.proofs.Common.{◌≡◌, ◌+◌, ◌-◌, ℕ, List, take, drop, length, Some, sym, ◌∙◌, ap, subst, arith, length-drop}
use Rattle.std.proofs.lemmas.List.{take_all}
use Rattle.fm_core.specs.Effects.{after}
use Rattle.fm_core.specs.Steps.{reason}
use Rattle.fm_core.specs.declared.step.Step.{Step}
use Rattle.fm_hall.specs.Hall.{HallState}
use Rattle.fm_record.specs.StepBytes.{IsFirst}
use Rattle.fm_record.proofs.ReadingLemmas.{first_size}
use Rattle.fm_audit.proofs.Replaying.{Reaches, answer_taken, answer_refused, reaches_more, reaches_refused}
use Rattle.fm_audit.proofs.replay.replay.Goals as goal

-- the bytes from a position on, as a slice has them
all_left : (bytes : List ℕ) (position n : ℕ) (s : Step) → IsFirst (take (length bytes - position) (drop position bytes)) s n →
    IsFirst (drop position bytes) s n
all_left bytes position n s first =
    subst (λ (bs : List ℕ). IsFirst bs s n)
    (take_all (length bytes - position) (drop position bytes) (omega (arith, length-drop position bytes)))
    first

pub returns-in-Refused-clause-err : goal.returns-in-Refused-clause-err
returns-in-Refused-clause-err c =
    let g = c.args.hall.now.setting in
    let why = answer_refused _ c.in-Refused.reason (sym c.in-Refused.is ∙ c.step.ensures.answer) in
    let refused : reason g c.loop-position.hall.state c.in-Some.step ≡ Some c.in-Refused.reason =
    rw c.loop-position.invariant.same at why in
    reaches_refused g c.args.hall.now.state c.args.bytes.now c.loop-position.position c.loop-position.count c.loop-position.hall.state
    c.loop-position.invariant.reaches c.in-Some.step c.in-Some.size c.in-Refused.reason
    (all_left c.args.bytes.now c.loop-position.position c.in-Some.size c.in-Some.step c.in-Some.ensures.first) refused

pub loop-position-preserved : goal.loop-position-preserved
loop-position-preserved c =
    let g = c.args.hall.now.setting in
    let position = c.loop-position.position in
    let first = all_left c.args.bytes.now position c.in-Some.size c.in-Some.step c.in-Some.ensures.first in
    let size = (first_size _ c.in-Some.step c.in-Some.size first).1 in
    let whole = first.whole in
    let few = c.loop-position.invariant.few in
    let within = c.loop-position.invariant.within in
    let free = answer_taken _ (sym c.in-Taken.is ∙ c.step.ensures.answer) in
    let stepped = c.step.ensures.taken c.in-Taken.is in
    let allowed = rw c.loop-position.invariant.same at free in
    let more = reaches_more g c.args.hall.now.state c.args.bytes.now position c.loop-position.count c.loop-position.hall.state
    c.loop-position.invariant.reaches c.in-Some.step c.in-Some.size first allowed in
    let state : after g c.loop-position.hall.state c.in-Some.step ≡ c.step.new.self.state =
    rw c.loop-position.invariant.same at (ap (λ (h : HallState). h.state) (sym stepped)) in
    record {
      within = omega (arith, whole, length-drop position c.args.bytes.now, within);
      few = omega (arith, size, few);
      same = ap (λ (h : HallState). h.setting) stepped ∙ c.loop-position.invariant.same;
      reaches =
          subst (Reaches g c.args.hall.now.state c.args.bytes.now (position + c.in-Some.size) (c.loop-position.count + 1)) state more;
    }
