use Rattle.std.proofs.Common.{rules, ◌≡◌, ◌∙◌, length, None, sym, subst}
use Rattle.fm_excerpt.specs.Table.{Holds, slot_of}
use Rattle.fm_excerpt.specs.declared.state.TheConstants.{SLOTS}
use Rattle.fm_excerpt.proofs.StateLemmas.{holds_set, holds_other}
use Rattle.fm_excerpt.proofs.state.State.take.Goals as goal

pub returns-in-Some : goal.returns-in-Some
returns-in-Some c = λ ms had.
    let long : length c.self.inside.slots ≡ SLOTS = search rules in
    holds_set c.self.inside.slots ms c.args.msg c.in-Some.slot (sym c.slot_of.ensures.value ∙ c.in-Some.is) c.in-Some.ensures.there long
    (subst (λ z. Holds z ms) (sym c.self.view_is) had)

pub returns-in_default : goal.returns-in_default
returns-in_default c = λ ms had.
    let nowhere : slot_of c.args.msg ≡ None = search rules in
    holds_other c.args.self.now ms c.args.msg nowhere had
