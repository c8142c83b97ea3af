use Rattle.std.proofs.Common.{List, sym, subst, arith}
use Rattle.fm_warp.specs.declared.part.Part.{Part}
use Rattle.fm_warp.specs.Passed.{Adds}
use Rattle.fm_warp.proofs.PassedLemmas.{KeepsSums-push}
use Rattle.fm_warp.proofs.warp.Warp.push.Goals as goal

pub invariant_of-self-in-Ok-push : goal.invariant_of-self-in-Ok-push
invariant_of-self-in-Ok-push c =
    let parts = c.self.inside.parts.items in
    let adds = subst (λ (all : List Part). Adds all c.all_passed.result) (sym c.self.view_is) c.all_passed.ensures in
    rw (c.in-Ok-push.ensures.items, c.in-Ok.ensures.items)
    (KeepsSums-push parts c.self.inside.passed.items c.args.part c.past-passed.result c.self.invariant (omega arith)
    c.requires (c.past-passed.ensures parts adds))
