use Rattle.std.proofs.Common.{sym, ap, ◌∙◌, length, arith}
use Rattle.fm_round.proofs.Listing.{empty_pop, taken_one}
use Rattle.fm_round.proofs.watch.take_follower.Goals as goal

pub returns : goal.returns
returns c =
    taken_one c.args.lists.now.items c.args.before c.pop.result c.pop.new.self c.index_mut.result.now c.requires
    (sym (ap (λ v. v.items) c.index_mut.ensures.value) ∙ c.pop.ensures.items)
    (λ none. empty_pop c.pop.new.self.items c.pop.result (length c.index_mut.result.now.items) none
    (λ some. c.pop.ensures.variant.1 (omega arith)) (omega (arith, c.pop.ensures.len)))
