use Rattle.std.proofs.Common.{rules, ◌≡◌, ◌+◌, ◌-◌, ◌<◌, length, get_or, sym, ap, subst, arith}
use Rattle.fm_excerpt.specs.Table.{Sounds, endings_of}
use Rattle.fm_excerpt.specs.declared.counts.TheConstants.{ALL_KEYS}
use Rattle.fm_excerpt.proofs.CountLemmas.{kept_on, kept_off, ends_changed}
use Rattle.fm_excerpt.proofs.counts.Counts.keep.Goals as goal

pub returns-in-On-clause-counts : goal.returns-in-On-clause-counts
returns-in-On-clause-counts c = λ kept had.
    let low : c.in-On.key < 128 = search rules in
    let there : c.in-On.channel < 16 = search rules in
    let long : length c.self.inside.counts ≡ ALL_KEYS = search rules in
    kept_on c.self.inside.counts kept c.args.msg c.in-On.channel c.in-On.key c.in-On.velocity c.index_of.result c.in-On.is
    c.index_of.ensures.value there low long (subst (λ z. Sounds z kept) (sym c.self.view_is) had)

pub returns-in-On-clause-few : goal.returns-in-On-clause-few
returns-in-On-clause-few c =
    let long : length c.self.inside.counts ≡ ALL_KEYS = search rules in
    let changed = ends_changed c.self.inside.counts c.index_of.result (get_or c.self.inside.counts c.index_of.result 0 + 1)
    c.index_of.ensures.there long in
    omega (arith, changed, ap (λ z. length (endings_of z)) c.self.view_is)

pub returns-else-self-index-eq0-clause-counts : goal.returns-else-self-index-eq0-clause-counts
returns-else-self-index-eq0-clause-counts c = λ kept had.
    let low : c.in-Off.key < 128 = search rules in
    let there : c.in-Off.channel < 16 = search rules in
    let long : length c.self.inside.counts ≡ ALL_KEYS = search rules in
    let some : 0 < get_or c.self.inside.counts c.index_of-index.result 0 = search rules in
    kept_off c.self.inside.counts kept c.args.msg c.in-Off.channel c.in-Off.key c.index_of-index.result c.in-Off.is
    c.index_of-index.ensures.value there low long some (subst (λ z. Sounds z kept) (sym c.self.view_is) had)

pub returns-else-self-index-eq0-clause-few : goal.returns-else-self-index-eq0-clause-few
returns-else-self-index-eq0-clause-few c =
    let long : length c.self.inside.counts ≡ ALL_KEYS = search rules in
    let changed = ends_changed c.self.inside.counts c.index_of-index.result (get_or c.self.inside.counts c.index_of-index.result 0 - 1)
    c.index_of-index.ensures.there long in
    omega (arith, changed, ap (λ z. length (endings_of z)) c.self.view_is)
