use Rattle.std.proofs.Common.{rules, ◌≡◌, ◌+◌, length, refl, arith}
use Rattle.fm_program.specs.declared.op.TheConstants.{MAX_LOOPS}
use Rattle.fm_effort.specs.Effort.{rounds_in}
use Rattle.fm_effort.proofs.NumberLemmas.{times_rounds}
use Rattle.fm_effort.proofs.TableLemmas.{opened}
use Rattle.fm_effort.proofs.enclosing.Enclosing.open.Goals as goal

pub returns : goal.returns
returns c = λ a few kept.
    let e = c.args.self.now in
    let long : length e.rounds ≡ MAX_LOOPS + 1 = search rules in
    let more : c.saturating_add-self.result ≡ e.loops + 1 = (let had = kept.loops in omega arith) in
    let made = rw c.from.ensures at c.saturating_mul-rounds.ensures in
    let rounds = c.saturating_mul-rounds.result in
    let times = times_rounds c.args.count (rounds_in a.counts) c.rounds.result rounds (c.rounds.ensures a kept) made in
    opened e _ a c.args.count rounds long more times c.set_rounds.ensures refl refl kept
