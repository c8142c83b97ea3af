use Rattle.std.proofs.Common.{rules, ◌≡◌, ◌+◌, length, arith}
use Rattle.fm_program.specs.declared.op.TheConstants.{MAX_LOOPS}
use Rattle.fm_effort.proofs.TableLemmas.{rounds_here, rounds_beyond}
use Rattle.fm_effort.proofs.enclosing.Enclosing.rounds.Goals as goal

pub returns-then-self-lt-ENTRIES : goal.returns-then-self-lt-ENTRIES
returns-then-self-lt-ENTRIES c = λ a kept.
    let long : length c.args.self.now.rounds ≡ MAX_LOOPS + 1 = search rules in
    rounds_here c.args.self.now a 0 (omega arith) kept

pub returns-else-self-lt-ENTRIES : goal.returns-else-self-lt-ENTRIES
returns-else-self-lt-ENTRIES c = λ a kept.
    let long : length c.args.self.now.rounds ≡ MAX_LOOPS + 1 = search rules in
    rounds_beyond c.args.self.now a (omega arith) kept
