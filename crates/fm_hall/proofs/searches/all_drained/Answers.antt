-- One that is not drained is found, or there is none.
use Rattle.std.proofs.Common.{rules, ◌≡◌, length, true, sym, arith}
use Rattle.std.specs.Prelude.{not}
use Rattle.fm_core.specs.State.{cell}
use Rattle.fm_core.specs.Tags.{is_drained}
use Rattle.fm_core.proofs.Below.{any_at, not_any}
use Rattle.fm_core.proofs.Booleans.{true_from, false_from}
use Rattle.fm_hall.proofs.searches.all_drained.Goals as goal

pub returns-then-not-is_drained : goal.returns-then-not-is_drained
returns-then-not-is_drained c =
    let h = c.args.tables.now.state in let p = c.loop-process.process in
    let here : not (is_drained (cell h p).tag) ≡ true = search rules in
    sym (false_from _ (any_at (length h.cells) (λ q. not (is_drained (cell h q).tag)) p (omega arith) here))

pub returns : goal.returns
returns c =
    let h = c.args.tables.now.state in let past = c.loop-process-test.false in
    sym (true_from _ (not_any (length h.cells) (λ q. not (is_drained (cell h q).tag)) (λ q lt. c.loop-process.invariant q (omega arith))))
