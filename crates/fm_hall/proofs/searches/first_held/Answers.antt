-- The first one found is the least, and where none is found it holds of none.
use Rattle.std.proofs.Common.{rules, ℕ, ◌≡◌, length, true, sym, arith}
use Rattle.fm_core.specs.State.{cell}
use Rattle.fm_core.specs.Tags.{is_held}
use Rattle.fm_core.proofs.Below.{first_is, none_is}
use Rattle.fm_hall.proofs.searches.first_held.Goals as goal

pub returns-then-is_held : goal.returns-then-is_held
returns-then-is_held c =
    let h = c.args.tables.now.state in let p = c.loop-process.process in
    let here : (λ (q : ℕ). is_held (cell h q).tag) p ≡ true = search rules in
    sym (first_is (length h.cells) (λ (q : ℕ). is_held (cell h q).tag) p (omega arith) here c.loop-process.invariant)

pub returns : goal.returns
returns c =
    let h = c.args.tables.now.state in let past = c.loop-process-test.false in
    sym (none_is (length h.cells) (λ (q : ℕ). is_held (cell h q).tag) (λ q lt. c.loop-process.invariant q (omega arith)))
