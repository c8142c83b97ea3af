use Rattle.std.proofs.Common.{◌≡◌, ℕ, ◌<◌, length}
use Rattle.std.specs.Prelude.{Contains}
use Rattle.fm_round.specs.Watching.{AllLater, AllListed, list_of, predecessor}
use Rattle.fm_round.proofs.watch.list_process.Given as goal

-- the process is in the lists of the predecessors in front
abbrev pub invariant-loop-before : goal.invariant-loop-before
invariant-loop-before l = record {
  size : length l.lists.items ≡ length l.fn.lists.items;
  later : AllLater l.plan l.lists.items;
  listed : AllListed l.plan l.process l.lists.items;
  here : (i : ℕ) → i < l.before-index → Contains (list_of l.lists.items (predecessor l.plan l.process i)) l.process;
}
