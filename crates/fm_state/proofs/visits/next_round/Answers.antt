-- The next round has no marks yet.
use Rattle.std.proofs.Common.{ap, map, length, ◌∙◌, arith, ◌+◌}
use Rattle.std.specs.Prelude.{nat_eq}
use Rattle.fm_state.proofs.Marks.{none_marked, none_wiped}
use Rattle.fm_state.proofs.visits.next_round.Goals as goal

pub returns-then-round-lt18446744073709551615-clause-none : goal.returns-then-round-lt18446744073709551615-clause-none
returns-then-round-lt18446744073709551615-clause-none c =
    none_marked (c.args.round + 1) c.args.marks.now.items (λ k d lt. let past = c.requires k d lt in omega arith)

pub returns-clause-none : goal.returns-clause-none
returns-clause-none c = ap (map (nat_eq 1)) c.wipe.ensures ∙ none_wiped (length c.args.marks.now.items)
