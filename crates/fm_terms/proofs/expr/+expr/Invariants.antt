use Rattle.std.proofs.Common.{◌-◌, ◌+◌, ◌*◌}
use Rattle.fm_terms.proofs.expr.+expr.Given as goal

abbrev pub decreases-read_compared : goal.decreases-read_compared
decreases-read_compared l = 10 * (64 - l.used)

abbrev pub decreases-read_factor : goal.decreases-read_factor
decreases-read_factor l = 10 * (64 - l.used) + 2

abbrev pub decreases-read_function : goal.decreases-read_function
decreases-read_function l = 10 * (64 - l.used) + 1

abbrev pub decreases-read_group : goal.decreases-read_group
decreases-read_group l = 10 * (64 - l.used)

abbrev pub decreases-read_inner : goal.decreases-read_inner
decreases-read_inner l = 10 * (64 - l.used) + 5

abbrev pub decreases-read_negated : goal.decreases-read_negated
decreases-read_negated l = 10 * (64 - l.used)

abbrev pub decreases-read_pick : goal.decreases-read_pick
decreases-read_pick l = 10 * (64 - l.used)

abbrev pub decreases-read_sums : goal.decreases-read_sums
decreases-read_sums l = 10 * (64 - l.used) + 4

abbrev pub decreases-read_terms : goal.decreases-read_terms
decreases-read_terms l = 10 * (64 - l.used) + 3

abbrev pub decreases-read_two : goal.decreases-read_two
decreases-read_two l = 10 * (64 - l.used) + 6
