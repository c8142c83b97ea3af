-- All are missing.
use Rattle.std.proofs.Common.{◌≡◌, ◌∙◌, sym, ap, length, replicate, false}
use Rattle.fm_state.proofs.Marks.{round_begins}
use Rattle.fm_state.proofs.visits.Visits.forget.Goals as goal

pub invariant_of-self : goal.invariant_of-self
invariant_of-self c =
    let m = c.self.inside in
    let next = c.next_round-self-inside in
    let count : c.len.result ≡ length m.marks.items =
    c.len.ensures ∙ next.new.marks.ok.0 ∙ next.ensures.length in
    let many : length next.new.marks.items ≡ c.len.result = next.ensures.length ∙ sym count in
    round_begins next.result c.len.result next.new.marks.items next.ensures.past (rw count c.self.invariant.few) many
    (next.ensures.none ∙ ap (λ n. replicate n false) (sym count))
