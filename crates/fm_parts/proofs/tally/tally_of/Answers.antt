use Rattle.std.proofs.Common.{rules, ◌≡◌, [], ◌∷◌, ◌∙◌, ◌<◌, ◌^◌, sym}
use Rattle.fm_read.specs.Tracks.{as_pair}
use Rattle.fm_parts.proofs.TallyLemmas.{Tallying, tally_entered, tally_done}
use Rattle.fm_parts.proofs.tally.tally_of.Goals as goal

pub loop-entry-preserved-in-Some-message_from : goal.loop-entry-preserved-in-Some-message_from
loop-entry-preserved-in-Some-message_from c =
    let had : Tallying c.loop-entry.tally c.loop-entry.now (as_pair c.in-Some.entry ∷ c.next.new.self) c.args.track =
    rw c.in-Some.ensures.steps at c.loop-entry.invariant in
    let small : c.in-Some.entry.delta < 2 ^ 32 = search rules in
    tally_entered _ _ _ (as_pair c.in-Some.entry) _ _ _ (sym c.message_from.ensures.value ∙ c.in-Some-message_from.is) small
    c.enter.ensures.few c.enter.ensures.enters had

pub returns-clause-tally : goal.returns-clause-tally
returns-clause-tally c =
    let none : c.loop-entry.entries ≡ [] = search rules in
    tally_done _ _ _ c.requires.few (rw none at c.loop-entry.invariant)
