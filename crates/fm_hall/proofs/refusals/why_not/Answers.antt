-- What refuses a step that no rule speaks of is the same under all rules.
use Rattle.std.proofs.Common.{sym, ap, ◌∙◌}
use Rattle.fm_core.specs.Steps.{reason}
use Rattle.fm_hall.proofs.refusals.why_not.Goals as goal

pub returns-in-Look : goal.returns-in-Look
returns-in-Look c =
    c.why_not_look.ensures c.args.rules.now
    ∙ sym (ap (reason c.args.rules.now c.args.tables.now.state) c.in-Look.is)

pub returns-in-Claim : goal.returns-in-Claim
returns-in-Claim c =
    c.why_not_claim.ensures c.args.rules.now
    ∙ sym (ap (reason c.args.rules.now c.args.tables.now.state) c.in-Claim.is)

pub returns-in-Record : goal.returns-in-Record
returns-in-Record c =
    c.why_not_record.ensures c.args.rules.now
    ∙ sym (ap (reason c.args.rules.now c.args.tables.now.state) c.in-Record.is)

pub returns-in-Recall : goal.returns-in-Recall
returns-in-Recall c =
    c.why_not_recall.ensures c.args.rules.now
    ∙ sym (ap (reason c.args.rules.now c.args.tables.now.state) c.in-Recall.is)

pub returns-in-Publish : goal.returns-in-Publish
returns-in-Publish c =
    c.why_not_publish.ensures c.args.rules.now
    ∙ sym (ap (reason c.args.rules.now c.args.tables.now.state) c.in-Publish.is)

pub returns-in-Pace : goal.returns-in-Pace
returns-in-Pace c =
    c.why_not_pace.ensures c.args.rules.now
    ∙ sym (ap (reason c.args.rules.now c.args.tables.now.state) c.in-Pace.is)

pub returns-in-Release : goal.returns-in-Release
returns-in-Release c =
    c.why_not_release.ensures c.args.rules.now
    ∙ sym (ap (reason c.args.rules.now c.args.tables.now.state) c.in-Release.is)
