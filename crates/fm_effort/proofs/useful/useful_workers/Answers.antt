use Rattle.std.proofs.Common.{◌∙◌, sym}
use Rattle.fm_effort.proofs.PolicyLemmas.{none_where_cheap, none_where_few, none_where_crowded, all_unseen, some_seen}
use Rattle.fm_effort.proofs.useful.useful_workers.Goals as goal

pub returns-then-is_crowded-clause-value : goal.returns-then-is_crowded-clause-value
returns-then-is_crowded-clause-value c =
    none_where_crowded c.args.plan.now c.args.room c.args.most c.processes.result c.processes.ensures.value
    (sym c.is_crowded.ensures ∙ c.if-is_crowded.true)

pub returns-in-Some-clause-value : goal.returns-in-Some-clause-value
returns-in-Some-clause-value c =
    some_seen c.args.plan.now c.args.room c.args.most c.processes.result _ c.in-Some.load
    c.processes.ensures.value (sym c.is_crowded.ensures ∙ c.if-is_crowded.false) c.in-Some.ensures.exact
    c.in-Some.ensures.some c.workers_for.ensures.value

pub returns-in-None-clause-value : goal.returns-in-None-clause-value
returns-in-None-clause-value c =
    all_unseen c.args.plan.now c.args.room c.args.most c.processes.result c.processes.ensures.value
    (sym c.is_crowded.ensures ∙ c.if-is_crowded.false) c.in-None.ensures.exact

pub returns-in-Some-clause-cheap : goal.returns-in-Some-clause-cheap
returns-in-Some-clause-cheap c cheap =
    none_where_cheap c.args.plan.now c.args.room c.args.most _ (returns-in-Some-clause-value c) cheap

pub returns-in-None-clause-cheap : goal.returns-in-None-clause-cheap
returns-in-None-clause-cheap c cheap =
    none_where_cheap c.args.plan.now c.args.room c.args.most _ (returns-in-None-clause-value c) cheap

pub returns-in-Some-clause-few : goal.returns-in-Some-clause-few
returns-in-Some-clause-few c few =
    none_where_few c.args.plan.now c.args.room c.args.most _ (returns-in-Some-clause-value c) few

pub returns-in-None-clause-few : goal.returns-in-None-clause-few
returns-in-None-clause-few c few =
    none_where_few c.args.plan.now c.args.room c.args.most _ (returns-in-None-clause-value c) few
