use Rattle.std.proofs.Common.{◌≡◌, Err, ap}
use Rattle.fm_grammar.specs.View.{score_view}
use Rattle.fm_rules.specs.declared.fault.CheckFault.TheVariants.{Refused}
use Rattle.fm_check.proofs.walks.check.Goals as goal

pub check_made-requires : goal.check_made-requires
check_made-requires c =
    let made = c.in_ok-outline.ensures in (
      score_view c.args.score.now,
      record { sound = record { is = made.outline; passage = made.passage }; faultless = made.faultless },
    )

pub returns-in-Ok-clause-bounds : goal.returns-in-Ok-clause-bounds
returns-in-Ok-clause-bounds c =
    let made = c.in_ok-outline.ensures in
    c.in-Ok.ensures.bounds (score_view c.args.score.now)
    (record { sound = record { is = made.outline; passage = made.passage }; faultless = made.faultless })

pub returns-in-Ok-clause-faultless : goal.returns-in-Ok-clause-faultless
returns-in-Ok-clause-faultless c =
    let made = c.in_ok-outline.ensures in
    c.in-Ok.ensures.faultless (score_view c.args.score.now)
    (record { sound = record { is = made.outline; passage = made.passage }; faultless = made.faultless })

pub returns-in-Err-clause-refused : goal.returns-in-Err-clause-refused
returns-in-Err-clause-refused c = λ why spot is.
    let made = c.in_ok-outline.ensures in
    let same : c.in-Err.fault ≡ Refused why spot = cc in
    c.in-Err.ensures.refused (score_view c.args.score.now)
    (record { sound = record { is = made.outline; passage = made.passage }; faultless = made.faultless })
    why spot (ap Err same)
