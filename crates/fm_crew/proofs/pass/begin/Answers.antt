use Rattle.std.proofs.Common.{◌+◌, ◌∙◌, arith, sym, ap, subst}
use Rattle.fm_board.specs.View.{gave}
use Rattle.fm_board.specs.declared.view.View.{View}
use Rattle.fm_board.proofs.Knowing.{knows_then}
use Rattle.fm_crew.specs.Conduct.{Passing}
use Rattle.fm_crew.proofs.Looking.{begun_passed}
use Rattle.fm_crew.proofs.Serving.{gives_idle}
use Rattle.fm_crew.proofs.Telling.{takes_fresh}
use Rattle.fm_crew.proofs.Visits.{rests_given, started_on}
use Rattle.fm_crew.proofs.pass.begin.Goals as goal

pub advance-requires-clause-told : goal.advance-requires-clause-told
advance-requires-clause-told g c =
    takes_fresh (g.B.Calls.shared c.args.board.now).about c.args.conductor.now.seat c.args.process c.start_process.new.seat _
    c.requires.passing.idle.ours.plan c.in-Some.ensures.some

pub returns-in-Some-clause-passed : goal.returns-in-Some-clause-passed
returns-in-Some-clause-passed g c =
    let a = (g.B.Calls.shared c.args.board.now).about in
    let t = (g.B.Calls.shared c.args.board.now).table in
    let old = c.args.conductor.now in
    let fresh = c.in-Some.ensures.some in
    let ours = c.requires.passing.idle.ours in
    record {
      idle = gives_idle t a c.start_process.new.seat c.advance.new.seat
          (record {
            table = fresh.sees.table ∙ ours.table;
            plan = ap (λ (v : View). v.plan) fresh.sees.view ∙ ours.plan;
            room = fresh.sees.room ∙ ours.room;
            lead = ap (λ (v : View). v.lead) fresh.sees.view ∙ ours.lead;
            seats = ap (λ (v : View). v.seats) fresh.sees.view ∙ ours.seats;
          })
          c.advance.ensures.sees.table c.advance.ensures.sees.room c.advance.ensures.sees.view;
      passing = subst (λ (v : View). Passing a v old.gather c.args.pass.due c.args.pass.limit (c.args.process + 1))
          (sym (c.advance.ensures.sees.view ∙ ap gave fresh.sees.view))
          (begun_passed a old.seat.mind.view old.gather c.args.pass.due c.args.pass.limit (c.args.process + 1) c.requires.passing.passing
          fresh.hold (let is = fresh.berth.hold.process in omega (arith, is)) fresh.none);
    }

pub returns-in-Some-clause-grows : goal.returns-in-Some-clause-grows
returns-in-Some-clause-grows g c = record {
  plan = ap (λ (v : View). v.plan) (c.advance.ensures.sees.view ∙ ap gave c.in-Some.ensures.some.sees.view);
  knows = knows_then c.args.conductor.now.seat.mind c.start_process.new.seat.mind c.advance.new.seat.mind c.start_process.ensures.knows
      c.advance.ensures.knows;
  gathers = omega arith;
}

pub returns-in-Some-clause-moves : goal.returns-in-Some-clause-moves
returns-in-Some-clause-moves g c =
    λ _ more tick back. started_on c.args.process tick c.args.conductor.now.seat.mind c.start_process.new.seat.mind c.advance.new.seat.mind more
    back c.start_process.ensures.born (ap (λ (v : View). v.plan) c.in-Some.ensures.some.sees.view) c.advance.ensures.knows

pub returns-in-Some-clause-rests : goal.returns-in-Some-clause-rests
returns-in-Some-clause-rests g c =
    rests_given c.args.conductor.now.seat.mind.view c.in-Some.ensures.some.hold c.advance.new.seat.mind.view
    (c.advance.ensures.sees.view ∙ ap gave c.in-Some.ensures.some.sees.view)
