use Rattle.std.proofs.Common.{arith, ℕ, ◌+◌, ◌∙◌, ap, subst}
use Rattle.fm_board.specs.Seats.{SeatState}
use Rattle.fm_board.specs.View.{wrote_hold}
use Rattle.fm_board.specs.declared.view.Hold.{Hold}
use Rattle.fm_board.specs.declared.view.Log.{Log}
use Rattle.fm_board.specs.declared.view.Mind.{Mind}
use Rattle.fm_board.specs.Runs.{Extends}
use Rattle.fm_board.proofs.Recordings.{may_write, place_fits, still_noted, still_ours}
use Rattle.fm_board.proofs.board.Board.record.Goals as goal

pub place_spelt-value-requires-clause-fits : goal.place_spelt-value-requires-clause-fits
place_spelt-value-requires-clause-fits c =
    place_fits c.args.self.now.about _ c.args.berth.now.process c.args.berth.now.strand _ c.requires.may
    (c.place-place.ensures c.args.self.now.about.plan c.requires.may.strand.course)

pub write-requires-clause-ours : goal.write-requires-clause-ours
write-requires-clause-ours c =
    let inv = c.loop-word.invariant in
    still_ours _ c.args.self.now.about c.args.seat.now c.loop-word.seat c.args.berth.now.process c.requires.ours inv.table inv.same

pub write_last-requires-clause-ours : goal.write_last-requires-clause-ours
write_last-requires-clause-ours c =
    let inv = c.loop-word.invariant in
    still_ours _ c.args.self.now.about c.args.seat.now c.loop-word.seat c.args.berth.now.process c.requires.ours inv.table inv.same

pub write-requires-clause-may : goal.write-requires-clause-may
write-requires-clause-may c =
    let y = c.loop-word.invariant.hold in
    may_write c.args.self.now.about _ c.args.berth.now.process _ _ c.args.berth.now.strand _ c.loop-word.seat y.0 c.requires.may
    (c.place-place.ensures c.args.self.now.about.plan c.requires.may.strand.course) y.1 y.2 y.3 y.4 c.place_spelt-value.ensures

pub loop-word-preserved : goal.loop-word-preserved
loop-word-preserved c =
    let y = c.loop-word.invariant.hold in
    let is = ap (λ (x : SeatState). x.mind) c.write.ensures in
    let z : Hold = record y.0 { written = c.loop-word.word + 1 } in
    let holds = ap (λ (x : SeatState). x.mind.view.holds) c.write.ensures ∙ ap (λ o. wrote_hold o (c.loop-word.word + 1)) y.1 in
    record {
      table = ap (λ (x : SeatState). x.table) c.write.ensures ∙ c.loop-word.invariant.table;
      number = ap (λ (m : Mind). m.view.number) is ∙ c.loop-word.invariant.number;
      log = ap (λ (m : Mind). m.log) is ∙ c.loop-word.invariant.log;
      same = λ xs. still_noted c.loop-word.seat.mind c.write.new.seat.mind c.args.berth.now.process (c.loop-word.word + 1) xs is
          ∙ c.loop-word.invariant.same xs;
      hold = (z, holds, y.2, omega arith, y.4);
    }

pub place_spelt-last-requires-clause-fits : goal.place_spelt-last-requires-clause-fits
place_spelt-last-requires-clause-fits c =
    place_fits c.args.self.now.about _ c.args.berth.now.process c.args.berth.now.strand _ c.requires.may
    (c.place-place.ensures c.args.self.now.about.plan c.requires.may.strand.course)

pub write_last-requires-clause-may : goal.write_last-requires-clause-may
write_last-requires-clause-may c =
    let y = c.loop-word.invariant.hold in
    may_write c.args.self.now.about _ c.args.berth.now.process 8 _ c.args.berth.now.strand _ c.loop-word.seat y.0 c.requires.may
    (c.place-place.ensures c.args.self.now.about.plan c.requires.may.strand.course) y.1 y.2
    (let done = c.loop-word-test.false in let many = y.3 in omega arith) y.4 c.place_spelt-last.ensures

pub returns-clause-seat : goal.returns-clause-seat
returns-clause-seat c =
    let inv = c.loop-word.invariant in
    c.write_last.ensures.seat ∙ (λ i. record { table = inv.table i; mind = inv.same c.write_last.new.seat.mind.log.seen i })

pub returns-clause-extends : goal.returns-clause-extends
returns-clause-extends c =
    let inv = c.loop-word.invariant in
    subst (λ (y : ℕ × Log). Extends y.0 y.1 c.write_last.new.seat.mind.log) (λ i. (inv.number i, inv.log i)) c.write_last.ensures.extends
