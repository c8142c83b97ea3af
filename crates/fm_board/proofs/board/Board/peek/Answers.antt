use Rattle.std.proofs.Common.{ap, arith, sym, ◌∙◌}
use Rattle.fm_board.specs.Seats.{SeatState}
use Rattle.fm_board.specs.declared.view.Mind.{Mind}
use Rattle.fm_board.specs.declared.view.View.{View}
use Rattle.fm_board.specs.Minds.{recalled}
use Rattle.fm_board.proofs.Findings.{marked_now, ours_seen, seen_found, there_seen}
use Rattle.fm_board.proofs.FoundLast.{latest_now, recalled_idle}
use Rattle.fm_board.proofs.Steps.{found_as, recalls_at, stays_tidy, widths}
use Rattle.fm_board.proofs.board.Board.peek.Goals as goal

pub load-found-requires-clause-may : goal.load-found-requires-clause-may
load-found-requires-clause-may c =
    recalls_at _ c.args.self.now.about c.args.self.now.table.shared.table_id _ _ _ c.args.process _ c.args.seat.now c.args.self.now.same.0
    c.requires.ours
    c.index_of.ensures c.requires.there

pub seen_of-requires : goal.seen_of-requires
seen_of-requires c = (c.load-found.ensures.told c.args.process c.index_of.ensures).word

pub invariant_of-seat : goal.invariant_of-seat
invariant_of-seat c =
    let found = c.load-found.ensures.told c.args.process c.index_of.ensures in
    let s = c.seen_of.result in
    let mind = found.mind s.tag s.clock s.seat c.seen_of.ensures.few c.seen_of.ensures.word in (
      stays_tidy _ _ _ _ c.seat.inside.token.me c.load-found.new.self.me c.seat.invariant.0 (ap (λ (m : Mind). m.view.number) mind)
          (ap (λ (m : Mind). m.view.holds) mind) (ap (λ (m : Mind). m.view.sweep) mind) (ap (λ (m : Mind). m.view.plan) mind) found.out,
      latest_now _ _ c.seat.inside.token.me.0.view _ c.seat.invariant.1 (ap (λ (m : Mind). m.view) mind),
      c.seat.invariant.2
          ∙ sym (ap (λ (m : Mind). m.log.idle) mind
          ∙ recalled_idle c.seat.inside.token.me.0 c.args.process c.load-found.new.self.me.0.log.seen s.tag),
    )

pub returns-clause-found : goal.returns-clause-found
returns-clause-found c =
    found_as _ _ c.args.process _ c.seat.inside.token.me c.load-found.new.self.me (λ (v : View) t n. v)
    (λ (m : Mind). recalled m c.args.process c.load-found.new.self.me.0.log.seen)
    c.seen_of.result _
    (c.load-found.ensures.told c.args.process c.index_of.ensures) c.seen_of.ensures.few c.seen_of.ensures.word c.load-found.ensures.kept.0
    c.seat.view_is

pub returns-clause-wide : goal.returns-clause-wide
returns-clause-wide c =
    widths c.seat.inside.token.me.0 c.args.seat.now (ap (λ (x : SeatState). x.mind) c.seat.view_is)
    (c.load-found.ensures.told c.args.process c.index_of.ensures).wide

pub returns-clause-ours : goal.returns-clause-ours
returns-clause-ours c =
    ours_seen _ _ c.args.seat.now _ c.requires.ours
    (seen_found c.args.seat.now _ c.args.process c.seen_of.result _ (returns-clause-found c))

pub returns-clause-there : goal.returns-clause-there
returns-clause-there c =
    there_seen c.args.seat.now _ c.args.process c.requires.there
    (seen_found c.args.seat.now _ c.args.process c.seen_of.result _ (returns-clause-found c))

pub returns-clause-ended : goal.returns-clause-ended
returns-clause-ended c ended =
    let wide = returns-clause-wide c in
    let there = c.requires.there in
    marked_now c.args.seat.now _ c.args.process c.seen_of.result _ (returns-clause-found c) ended (omega (arith, wide, there))
