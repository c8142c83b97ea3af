use Rattle.std.proofs.Common.{arith, ◌∙◌, Some, sym, ap}
use Rattle.fm_board.specs.Seats.{SeatState}
use Rattle.fm_board.specs.declared.view.Mind.{Mind}
use Rattle.fm_board.specs.declared.view.View.{View}
use Rattle.fm_board.proofs.Births.{begun_as, begun_tidy, not_unborn, start_low, starts_at}
use Rattle.fm_board.proofs.FoundLast.{latest_now}
use Rattle.fm_board.specs.Plays.{Holder}
use Rattle.fm_board.specs.View.{holding}
use Rattle.fm_board.proofs.Steps.{found_as, is_out, stays_tidy, taken_out}
use Rattle.fm_board.proofs.board.Board.begin.Goals as goal

pub word_of-new-requires : goal.word_of-new-requires
word_of-new-requires c =
    let low = start_low c.args.self.now.about c.args.process in
    let tick = c.requires.tick in (omega (arith, low, tick), c.seat.invariant.0.1)

pub compare_exchange-found-requires-clause-may : goal.compare_exchange-found-requires-clause-may
compare_exchange-found-requires-clause-may c =
    starts_at _ c.args.self.now.about _ _ _ _ c.args.process _ c.args.tick c.seat.inside.number _ c.args.seat.now c.args.self.now.same.0
    c.requires.ours
    (ap (λ (x : SeatState). x.mind) c.seat.view_is) c.index_of.ensures c.requires.there c.requires.idle c.requires.ended c.requires.tick
    c.seat.invariant.0.0 c.word_of-new.ensures

pub seen_of-requires : goal.seen_of-requires
seen_of-requires c = ((c.compare_exchange-found.ensures.told c.args.process c.index_of.ensures).1 c.if-found-ne0.true).word

pub invariant_of-seat : goal.invariant_of-seat
invariant_of-seat c =
    let found = (c.compare_exchange-found.ensures.told c.args.process c.index_of.ensures).1 c.if-found-ne0.true in
    let s = c.seen_of.result in
    let mind = found.mind s.tag s.clock s.seat c.seen_of.ensures.few c.seen_of.ensures.word in (
      stays_tidy _ _ _ _ c.seat.inside.token.me c.compare_exchange-found.new.self.me c.seat.invariant.0
          (ap (λ (m : Mind). m.view.number) mind) (ap (λ (m : Mind). m.view.holds) mind) (ap (λ (m : Mind). m.view.sweep) mind)
          (ap (λ (m : Mind). m.view.plan) mind) found.out,
      latest_now _ _ c.seat.inside.token.me.0.view _ c.seat.invariant.1 (ap (λ (m : Mind). m.view) mind),
      c.seat.invariant.2 ∙ sym (ap (λ (m : Mind). m.log.idle) mind),
    )

pub returns-then-found-ne0 : goal.returns-then-found-ne0
returns-then-found-ne0 c =
    let s = c.seen_of.result in
    record {
      found = found_as _ _ c.args.process _ c.seat.inside.token.me c.compare_exchange-found.new.self.me (λ (v : View) t n. v)
          (λ (m : Mind) t. m.log) s _
          ((c.compare_exchange-found.ensures.told c.args.process c.index_of.ensures).1 c.if-found-ne0.true) c.seen_of.ensures.few
          c.seen_of.ensures.word
          c.compare_exchange-found.ensures.kept.0 c.seat.view_is;
      born = not_unborn s.tag s.clock s.seat _ s.fits c.seen_of.ensures.word c.if-found-ne0.true;
    }

pub exchange-requires-clause-out : goal.exchange-requires-clause-out
exchange-requires-clause-out c =
    let hit = (c.compare_exchange-found.ensures.told c.args.process c.index_of.ensures).0 c.if-found-ne0.false in
    (Some hit.stock, is_out _ c.args.process _ _ hit.out)

pub unreachable-requires : goal.unreachable-requires
unreachable-requires c =
    let hit = (c.compare_exchange-found.ensures.told c.args.process c.index_of.ensures).0 c.if-found-ne0.false in
    let is = sym c.in-None.is ∙ taken_out _ c.args.process _ _ _ _ c.exchange.ensures.was hit.out in absurd (cc)

pub invariant_of-seat-2 : goal.invariant_of-seat-2
invariant_of-seat-2 c =
    let hit = (c.compare_exchange-found.ensures.told c.args.process c.index_of.ensures).0 c.if-found-ne0.false in (
      begun_tidy _ c.args.process _ _ _ c.seat.inside.token.me _ _ c.seat.invariant.0
          (ap (λ (x : SeatState). x.mind.view.holds) c.seat.view_is ∙ c.requires.idle) hit c.exchange.ensures.is,
      latest_now _ _ (holding c.seat.inside.token.me.0.view hit.hold) _ c.seat.invariant.1
          (ap (λ (y : Holder). y.0.view) c.exchange.ensures.is ∙ ap (λ (m : Mind). m.view) hit.mind),
      c.seat.invariant.2
          ∙ sym (ap (λ (y : Holder). y.0.log.idle) c.exchange.ensures.is ∙ ap (λ (m : Mind). m.log.idle) hit.mind),
    )

pub returns : goal.returns
returns c =
    let hit = (c.compare_exchange-found.ensures.told c.args.process c.index_of.ensures).0 c.if-found-ne0.false in
    let b = c.begin-strand.ensures in
    begun_as c.args.self.now.about _ _ _ _ c.args.process c.seat.inside.token.me _ _ _ c.in-Some.room c.begin-strand.result c.args.seat.now
    c.requires.ours hit
    c.exchange.ensures.is c.in-Some.is (taken_out _ c.args.process _ _ _ _ c.exchange.ensures.was hit.out)
    (record { process = b.process; course = b.course; clock = b.clock; events = b.rest; steps = b.steps })
    c.exchange.ensures.kept.0 c.compare_exchange-found.ensures.kept.0 c.seat.view_is
