use Rattle.std.proofs.Common.{◌≡◌}
use Rattle.fm_program.specs.Process.{plan_lines}
use Rattle.fm_play.specs.Ends.{piece_end}
use Rattle.fm_play.proofs.Whole.{broke_off, events_break, events_written, played_is}
use Rattle.fm_round.proofs.rounds.play_lent.Goals as goal

pub play_rounds-requires-clause-at_end : goal.play_rounds-requires-clause-at_end
play_rounds-requires-clause-at_end g c = c.in_ok-writer.ensures.ok.at_end

-- the events are written
pub returns-in_err-events : goal.returns-in_err-events
returns-in_err-events g c =
    broke_off g.K.Append.seen c.args.plan.now c.args.sink.now c.play_rounds.new.sink
    c.from_residual-in_err-events.result c.from_residual-in_err-events.ensures.0
    (events_break g.K.Append.seen c.args.plan.now c.args.sink.now c.begin_file.new.sink
    c.play_rounds.new.sink c.in_ok-writer.writer c.in_ok-writer.ensures.ok c.in_err-events.ensures.err)

-- and the file is finished
pub finish_file-requires-clause-end : goal.finish_file-requires-clause-end
finish_file-requires-clause-end g c =
    let is : c.end_of_piece-last.result ≡ piece_end (plan_lines c.args.plan.now) = c.end_of_piece-last.ensures in is

pub finish_file-requires-clause-put : goal.finish_file-requires-clause-put
finish_file-requires-clause-put g c = (
  c.args.sink.now,
  events_written g.K.Append.seen c.args.plan.now c.args.sink.now c.begin_file.new.sink
      c.play_rounds.new.sink c.in_ok-writer.writer c.in_ok-writer.ensures.ok c.play_rounds.new.writer c.in_ok-events.ensures.ok,
)

pub returns-in_err-bytes : goal.returns-in_err-bytes
returns-in_err-bytes g c =
    broke_off g.K.Append.seen c.args.plan.now c.args.sink.now c.finish_file.new.sink
    c.from_residual-in_err-bytes.result c.from_residual-in_err-bytes.ensures.0
    (c.in_err-bytes.ensures.err c.args.sink.now
    (events_written g.K.Append.seen c.args.plan.now c.args.sink.now c.begin_file.new.sink
    c.play_rounds.new.sink c.in_ok-writer.writer c.in_ok-writer.ensures.ok c.play_rounds.new.writer c.in_ok-events.ensures.ok))

pub returns : goal.returns
returns g c = record {
  file = c.in_ok-bytes.ensures.ok c.args.sink.now
      (events_written g.K.Append.seen c.args.plan.now c.args.sink.now c.begin_file.new.sink
      c.play_rounds.new.sink c.in_ok-writer.writer c.in_ok-writer.ensures.ok c.play_rounds.new.writer c.in_ok-events.ensures.ok);
  told = played_is c.args.plan.now c.in_ok-events.events c.end_of_piece-last.result c.in_ok-bytes.bytes
      c.in_ok-events.ensures.count c.end_of_piece-last.ensures c.in_ok-bytes.ensures.length;
}
