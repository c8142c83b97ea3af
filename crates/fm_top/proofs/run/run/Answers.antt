use Rattle.std.proofs.Common.{map, string_bytes}
use Rattle.fm_words.specs.Asked.{settings_by_rules}
use Rattle.fm_top.proofs.Lefts.{file_does, file_stops, recording_does, recording_stops}
use Rattle.fm_top.proofs.run.run.Goals as goal

-- the file of a score that was left is written
pub returns-in-Ok-clause-ok : goal.returns-in-Ok-clause-ok
returns-in-Ok-clause-ok g c =
    file_does {S = g.row.S.Denot} {K = g.row.K.Denot} g.S.Source.seen _ _ g.K.Append.seen _ _ _ c.plans_play_the_score.ensures
    c.scores_end_with_their_last_line.ensures (settings_by_rules (map string_bytes c.args.words.now)) _ c.in-Ok-File.playing
    c.in-Ok-File.ensures.ok c.in-Ok-File.field-0-is _ c.in-Ok.ensures.told c.in-Ok.ensures.file

-- or it is not
pub returns-in-Err-play_left-clause-err : goal.returns-in-Err-play_left-clause-err
returns-in-Err-play_left-clause-err g c =
    file_stops {S = g.row.S.Denot} {K = g.row.K.Denot} g.S.Source.seen _ _ g.K.Append.seen _ _ _ c.plans_play_the_score.ensures
    c.scores_end_with_their_last_line.ensures (settings_by_rules (map string_bytes c.args.words.now)) _ c.in-Ok-File.playing
    c.in-Ok-File.ensures.ok c.in-Ok-File.field-0-is c.in-Err-play_left.fault c.in-Err-play_left.ensures.err

-- the record of a score that was left is put
pub returns-in-Ok-record_left-clause-ok : goal.returns-in-Ok-record_left-clause-ok
returns-in-Ok-record_left-clause-ok g c =
    recording_does {S = g.row.S.Denot} {K = g.row.K.Denot} g.S.Source.seen _ _ g.K.Append.seen _ _ _ c.plans_play_the_score.ensures
    c.scores_end_with_their_last_line.ensures (settings_by_rules (map string_bytes c.args.words.now)) _ c.in-Ok-Record.recording
    c.in-Ok-Record.ensures.ok c.in-Ok-Record.field-0-is _ c.in-Ok-record_left.ensures.told c.in-Ok-record_left.ensures.puts

-- or it is not
pub returns-in-Err-record_left-clause-err : goal.returns-in-Err-record_left-clause-err
returns-in-Err-record_left-clause-err g c =
    recording_stops {S = g.row.S.Denot} {K = g.row.K.Denot} g.S.Source.seen _ _ g.K.Append.seen _ _ _ c.plans_play_the_score.ensures
    c.scores_end_with_their_last_line.ensures (settings_by_rules (map string_bytes c.args.words.now)) _ c.in-Ok-Record.recording
    c.in-Ok-Record.ensures.ok c.in-Ok-Record.field-0-is c.in-Err-record_left.fault c.in-Err-record_left.ensures.err
