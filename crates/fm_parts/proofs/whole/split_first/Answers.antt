use Rattle.std.proofs.Common.{◌+◌, [], ◌∙◌, ◌++◌, sym, arith, append_assoc}
use Rattle.std.specs.List.{flat_map}
use Rattle.fm_edge.proofs.Chains.{on_err}
use Rattle.fm_msg.specs.declared.msg.TheConstants.{CHANNELS}
use Rattle.fm_read.specs.Decoded.{decoded}
use Rattle.fm_parts.specs.Format1.{channel_tracks, format1_header, tempo_track, track_chunk}
use Rattle.fm_parts.specs.Tally.{first_track}
use Rattle.fm_edge.proofs.Passing.{pass_after, pass_breaks, pass_parts, parts_break, breaks_all, pass_finish, pass_finish_breaks}
use Rattle.fm_parts.proofs.SplitLemmas.{split_parts, split_long}
use Rattle.fm_parts.proofs.whole.split_first.Goals as goal

pub returns-in_err-push_all-clause-err : goal.returns-in_err-push_all-clause-err
returns-in_err-push_all-clause-err g c =
    let at_end = rw c.first_track.ensures.value at c.tally_of-tally.ensures.end in
    let count = c.tracks.ensures.value _ _ (rw c.first_track.ensures.value at c.tally_of-tally.ensures.tally) in
    let whole = split_parts c.args.file.now c.tally_of-tally.result.1 c.tracks.result at_end count in
    let head = rw c.division.ensures.value at c.header.ensures in
    let chunks = flat_map track_chunk (channel_tracks CHANNELS (decoded 0 (first_track c.args.file.now)) c.tally_of-tally.result.1) in
    let tempo = track_chunk (tempo_track c.tally_of-tally.result.1) in
    on_err c.from_residual.result
    (breaks_all _ _ _ [] (format1_header (1 + c.tracks.result) c.args.file.now.division) (tempo ++ chunks) _
    (sym (append_assoc (format1_header (1 + c.tracks.result) c.args.file.now.division) tempo chunks) ∙ sym whole)
    (rw (head, c.new-out.ensures) at c.in_err-push_all.ensures.err))

pub returns-in_err-tempo-clause-err : goal.returns-in_err-tempo-clause-err
returns-in_err-tempo-clause-err g c =
    let at_end = rw c.first_track.ensures.value at c.tally_of-tally.ensures.end in
    let count = c.tracks.ensures.value _ _ (rw c.first_track.ensures.value at c.tally_of-tally.ensures.tally) in
    let whole = split_parts c.args.file.now c.tally_of-tally.result.1 c.tracks.result at_end count in
    let head = rw c.division.ensures.value at c.header.ensures in
    let chunks = flat_map track_chunk (channel_tracks CHANNELS (decoded 0 (first_track c.args.file.now)) c.tally_of-tally.result.1) in
    let tempo = track_chunk (tempo_track c.tally_of-tally.result.1) in
    on_err c.from_residual-in_err-tempo.result
    (breaks_all _ _ _ [] (format1_header (1 + c.tracks.result) c.args.file.now.division ++ tempo) chunks _ (sym whole)
    (pass_breaks _ _ _ _ _ _ _ _ (rw (head, c.new-out.ensures) at c.in_ok-push_all.ensures.ok) c.in_err-tempo.ensures.err))

pub returns-in_err-channels-clause-err : goal.returns-in_err-channels-clause-err
returns-in_err-channels-clause-err g c =
    let at_end = rw c.first_track.ensures.value at c.tally_of-tally.ensures.end in
    let count = c.tracks.ensures.value _ _ (rw c.first_track.ensures.value at c.tally_of-tally.ensures.tally) in
    let whole = split_parts c.args.file.now c.tally_of-tally.result.1 c.tracks.result at_end count in
    let head = rw c.division.ensures.value at c.header.ensures in
    on_err c.from_residual-in_err-channels.result
    (parts_break _ _ _ _ _ _ _ _ _ whole
    (pass_after _ _ _ _ _ _ _ _ _ (rw (head, c.new-out.ensures) at c.in_ok-push_all.ensures.ok) c.in_ok-tempo.ensures.ok)
    c.in_err-channels.ensures.err)

pub returns-in_err-finish-clause-err : goal.returns-in_err-finish-clause-err
returns-in_err-finish-clause-err g c =
    let at_end = rw c.first_track.ensures.value at c.tally_of-tally.ensures.end in
    let count = c.tracks.ensures.value _ _ (rw c.first_track.ensures.value at c.tally_of-tally.ensures.tally) in
    let whole = split_parts c.args.file.now c.tally_of-tally.result.1 c.tracks.result at_end count in
    let head = rw c.division.ensures.value at c.header.ensures in
    on_err c.from_residual-in_err-finish.result
    (pass_finish_breaks _ _ _ _ _ _
    (pass_parts _ _ _ _ _ _ _ _ _ _ whole
    (pass_after _ _ _ _ _ _ _ _ _ (rw (head, c.new-out.ensures) at c.in_ok-push_all.ensures.ok) c.in_ok-tempo.ensures.ok)
    c.in_ok-channels.ensures.ok)
    c.in_err-finish.ensures.err)

pub returns-clause-count : goal.returns-clause-count
returns-clause-count g c =
    let at_end = rw c.first_track.ensures.value at c.tally_of-tally.ensures.end in
    let count = c.tracks.ensures.value _ _ (rw c.first_track.ensures.value at c.tally_of-tally.ensures.tally) in
    omega (
      arith,
      split_long c.args.file.now c.tally_of-tally.result.1 c.tracks.result at_end count,
      c.in_ok-tempo.ensures.count,
      c.in_ok-channels.ensures.count,
    )

pub returns-clause-ok : goal.returns-clause-ok
returns-clause-ok g c =
    let at_end = rw c.first_track.ensures.value at c.tally_of-tally.ensures.end in
    let count = c.tracks.ensures.value _ _ (rw c.first_track.ensures.value at c.tally_of-tally.ensures.tally) in
    let whole = split_parts c.args.file.now c.tally_of-tally.result.1 c.tracks.result at_end count in
    let head = rw c.division.ensures.value at c.header.ensures in
    pass_finish _ _ _ _ _ _
    (pass_parts _ _ _ _ _ _ _ _ _ _ whole
    (pass_after _ _ _ _ _ _ _ _ _ (rw (head, c.new-out.ensures) at c.in_ok-push_all.ensures.ok) c.in_ok-tempo.ensures.ok)
    c.in_ok-channels.ensures.ok)
    c.in_ok-finish.ensures.ok
