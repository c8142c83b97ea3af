-- The piece of valid lines can be written.
use Rattle.fm_play.proofs.InTime.{can_write}
use Rattle.fm_audit.proofs.checked.write_piece.Goals as goal

pub write_file-requires-clause-order : goal.write_file-requires-clause-order
write_file-requires-clause-order g c =
    rw c.released_piece.ensures (can_write c.args.profile.now c.args.hall.now.setting.lines c.requires.valid).falls

pub write_file-requires-clause-later : goal.write_file-requires-clause-later
write_file-requires-clause-later g c =
    rw (c.released_piece.ensures, c.requires.end) (can_write c.args.profile.now c.args.hall.now.setting.lines c.requires.valid).last

pub write_file-requires-clause-in_time : goal.write_file-requires-clause-in_time
write_file-requires-clause-in_time g c =
    rw c.requires.end (can_write c.args.profile.now c.args.hall.now.setting.lines c.requires.valid).end

pub write_file-requires-clause-fits : goal.write_file-requires-clause-fits
write_file-requires-clause-fits g c =
    rw (c.released_piece.ensures, c.requires.end) (can_write c.args.profile.now c.args.hall.now.setting.lines c.requires.valid).fits
