-- What is released is a beginning of the piece, and as long.
use Rattle.fm_audit.proofs.Released.{released_all}
use Rattle.fm_audit.proofs.checked.released_piece.Goals as goal

pub returns : goal.returns
returns c =
    released_all c.args.hall.now.setting c.args.hall.now.state c.released.result.now c.released.ensures.value
    c.released.ensures.prefix c.requires
