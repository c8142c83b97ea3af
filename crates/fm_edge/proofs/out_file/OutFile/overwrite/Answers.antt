use Rattle.std.proofs.Common.{◌≡◌, length, rules}
use Rattle.fm_edge.specs.Content.{overwritten}
use Rattle.fm_edge.proofs.Handles.{over_all}
use Rattle.fm_edge.proofs.out_file.OutFile.overwrite.Goals as goal

-- all four bytes are written, and the position is lost
pub returns-in_err-ok-2-clause-err : goal.returns-in_err-ok-2-clause-err
returns-in_err-ok-2-clause-err g c none =
    let four : length c.args.bytes.now ≡ 4 = search rules in
    let is : c.move_to_end.new.self.held.bytes ≡ overwritten c.args.self.now.bytes c.args.at c.args.bytes.now = search rules in
    over_all _ _ _ _ four is
