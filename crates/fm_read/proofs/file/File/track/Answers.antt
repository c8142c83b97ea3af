use Rattle.std.proofs.Common.{rules, ◌≡◌, Some, arith, length-append}
use Rattle.std.specs.Prelude.{slice_get}
use Rattle.fm_read.specs.Files.{tracks}
use Rattle.fm_read.specs.Kept.{joined_parts}
use Rattle.fm_read.proofs.Few.{track_few}
use Rattle.fm_read.proofs.file.File.track.Goals as goal

pub returns-then-left-eq0-clause-few : goal.returns-then-left-eq0-clause-few
returns-then-left-eq0-clause-few c =
    let is : slice_get (tracks c.args.self.now.parts) c.args.number ≡ Some c.of_body.result = search rules in
    omega (
      arith,
      track_few c.args.self.now.parts c.args.number c.of_body.result is,
      c.chunks-chunks.ensures.small,
      length-append c.args.self.now.head (joined_parts c.args.self.now.parts),
    )
