use Rattle.std.proofs.Common.{rules, ◌≡◌, length, arith}
use Rattle.fm_read.specs.Files.{tracks}
use Rattle.fm_read.proofs.KeptLemmas.{some_tracks}
use Rattle.fm_read.proofs.file.File.tracks.Goals as goal

pub returns-clause-some : goal.returns-clause-some
returns-clause-some c =
    let all : c.loop-chunk.count ≡ length (tracks c.args.self.now.parts) = search rules in
    omega (arith, some_tracks c.args.self.now.parts c.chunks-chunks.ensures.form.some)
