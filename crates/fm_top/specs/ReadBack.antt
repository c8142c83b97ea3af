-- What is claimed of the file of a score.
use Rattle.fm_grammar.specs.Score.{Score}
use Rattle.fm_meaning.specs.Lines.{played_piece, played_end}
use Rattle.fm_meaning.specs.Resolve.{resolved}
use Rattle.fm_meaning.specs.Rules.{profile_of}
use Rattle.fm_read.specs.WrittenFile.{IsFileOf, written_contents}

-- the file of the score's profile, piece and end is read as these
abbrev pub IsReadBack : Score → Type 0
IsReadBack s = IsFileOf (profile_of s) (played_piece (resolved s)) (played_end (resolved s))
    (written_contents (profile_of s) (played_piece (resolved s)) (played_end (resolved s)))
