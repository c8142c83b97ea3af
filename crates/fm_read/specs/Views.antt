-- A chunk of the code as plain data.
use Rattle.fm_read.specs.declared.chunk.Chunk.{Chunk}
use Rattle.fm_read.specs.Files.{Part}

-- its head and its body
abbrev pub as_part : Chunk → Part
as_part c = record { head = c.head.now; body = c.body.now }
