-- Programs that are being made: operations in the place of others, and statements that may fork or not.
use Rattle.std.specs.Prelude.{ℕ, Bool, true, false, slice_set}
use Rattle.fm_program.specs.declared.op.Op.{Op}
use Rattle.fm_program.specs.Parts.{ProgramParts}
use Rattle.fm_expansion.specs.Outline.{Instruction, Block, done, item}
use Rattle.fm_expansion.specs.Homes.{Inside}
use Rattle.fm_expansion.specs.Expansion.{Emitting, straight, whole, expand, expand_in}

-- another operation at an index of the program that grows
abbrev pub patched : ℕ → Op → Emitting → Emitting
patched at op e = record e { current = record e.current { ops = slice_set e.current.ops at op } }

-- the program that grows is whole, and another one begins
abbrev pub next_begun : ProgramParts → Emitting → Emitting
next_begun p e = record { finished = whole e; current = p; scopes = e.scopes }

-- statements in turn that do not fork
abbrev pub straight_in : Block → Inside → Emitting → Emitting
straight_in done i e = e
straight_in (item spot x more) i e = straight_in more i (straight x i e)

-- a statement that may fork, or one that does not
abbrev pub made : Bool → Instruction → Inside → Emitting → Emitting
made true x i e = expand x i e
made false x i e = straight x i e

-- statements in turn
abbrev pub made_in : Bool → Block → Inside → Emitting → Emitting
made_in true b i e = expand_in b i e
made_in false b i e = straight_in b i e
