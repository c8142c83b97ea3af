-- What a statement says before the block inside it.
use Rattle.std.specs.Prelude.{◌≡◌, ℕ, Result, Ok, Err}
use Rattle.std.specs.declared.alloc.AllocError.{AllocError}
use Rattle.fm_rules.specs.declared.fault.CheckFault.{CheckFault}
use Rattle.fm_rules.specs.declared.fault.CheckFault.TheVariants.{Memory}
use Rattle.fm_grammar.specs.Score as text
use Rattle.fm_meaning.specs.Faults.{first_found}
use Rattle.fm_meaning.specs.Ranges.{stmt_faults, body_faults}
use Rattle.fm_expansion.specs.Outline as plain
use Rattle.fm_expansion.specs.Numbering.{Catalogue, Numbered, numbered, instruction_of, block_of}
use Rattle.fm_outline.specs.declared.shell.Shell.{Shell}
use Rattle.fm_outline.specs.declared.shell.Shell.TheVariants as shell
use Rattle.fm_outline.specs.Knows.{names_of}
use Rattle.fm_outline.specs.Refusal.{Told}
use Rattle.fm_outline.specs.View.{quality_view}

-- the statement with its block
abbrev pub closed : Shell → plain.Block → plain.Instruction
closed (shell.Loop count) b = plain.loop count b
closed (shell.Warp number) b = plain.warp number b
closed (shell.Channel number) b = plain.channel number b
closed (shell.Steady q entry) b = plain.steady (quality_view q) entry b
closed (shell.Under q list) b = plain.under (quality_view q) list b

-- the same with the tables behind the block
abbrev pub closed_behind : Shell → Numbered plain.Block → Numbered plain.Instruction
closed_behind o v = numbered (closed o v.value) v.tables

-- by the index of what was added to a table, or want of memory
abbrev pub opened : (ℕ → Shell) → Result ℕ AllocError → Result Shell CheckFault
opened f (Ok n) = Ok (f n)
opened f (Err e) = Err Memory

-- a deformation by its number
abbrev pub opened_warp : Result ℕ CheckFault → Result Shell CheckFault
opened_warp (Ok n) = Ok (shell.Warp n)
opened_warp (Err fault) = Err fault

-- a statement is this and its block, between these tables, and has the faults of its block; or the fault is its own
abbrev pub Opens : Catalogue → text.Stmt → text.Body → (t u : plain.Tables) → Result Shell CheckFault → Type 0
Opens k s b t u (Ok o) =
    (first_found (stmt_faults (names_of k) s) ≡ first_found (body_faults (names_of k) b))
    × (instruction_of k s t ≡ closed_behind o (block_of k b u))
Opens k s b t u (Err e) = Told (stmt_faults (names_of k) s) e
