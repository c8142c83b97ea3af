-- Statements and blocks that were outlined between two states of the tables.
use Rattle.std.specs.Prelude.{◌≡◌, List, None}
use Rattle.fm_grammar.specs.Score as text
use Rattle.fm_grammar.specs.View.{PlacedStmt}
use Rattle.fm_meaning.specs.Faults.{first_found}
use Rattle.fm_meaning.specs.Ranges.{stmt_faults, body_faults}
use Rattle.fm_expansion.specs.Outline.{Tables}
use Rattle.fm_expansion.proofs.Tables.{Grows}
use Rattle.fm_expansion.specs.Numbering.{Catalogue, numbered, instruction_of, block_of}
use Rattle.fm_outline.specs.declared.known.Known.{Known}
use Rattle.fm_outline.specs.declared.step.Step.{Step}
use Rattle.fm_outline.specs.Forking.{AreAsking, IsAsking}
use Rattle.fm_outline.specs.Knows.{Knows, KnowsNeeds, names_of}
use Rattle.fm_outline.specs.View.{Look, instruction_view, block_view}

-- a statement has no fault, and is outlined at its spot, with its numbers, and says rightly what it asks, also where the
-- tables have grown
pub record IsStepOf (known : Known) (t : Tables) (stmt : PlacedStmt) (step : Step) (u : Tables) : Type 0 where
  pub spot : step.spot ≡ stmt.spot
  pub view : (k : Catalogue) (look : Look) → Knows known look k
      → (first_found (stmt_faults (names_of k) stmt.what) ≡ None)
      × (numbered (instruction_view look step.what) u ≡ instruction_of k stmt.what t)
  pub asking : (k : Catalogue) (look : Look) → Knows known look k → (v : Tables) → Grows u v → KnowsNeeds known v look
      → IsAsking v look step

-- the same of a block
pub record IsBlockOf (known : Known) (t : Tables) (b : text.Body) (steps : List Step) (u : Tables) : Type 0 where
  pub view : (k : Catalogue) (look : Look) → Knows known look k
      → (first_found (body_faults (names_of k) b) ≡ None) × (numbered (block_view look steps) u ≡ block_of k b t)
  pub asking : (k : Catalogue) (look : Look) → Knows known look k → (v : Tables) → Grows u v → KnowsNeeds known v look
      → AreAsking v look steps
