-- How far the walk over the entries of a score has come.
use Rattle.std.specs.Prelude.{◌≡◌, ℕ, ◌<◌, List, ◌∷◌, map, length, vec_items, None, Some}
use Rattle.fm_lex.specs.declared.spot.Spot.{Spot}
use Rattle.fm_grammar.specs.Score as text
use Rattle.fm_grammar.specs.View.{PlacedStmt}
use Rattle.fm_names.specs.Named.{named}
use Rattle.fm_meaning.specs.Faults.{first_found}
use Rattle.fm_meaning.specs.Ranges.{entries_faults, second_walk}
use Rattle.fm_rules.specs.Why.{fault_at}
use Rattle.fm_rules.specs.declared.why.Why.{Why}
use Rattle.fm_expansion.specs.Outline as plain
use Rattle.fm_expansion.proofs.Tables.{Grows}
use Rattle.fm_expansion.specs.Numbering.{Catalogue, outline, outline_from}
use Rattle.fm_outline.specs.declared.known.Known.{Known}
use Rattle.fm_outline.specs.declared.step.Step.{Step}
use Rattle.fm_outline.specs.declared.walk.Walk.{Walk}
use Rattle.fm_outline.specs.View.{Look, look_in, phrases_view, step_view, block_view, tables_view}
use Rattle.fm_outline.specs.Growing.{followed}
use Rattle.fm_outline.specs.Knows.{Knows, KnowsNeeds, names_of}
use Rattle.fm_outline.specs.Forking.{AreAsking, PhrasesAsk}
use Rattle.fm_outline.specs.Outlined.{IsStepOf, IsBlockOf}

-- these phrases stand for what they are, whatever phrases are behind them
abbrev pub Extends : List plain.Block → Look → Type 0
Extends blocks look = (n : ℕ) → n < length blocks → look n ≡ look_in blocks n

-- what is done stands before the entries that are left, and the first fault is that of these
pub record WalkedBy (score : text.Score) (known : Known) (phrases : List (List Step)) (block : List Step)
    (tables : plain.Tables) (rest : List text.Entry) : Type 0 where
  pub k : Catalogue
  pub first : first_found (second_walk score) ≡ first_found (entries_faults (names_of k) rest)
  pub knows : (look : Look) → Extends (phrases_view phrases) look → Knows known look k
  pub stand : (look : Look) → Extends (phrases_view phrases) look
      → phrases_view phrases ≡ map (block_view look) phrases
  pub so_far : (look : Look) → Extends (phrases_view phrases) look
      → outline score ≡ followed (map (step_view look) block) (outline_from k rest tables)
  pub as_many : length known.needs.items ≡ length phrases
  pub knows_needs : (look : Look) → Extends (phrases_view phrases) look → (v : plain.Tables) → Grows tables v
      → KnowsNeeds known v look
  pub asking : (look : Look) → Extends (phrases_view phrases) look → (v : plain.Tables) → Grows tables v
      → AreAsking v look block
  pub phrases_asking : (v : plain.Tables) → Grows tables v → PhrasesAsk v phrases

-- the same of the walk
abbrev pub Walked : text.Score → Walk → List text.Entry → Type 0
Walked score w rest =
    WalkedBy score w.known (map vec_items w.phrases.items) w.block.items (tables_view w.tables) rest

-- the same, where the tables are those before the first of the entries that are left
abbrev pub WalkedFrom : text.Score → Walk → plain.Tables → List text.Entry → Type 0
WalkedFrom score w t rest = WalkedBy score w.known (map vec_items w.phrases.items) w.block.items t rest

-- a statement that was outlined is appended between two walks
abbrev pub StepAppended : Walk → Step → Walk → Type 0
StepAppended w step u =
    (score : text.Score) (rest : List text.Entry) (stmt : PlacedStmt) (t : plain.Tables)
    → WalkedFrom score w t (text.plays stmt.spot stmt.what ∷ rest)
    → IsStepOf w.known t stmt step (tables_view w.tables) → Walked score u rest

-- a phrase that was outlined is defined between two walks
abbrev pub PhraseDefined : Walk → text.Leaf → List Step → Walk → Type 0
PhraseDefined w name steps u =
    (score : text.Score) (rest : List text.Entry) (b : text.Body) (t : plain.Tables)
    → WalkedFrom score w t (text.phrase name b ∷ rest) → named w.known.names name.text ≡ None
    → IsBlockOf w.known t b steps (tables_view w.tables) → Walked score u rest

-- an entry is done between two walks
abbrev pub EntryDone : Walk → text.Entry → Walk → Type 0
EntryDone w e u = (score : text.Score) (rest : List text.Entry) → Walked score w (e ∷ rest) → Walked score u rest

-- the first fault is this one, where the walk has come to the entry
abbrev pub EntryRefused : Walk → text.Entry → Spot → Why → Type 0
EntryRefused w e spot why =
    (score : text.Score) (rest : List text.Entry) → Walked score w (e ∷ rest)
    → first_found (second_walk score) ≡ Some (fault_at spot why)
