-- Statements that say of themselves whether they fork, and what they ask.
use Rattle.std.specs.Prelude.{◌≡◌, ℕ, ◌<◌, List, [], ◌++◌, length, take, slice_get, slice_index_or, flat_map, vec_items, Option, None, Some, ⊤}
use Rattle.fm_lex.specs.declared.spot.Spot.{Spot}
use Rattle.fm_meaning.specs.Places.{Depths}
use Rattle.fm_expansion.specs.Emission.{forks}
use Rattle.fm_expansion.specs.Outline as plain
use Rattle.fm_expansion.specs.Outline.{Tables, play_in}
use Rattle.fm_outline.specs.declared.needs.Needs.{Needs}
use Rattle.fm_outline.specs.declared.step.Step.{Step}
use Rattle.fm_outline.specs.declared.step.Instruction.{Instruction}
use Rattle.fm_outline.specs.declared.step.Instruction.TheOpen.{Instruction-F}
use Rattle.fm_outline.specs.declared.step.Instruction.TheViews.{out-Instruction}
use Rattle.fm_outline.specs.Asking.{own_faults, BlockAsks, StepAsks}
use Rattle.fm_outline.specs.View.{Look, look_in, phrases_view, instruction_view, step_view}

-- the statements directly inside one
abbrev pub inside_level : Instruction-F Instruction Step → List Step
inside_level (Instruction-F.Note chord l) = []
inside_level (Instruction-F.Rest l) = []
inside_level (Instruction-F.Send point draw) = []
inside_level (Instruction-F.Set register expr) = []
inside_level (Instruction-F.Choice expr ys ns) = ys.items ++ ns.items
inside_level (Instruction-F.Loop count body) = body.items
inside_level (Instruction-F.Phrase number) = []
inside_level (Instruction-F.Par bs) = flat_map vec_items bs.items
inside_level (Instruction-F.Warp number body) = body.items
inside_level (Instruction-F.Channel number body) = body.items
inside_level (Instruction-F.Steady q entry body) = body.items
inside_level (Instruction-F.Under q list body) = body.items

-- the same of a statement as a whole
abbrev pub inside : Instruction → List Step
inside what = inside_level (out-Instruction what)

-- the phrase that a statement names, by its number
abbrev pub called_level : Instruction-F Instruction Step → Option ℕ
called_level (Instruction-F.Phrase number) = number
called_level what = None

-- the same of a statement as a whole
abbrev pub called : Instruction → Option ℕ
called what = called_level (out-Instruction what)

-- this holds of a statement, and of all inside it
pub data Throughout (P : Step → Type 0) : Step → Type 0 where
  throughout : (s : Step) → P s
      → ((x : Step) (n : ℕ) → n < length (inside s.what) → x ≡ slice_index_or (inside s.what) n x → Throughout P x)
      → Throughout P s

-- of each statement of a list, and of all inside it
abbrev pub AllThroughout : (Step → Type 0) → List Step → Type 0
AllThroughout P ss = (x : Step) (n : ℕ) → n < length ss → x ≡ slice_index_or ss n x → Throughout P x

-- ---- forks

-- a statement says rightly whether it forks
abbrev pub SaysForks : Look → Step → Type 0
SaysForks look s = s.needs.forks ≡ forks (step_view look s).what

-- and so do all inside it
abbrev pub IsMarked : Look → Step → Type 0
IsMarked look s = Throughout (SaysForks look) s

-- each statement of a list does, and all inside it
abbrev pub AreMarked : Look → List Step → Type 0
AreMarked look ss = AllThroughout (SaysForks look) ss

-- each phrase is marked, where it sees those before it
abbrev pub PhrasesMarked : List (List Step) → Type 0
PhrasesMarked ps =
    (n : ℕ) → n < length ps → AreMarked (look_in (phrases_view (take n ps))) (slice_index_or ps n [])

-- ---- what is asked

-- a statement says rightly what it asks, where the tables are these
abbrev pub SaysNeeds : Tables → Look → Step → Type 0
SaysNeeds t look s = StepAsks t (step_view look s).what s.needs

-- and so do all inside it
abbrev pub IsAsking : Tables → Look → Step → Type 0
IsAsking t look s = Throughout (SaysNeeds t look) s

-- each statement of a list does, and all inside it
abbrev pub AreAsking : Tables → Look → List Step → Type 0
AreAsking t look ss = AllThroughout (SaysNeeds t look) ss

-- each phrase does, where it sees those before it
abbrev pub PhrasesAsk : Tables → List (List Step) → Type 0
PhrasesAsk t ps =
    (n : ℕ) → n < length ps → AreAsking t (look_in (phrases_view (take n ps))) (slice_index_or ps n [])

-- it is known what a phrase asks
pub record KnownAs (needs : List Needs) (t : Tables) (look : Look) (number : ℕ) : Type 0 where
  pub own : Needs
  pub there : slice_get needs number ≡ Some own
  pub asks : BlockAsks t (look number) own

-- the same where there is a number
abbrev pub IsKnownOf : List Needs → Tables → Look → Option ℕ → Type 0
IsKnownOf needs t look None = ⊤
IsKnownOf needs t look (Some n) = KnownAs needs t look n

-- what a statement names itself is the same in both tables
abbrev pub FindsSame : (u t : Tables) → plain.Instruction → Type 0
FindsSame u t what =
    (spot : Spot) (d : Depths) → own_faults spot (play_in u what) d ≡ own_faults spot (play_in t what) d

-- those inside a statement say rightly what they ask, and of the phrase that it names it is known
pub record CanMark (needs : List Needs) (t : Tables) (look : Look) (what : Instruction) : Type 0 where
  pub those : AreAsking t look (inside what)
  pub phrase : IsKnownOf needs t look (called what)

-- what was made of a statement over these tables says rightly what it asks, also where they have grown
abbrev pub MarksStep : (u : Tables) → List Needs → Instruction → Step → Type 0
MarksStep u needs what made =
    (t : Tables) (look : Look) → FindsSame u t (instruction_view look what) → CanMark needs t look what
    → IsAsking t look made

-- a statement has these inside, and names no phrase
pub record Surrounds (steps : List Step) (what : Instruction) : Type 0 where
  pub those : inside what ≡ steps
  pub alone : called what ≡ None
