-- What statements ask of the blocks that are open round them, and which faults that tells of.
use Rattle.std.specs.Prelude.{◌≡◌, ℕ, ◌≤◌, Bool, true, false, ◌||◌, nat_eq, List, [], ◌++◌}
use Rattle.std.specs.List.{list_any}
use Rattle.fm_lex.specs.declared.spot.Spot.{Spot}
use Rattle.fm_meaning.specs.Rules.{most_warps, most_frames, most_blocks}
use Rattle.fm_meaning.specs.Fault.{NumberedFault, fault_if, fork_in_choice, index_outside_loop}
use Rattle.fm_meaning.specs.Resolved.{Play, note, rest, send, assign, choice, loop, phrase, par, warp, channel, steady, under}
use Rattle.fm_meaning.specs.Places as places
use Rattle.fm_meaning.specs.Places.{in_one, in_branching, in_loop, in_warp, in_list, in_fork, has_outside, count_outside}
use Rattle.fm_meaning.specs.Places.{depth_faults, place_faults, passage_faults, fork_faults}
use Rattle.fm_expansion.specs.Outline as plain
use Rattle.fm_expansion.specs.Outline.{Tables, play_in, passage_in}
use Rattle.fm_expansion.specs.Emission.{forks, forks_in}
use Rattle.fm_outline.specs.declared.depths.Depths.{Depths}
use Rattle.fm_outline.specs.declared.needs.Needs.{Needs}
use Rattle.fm_outline.specs.Needs.{added, missing}

-- the blocks that are open
abbrev pub depths_view : Depths → places.Depths
depths_view d = record {
  in_choice = d.in_choice;
  in_rhythm = d.in_rhythm;
  loops = d.loops;
  warps = d.warps;
  frames = d.frames;
  blocks = d.blocks;
}

-- no limit of depth is passed, and each loop counts among the loops and lists
pub record IsWithin (d : places.Depths) : Type 0 where
  pub warps : d.warps ≤ most_warps
  pub frames : d.frames ≤ most_frames
  pub blocks : d.blocks ≤ most_blocks
  pub loops : d.loops ≤ d.frames

-- a block opens so much, and its statements stand inside it
pub record OpensBlock (opens : places.Depths) (inside : places.Depths → places.Depths) : Type 0 where
  pub same : (d : places.Depths) → inside d ≡ added opens d
  pub warps : opens.warps ≤ 2
  pub frames : opens.frames ≤ 2
  pub blocks : opens.blocks ≤ 2
  pub loops : opens.loops ≤ opens.frames

-- the faults of statements, by what is open round them
abbrev pub Faults : Type 0
Faults = places.Depths → List NumberedFault

-- whether a list has a fault of this number
abbrev pub has : ℕ → List NumberedFault → Bool
has number fs = list_any (λ f. nat_eq f.number number) fs

-- statements that ask this have faults of the same numbers, that of the depth round them among these
pub record TellsFaults (fs : Faults) (n : Needs) : Type 0 where
  pub same : (spot : Spot) (d : places.Depths) (number : ℕ)
      → has number (depth_faults spot d ++ fs d) ≡ has number (missing spot n d)

-- a statement at a spot that asks this has just these faults
pub record Asks (spot : Spot) (fs : Faults) (n : Needs) : Type 0 where
  pub tells : TellsFaults fs n
  pub list : (d : places.Depths) → IsWithin d → missing spot n d ≡ fs d

-- ---- a statement in parts

-- the faults of a statement itself, without those of its blocks
abbrev pub own_faults : Spot → Play → Faults
own_faults spot (choice expr first second) d = fault_if (has_outside d.loops expr) spot index_outside_loop
own_faults spot (loop count body) d = fault_if (count_outside d.loops count) spot index_outside_loop
own_faults spot (par branches) d = fault_if d.in_choice spot fork_in_choice
own_faults spot (phrase body) d = []
own_faults spot (warp parts body) d = []
own_faults spot (channel number body) d = []
own_faults spot (steady quality entry body) d = []
own_faults spot (under quality entries body) d = []
own_faults spot play d = place_faults spot play d

-- what is open inside its blocks
abbrev pub within : Play → places.Depths → places.Depths
within (choice expr first second) d = in_branching d
within (loop count body) d = in_loop count d
within (phrase body) d = in_one d
within (par branches) d = in_fork d
within (warp parts body) d = in_warp d
within (channel number body) d = in_one d
within (steady quality entry body) d = in_one d
within (under quality entries body) d = in_list quality d
within play d = d

-- the faults of its blocks, by what is open there
abbrev pub inside_faults : Play → Faults
inside_faults (choice expr first second) d = passage_faults first d ++ passage_faults second d
inside_faults (loop count body) d = passage_faults body d
inside_faults (phrase body) d = passage_faults body d
inside_faults (par branches) d = fork_faults branches d
inside_faults (warp parts body) d = passage_faults body d
inside_faults (channel number body) d = passage_faults body d
inside_faults (steady quality entry body) d = passage_faults body d
inside_faults (under quality entries body) d = passage_faults body d
inside_faults play d = []

-- whether a statement is itself a fork
abbrev pub is_fork : plain.Instruction → Bool
is_fork (plain.par arms) = true
is_fork what = false

-- whether a statement has none inside, and names no phrase
abbrev pub stands_alone : plain.Instruction → Bool
stands_alone (plain.note chord length) = true
stands_alone (plain.rest length) = true
stands_alone (plain.send point draw) = true
stands_alone (plain.assign register expr) = true
stands_alone what = false

-- ---- what is asked in an outline

-- the statements of a block ask this, where the tables are these, and fork where it says so
pub record BlockAsks (t : Tables) (b : plain.Block) (n : Needs) : Type 0 where
  pub forks : n.forks ≡ forks_in b
  pub faults : TellsFaults (passage_faults (passage_in t b)) n

-- the same of the statements inside a statement
pub record InsideAsks (t : Tables) (what : plain.Instruction) (n : Needs) : Type 0 where
  pub forks : (is_fork what || n.forks) ≡ forks what
  pub faults : TellsFaults (inside_faults (play_in t what)) n

-- the same of a statement, at any spot
pub record StepAsks (t : Tables) (what : plain.Instruction) (n : Needs) : Type 0 where
  pub forks : n.forks ≡ forks what
  pub faults : (spot : Spot) → TellsFaults (place_faults spot (play_in t what)) n
