-- What statements ask of the blocks that are open round them, whichever these are.
use Rattle.std.specs.Prelude.{ℕ, ◌+◌, ◌-◌, max, min, Bool, false, true, ◌&&◌, ◌||◌, not, nat_lt, List, ◌++◌}
use Rattle.fm_lex.specs.declared.spot.Spot.{Spot}
use Rattle.fm_meaning.specs.Rules.{most_warps, most_frames, most_blocks}
use Rattle.fm_meaning.specs.Fault.{NumberedFault, fault_if, fork_in_choice, play_outside_rhythm, index_outside_loop}
use Rattle.fm_meaning.specs.Fault.{too_deep}
use Rattle.fm_meaning.specs.Places.{Depths}
use Rattle.fm_outline.specs.declared.needs.Needs.{Needs}

-- nothing is asked
abbrev pub nothing : Needs
nothing = record { forks = false; fork_in_choice = false; rhythm = false; loops = 0; warps = 0; frames = 0; blocks = 0 }

-- a rhythm, and so many open loops
abbrev pub asks : Bool → ℕ → Needs
asks rhythm loops = record nothing { rhythm = rhythm; loops = loops }

-- a fork
abbrev pub forked : Needs
forked = record nothing { forks = true }

-- what one part asks and the other
abbrev pub both : Needs → Needs → Needs
both a b = record {
  forks = a.forks || b.forks;
  fork_in_choice = a.fork_in_choice || b.fork_in_choice;
  rhythm = a.rhythm || b.rhythm;
  loops = max a.loops b.loops;
  warps = max a.warps b.warps;
  frames = max a.frames b.frames;
  blocks = max a.blocks b.blocks;
}

-- what is open inside a block that opens so much
abbrev pub added : (opens : Depths) → Depths → Depths
added o d = record {
  in_choice = d.in_choice || o.in_choice;
  in_rhythm = d.in_rhythm || o.in_rhythm;
  loops = d.loops + o.loops;
  warps = d.warps + o.warps;
  frames = d.frames + o.frames;
  blocks = d.blocks + o.blocks;
}

-- what a block asks that opens so much, from what its statements ask; depths up to one more than there may be
abbrev pub outside : (opens : Depths) → Needs → Needs
outside o n = record {
  forks = n.forks;
  fork_in_choice = n.fork_in_choice || (n.forks && o.in_choice);
  rhythm = n.rhythm && not o.in_rhythm;
  loops = n.loops - o.loops;
  warps = min (most_warps + 1) (n.warps + o.warps);
  frames = min (most_frames + 1) (n.frames + o.frames);
  blocks = min (most_blocks + 1) (n.blocks + o.blocks);
}

-- more blocks lie inside one another than may
abbrev pub is_too_deep : (warps frames blocks : ℕ) → Bool
is_too_deep w f b = nat_lt most_warps w || nat_lt most_frames f || nat_lt most_blocks b

-- faults of each number of the walk at one spot
abbrev pub four_faults : Spot → (fork rhythm index deep : Bool) → List NumberedFault
four_faults spot a b c e =
    fault_if a spot fork_in_choice ++ fault_if b spot play_outside_rhythm ++ fault_if c spot index_outside_loop
    ++ fault_if e spot too_deep

-- the faults of statements that ask this where so much is open, all at one spot
abbrev pub missing : Spot → Needs → Depths → List NumberedFault
missing spot n d =
    four_faults spot (n.fork_in_choice || (n.forks && d.in_choice)) (n.rhythm && not d.in_rhythm)
    (nat_lt d.loops n.loops) (is_too_deep (d.warps + n.warps) (d.frames + n.frames) (d.blocks + n.blocks))
