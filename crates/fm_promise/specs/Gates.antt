-- Whether no articulation that a score sets is above so many percent of a duration.
use Rattle.std.specs.Prelude.{ℕ, Bool, true, ◌&&◌, nat_le}
use Rattle.std.specs.List.{list_all}
use Rattle.fm_meaning.specs.Resolved.{Quality, articulation, Play, choice, loop, phrase, par, warp, channel, steady, under, Passage, done, item, Fork, joined, branch, Resolved}

-- an entry of a list, which counts where it is an articulation
abbrev pub entry_at_most : (most : ℕ) → Quality → ℕ → Bool
entry_at_most most articulation entry = nat_le entry most
entry_at_most most quality entry = true

abbrev mutual
  -- in a statement: one articulation for all that it holds, or a list of them
  pub play_at_most : (most : ℕ) → Play → Bool
  play_at_most most (choice expr first second) = passage_at_most most first && passage_at_most most second
  play_at_most most (loop count body) = passage_at_most most body
  play_at_most most (phrase body) = passage_at_most most body
  play_at_most most (par branches) = fork_at_most most branches
  play_at_most most (warp parts body) = passage_at_most most body
  play_at_most most (channel number body) = passage_at_most most body
  play_at_most most (steady quality entry body) = entry_at_most most quality entry && passage_at_most most body
  play_at_most most (under quality entries body) =
      list_all (entry_at_most most quality) entries && passage_at_most most body
  play_at_most most play = true

  -- in statements in turn
  pub passage_at_most : (most : ℕ) → Passage → Bool
  passage_at_most most done = true
  passage_at_most most (item spot play more) = play_at_most most play && passage_at_most most more

  -- in branches
  pub fork_at_most : (most : ℕ) → Fork → Bool
  fork_at_most most joined = true
  fork_at_most most (branch body branches) = passage_at_most most body && fork_at_most most branches

-- in a whole score; a note outside of all that set one has an articulation of 90 percent
abbrev pub gates_at_most : (most : ℕ) → Resolved → Bool
gates_at_most most r = passage_at_most most r.passage
