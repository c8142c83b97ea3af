-- What allows a give, fact by fact.
use Rattle.std.specs.Prelude.{◌≡◌, ℕ, ◌+◌, ◌<◌, ◌≤◌, length, Bool, true}
use Rattle.fm_line.specs.Line.{line, upper}
use Rattle.fm_core.specs.Floors.{within}
use Rattle.fm_core.specs.State.{Setting, State, cell, desk, held_by}
use Rattle.fm_core.specs.Tags.{is_ended}
use Rattle.fm_core.specs.Taking.{must_take}

-- what allows a give, fact by fact
pub record MayGive (g : Setting) (h : State) (s p t n now : ℕ) (ends : Bool) : Type 0 where
  -- the seat is there and holds the process
  pub seat : s < length h.desks
  pub process : p < length h.cells
  pub held : held_by s (cell h p) ≡ true
  -- what must be taken is taken
  pub take : t ≡ must_take g h s p
  -- so many events are left, and none where the process was ended before
  pub fits : (cell h p).computed + n ≤ length (line g.lines p).events
  pub none_more : is_ended (cell h p).tag ≡ true → n ≡ 0
  -- they lie under the lead and leave the outbox within its room
  pub low : (i : ℕ) → i < n → within (desk h s).paced g.lead (upper (line g.lines p) ((cell h p).computed + i)) ≡ true
  pub roomy : (cell h p).computed + n ≤ g.room + (cell h p).taken + t
  -- the clock does not fall, nor pass the next event or the end, nor change where the process was ended before
  pub on : (cell h p).clock ≤ now
  pub within : now ≤ upper (line g.lines p) ((cell h p).computed + n)
  pub same : is_ended (cell h p).tag ≡ true → now ≡ (cell h p).clock
  -- an ended process stays ended, and one ends only at its end, recorded
  pub stays : is_ended (cell h p).tag ≡ true → ends ≡ true
  pub whole : ends ≡ true → length (line g.lines p).events ≤ (cell h p).computed + n
  pub at_end : ends ≡ true → now ≡ (line g.lines p).end
  pub recorded : ends ≡ true → (cell h p).recorded ≡ true
