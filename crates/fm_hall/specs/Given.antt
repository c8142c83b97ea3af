-- What refuses a give of a held process, of which as much is taken as must be.
use Rattle.std.specs.Prelude.{ℕ, ◌+◌, List, [], ◌∷◌, length, Bool, not, ◌&&◌, ◌||◌, nat_lt}
use Rattle.fm_line.specs.Line.{upper}
use Rattle.fm_line.specs.declared.line.Line.{Line}
use Rattle.fm_core.specs.Floors.{within}
use Rattle.fm_core.specs.Numbers.{any_below}
use Rattle.fm_core.specs.State.{Setting}
use Rattle.fm_core.specs.Steps.{over_room, wrong_clock, wrong_end}
use Rattle.fm_core.specs.Tags.{is_ended}
use Rattle.fm_core.specs.declared.cell.Cell.{Cell}
use Rattle.fm_core.specs.declared.floor.Floor.{Floor}
use Rattle.fm_core.specs.declared.reason.Reason.{Reason}
use Rattle.fm_core.specs.declared.reason.Reason.TheVariants.{WrongCount, AboveLead, OverRoom, WrongClock, WrongEnd}

-- the later tests of a give, in their order
abbrev pub given_table : Setting → Line → Cell → Floor → ℕ → ℕ → ℕ → Bool → List (Bool × Reason)
given_table g l c paced t n now ends =
    (nat_lt (length l.events) (c.computed + n) || is_ended c.tag && nat_lt 0 n, WrongCount)
    ∷ (any_below n (λ i. not (within paced g.lead (upper l (c.computed + i)))), AboveLead)
    ∷ (over_room g c t n, OverRoom)
    ∷ (wrong_clock l c n now, WrongClock)
    ∷ (wrong_end l c n now ends, WrongEnd)
    ∷ []
