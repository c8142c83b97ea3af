-- When a process fits its line: while its line goes on, and once it is at its end.
use Rattle.std.proofs.Common.{◌≡◌, ℕ, ◌+◌, ◌<◌, ◌≤◌, length, true, false, refl, ap, arith}
use Rattle.fm_line.specs.Line.{line, upper, start}
use Rattle.fm_core.proofs.Booleans.{clash}
use Rattle.fm_core.proofs.TagLemmas.{ended_born}
use Rattle.fm_core.specs.Invariant.{Fits}
use Rattle.fm_core.specs.State.{Setting}
use Rattle.fm_core.specs.Tags.{is_unborn, is_ended, has_left}
use Rattle.fm_core.specs.declared.cell.Cell.{Cell}
use Rattle.fm_core.specs.declared.tag.Tag.{Tag}
use Rattle.fm_core.specs.declared.tag.Tag.TheVariants.{Unborn, Home, Full, Out, Ended, EndedOut, Drained}

-- what has events left at its end is at its end
left_ended : (t : Tag) → has_left t ≡ true → is_ended t ≡ true
left_ended Unborn e = absurd (cc)
left_ended Home e = absurd (cc)
left_ended Full e = absurd (cc)
left_ended Out e = absurd (cc)
left_ended Ended e = refl
left_ended EndedOut e = refl
left_ended Drained e = absurd (cc)

-- a born process whose line goes on
pub live_fits : (g : Setting) (p : ℕ) (c : Cell) → is_ended c.tag ≡ false → is_unborn c.tag ≡ false → c.taken ≤ c.computed
    → c.computed ≤ length (line g.lines p).events → c.computed ≤ c.taken + g.room → (c.tag ≡ Home → c.computed < c.taken + g.room)
    → (c.tag ≡ Full → c.computed ≡ c.taken + g.room) → start g.lines p ≤ c.clock → c.clock ≤ upper (line g.lines p) c.computed
    → Fits g p c
live_fits g p c live born some most boxed home full low high = record {
  taken = some;
  computed = most;
  boxed = boxed;
  unborn = λ x. absurd (clash _ x born);
  home = home;
  full = full;
  recorded = λ x. absurd (clash _ x live);
  whole = λ x. absurd (clash _ x live);
  left = λ x. absurd (clash _ (left_ended c.tag x) live);
  drained = λ x. absurd (clash _ (ap is_ended x) live);
  begun = λ x. low;
  timed = λ x. high;
  at_end = λ x. absurd (clash _ x live);
  ended_out = λ x. absurd (clash _ (ap is_ended x) live);
}

-- a process that seat 0 holds at its end, or that was given back there
pub ended_fits : (g : Setting) (p : ℕ) (c : Cell) → is_ended c.tag ≡ true → c.taken ≤ c.computed
    → c.computed ≡ length (line g.lines p).events → c.computed ≤ c.taken + g.room → c.recorded ≡ true
    → (has_left c.tag ≡ true → c.taken < c.computed) → (c.tag ≡ Drained → c.taken ≡ c.computed) → start g.lines p ≤ c.clock
    → c.clock ≤ upper (line g.lines p) c.computed → c.clock ≡ (line g.lines p).end → (c.tag ≡ EndedOut → c.seat ≡ 0) → Fits g p c
ended_fits g p c ended some all boxed recorded left drained low high at_end seat = record {
  taken = some;
  computed = omega arith;
  boxed = boxed;
  unborn = λ x. absurd (clash _ x (ended_born c.tag ended));
  home = λ x. absurd (clash _ ended (ap is_ended x));
  full = λ x. absurd (clash _ ended (ap is_ended x));
  recorded = λ x. recorded;
  whole = λ x. all;
  left = left;
  drained = drained;
  begun = λ x. low;
  timed = λ x. high;
  at_end = λ x. at_end;
  ended_out = seat;
}
