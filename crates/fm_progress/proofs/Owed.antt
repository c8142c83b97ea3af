-- What all processes owe, where one cell changes.
use Rattle.std.proofs.Common.{◌≡◌, ℕ, ◌+◌, ◌-◌, ◌<◌, ◌≤◌, length, get_or, set, Bool, true, false, refl, sym, subst, arith, length-set, get_or-set_same}
use Rattle.std.proofs.lemmas.Bool.{eq-eqb, lt-ltb}
use Rattle.std.specs.Prelude.{not, nat_eq}
use Rattle.fm_line.specs.Line.{line, upper}
use Rattle.fm_line.specs.declared.line.Line.{Line}
use Rattle.fm_core.proofs.Booleans.{false_from, and_true}
use Rattle.fm_core.proofs.Elements.{or_set}
use Rattle.fm_core.proofs.Given.{given_not_unborn, given_ended}
use Rattle.fm_core.proofs.Reasons.{no_reason}
use Rattle.fm_core.proofs.Sums.{sum_le, sum_less}
use Rattle.fm_core.specs.Effects.{with_cell, noted, given}
use Rattle.fm_core.specs.Invariant.{ValidSetting, Sound}
use Rattle.fm_core.specs.Numbers.{bit}
use Rattle.fm_core.specs.State.{Setting, State, cell, unborn}
use Rattle.fm_core.specs.Steps.{table}
use Rattle.fm_core.specs.Tags.{is_out, is_held}
use Rattle.fm_core.specs.declared.cell.Cell.{Cell}
use Rattle.fm_core.specs.declared.step.Step.TheVariants.{Record}
use Rattle.fm_progress.proofs.Falls.{by_owed}
use Rattle.fm_progress.specs.Left.{owed_of, owed}
use Rattle.fm_progress.specs.Progress.{Nearer}

-- what a process that came home owes
pub owed_given : (l : Line) (room : ℕ) (c : Cell) (t n now : ℕ) (ends : Bool) → owed_of l (given room c t n now ends)
    ≡ (length l.events - (c.computed + n)) + (length l.events - (c.taken + t)) + 0 + bit (not (nat_eq now (upper l (c.computed + n))))
    + bit (not c.recorded) + bit (not ends)
owed_given l room c t n now ends = rw (
  given_not_unborn room (c.computed + n - (c.taken + t)) ends,
  given_ended room (c.computed + n - (c.taken + t)) ends,
) refl

module _ (g : Setting) (h : State) (valid : ValidSetting g) (ok : Sound g h) where
  -- where one process owes no more, all together owe no more
  pub owed_set : (k : State) (p : ℕ) (c : Cell) → k.cells ≡ set h.cells p c → k.released ≡ h.released → p < length h.cells
      → owed_of (line g.lines p) c ≤ owed_of (line g.lines p) (cell h p) → owed g k ≤ owed g h
  owed_set k p c e f lt le = let a = sum_le (length h.cells) (λ q. owed_of (line g.lines q) (get_or (set h.cells p c) q unborn))
      (λ q. owed_of (line g.lines q) (cell h q))
      (λ q near. or_set (λ (x : Cell). owed_of (line g.lines q) x ≤ owed_of (line g.lines q) (cell h q)) h.cells p q c unborn lt
      (λ same. subst (λ (r : ℕ). owed_of (line g.lines r) c ≤ owed_of (line g.lines r) (cell h r)) (sym same) le)
      (λ _. omega arith)) in
      rw (e, f, length-set) (omega arith)

  -- where one process owes less, all together owe less
  pub owed_falls : (k : State) (p : ℕ) (c : Cell) → k.cells ≡ set h.cells p c → k.released ≡ h.released → p < length h.cells
      → owed_of (line g.lines p) c < owed_of (line g.lines p) (cell h p) → owed g k < owed g h
  owed_falls k p c e f lt less = let a = sum_less (length h.cells) p (λ q. owed_of (line g.lines q) (get_or (set h.cells p c) q unborn))
      (λ q. owed_of (line g.lines q) (cell h q))
      (λ q near. or_set (λ (x : Cell). owed_of (line g.lines q) x ≤ owed_of (line g.lines q) (cell h q)) h.cells p q c unborn lt
      (λ same. subst (λ (r : ℕ). owed_of (line g.lines r) c ≤ owed_of (line g.lines r) (cell h r)) (sym same) (omega arith))
      (λ _. omega arith))
      lt (rw (get_or-set_same h.cells p c unborn lt) less) in
      rw (e, f, length-set) (omega arith)

  -- an unrecorded process is recorded
  pub lower_record : (p : ℕ) → p < length h.cells → is_held (cell h p).tag ≡ true → is_out (cell h p).tag ≡ true
      → (cell h p).recorded ≡ false → Nearer g h (Record (cell h p).seat p)
  lower_record p lt held out not_yet = record {
    allowed = no_reason (table g h (Record (cell h p).seat p)) (
      false_from _ (lt-ltb _ _ (ok.seated p lt held)),
      (false_from _ (lt-ltb _ _ lt), (false_from _ (and_true _ _ out (eq-eqb _ _ refl)), tt)),
    );
    less = by_owed g h (with_cell h p (noted (cell h p)))
        (owed_falls (with_cell h p (noted (cell h p))) p (noted (cell h p)) refl refl lt (rw not_yet (omega arith)));
  }
