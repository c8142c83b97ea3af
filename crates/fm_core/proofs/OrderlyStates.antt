-- A sound state is orderly.
use Rattle.std.proofs.Common.{◌≡◌, ℕ, ◌+◌, ◌-◌, ◌<◌, ◌≤◌, length, drop, Bool, true, false, refl, arith, length-drop}
use Rattle.std.proofs.lemmas.List.{length-take}
use Rattle.fm_line.proofs.Pieces.{is_piece}
use Rattle.fm_line.specs.Line.{line, upper}
use Rattle.fm_line.specs.Piece.{piece}
use Rattle.fm_core.proofs.Booleans.{clash}
use Rattle.fm_core.proofs.Gathered.{gather_fits}
use Rattle.fm_core.proofs.KeepsPublish.{bound_upper}
use Rattle.fm_core.specs.Invariant.{Sound, ValidSetting}
use Rattle.fm_core.specs.Orderly.{IsOrderly, IsToCome}
use Rattle.fm_core.specs.State.{Setting, State, cell}
use Rattle.fm_core.specs.Sweep.{bound}
use Rattle.fm_core.specs.Tags.{is_ended, is_unborn}
use Rattle.fm_core.specs.Taking.{outbox}
use Rattle.fm_core.specs.declared.floor.Floor.{Floor}
use Rattle.fm_core.specs.declared.floor.Floor.TheVariants.{At, Done}

module _ (g : Setting) (h : State) (valid : ValidSetting g) (ok : Sound g h) where
  -- a process with an event to come is not ended
  live : (q j : ℕ) → IsToCome g h q j → (b : Bool) → is_ended (cell h q).tag ≡ b → is_ended (cell h q).tag ≡ false
  live q j come false e = e
  live q j come true e =
      let all = (ok.fits q come.process).whole e in
      let behind = come.behind in
      let there = come.there in absurd (omega (arith, all, behind, there))

  -- nothing computed is more than the lead past the bound of who is not ended
  led : (f : Floor) → h.floor ≡ f → (p k q : ℕ) → p < length h.cells → k < (cell h p).computed → q < length h.cells
      → is_ended (cell h q).tag ≡ false → upper (line g.lines p) k ≤ bound g h q + g.lead
  led (At f) is p k q there less other open_here =
      let high = ok.led f p k is there less in
      let low = ok.floored f q is other open_here in omega (arith, high, low)
  led Done is p k q there less other open_here = absurd (clash (is_ended (cell h q).tag) (ok.done q is other) open_here)

  -- a sound state is orderly
  pub orderly : IsOrderly g h
  orderly = record {
    released = ok.prefix (piece g.lines) (is_piece g.lines valid.lines);
    outboxes = λ p lt.
        let boxed = (ok.fits p lt).boxed in
        let fits = ok.fits p lt in
        let taken = fits.taken in
        let computed = fits.computed in
        omega (
          arith,
          boxed,
          taken,
          computed,
          length-take ((cell h p).computed - (cell h p).taken) (drop (cell h p).taken (line g.lines p).events),
          length-drop (cell h p).taken (line g.lines p).events,
        );
    gather = gather_fits g h valid ok;
    lead = λ p k q j lt less come.
        let open_here = live q j come (is_ended (cell h q).tag) refl in
        let high = led h.floor refl p k q lt less come.process open_here in
        let low = bound_upper g h valid ok q j come.process come.behind (is_unborn (cell h q).tag) refl in
        omega (arith, high, low);
    bounds = λ p k q lt less other open_here. led h.floor refl p k q lt less other open_here;
  }
