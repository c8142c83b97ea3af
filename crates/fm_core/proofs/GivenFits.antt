-- What a give leaves of its process fits the line.
use Rattle.std.proofs.Common.{◌≡◌, ◌≢◌, ℕ, ◌+◌, ◌-◌, ◌≤◌, Bool, true, false, refl, arith, le_trans}
use Rattle.std.proofs.lemmas.Bool.{eqb-true, eq-eqb}
use Rattle.std.specs.Prelude.{nat_eq, if◌then◌else◌}
use Rattle.fm_line.specs.Line.{start}
use Rattle.fm_core.proofs.Fitting.{live_fits, ended_fits}
use Rattle.fm_core.specs.Effects.{given}
use Rattle.fm_core.specs.Giving.{MayGive}
use Rattle.fm_core.specs.Invariant.{Fits}
use Rattle.fm_core.specs.State.{Setting, State, cell}
use Rattle.fm_core.specs.Tags.{is_unborn}
use Rattle.fm_core.specs.declared.tag.Tag.TheVariants.{Home, Full, Ended, Drained}

-- what a give leaves of a process fits its line
pub given_fits : (g : Setting) (h : State) (s p t n now : ℕ) (ends : Bool) → MayGive g h s p t n now ends → Fits g p (cell h p)
    → is_unborn (cell h p).tag ≡ false → t ≤ (cell h p).computed - (cell h p).taken → Fits g p (given g.room (cell h p) t n now ends)
given_fits g h s p t n now true may f born some = let w = may.whole refl in let fits = may.fits in let room = may.roomy in
    let a = f.taken in let on = may.on in let start_low = f.begun born in
    go (nat_eq ((cell h p).computed + n - ((cell h p).taken + t)) 0) refl (omega arith) (le_trans start_low on)
  where
    go : (b : Bool) → nat_eq ((cell h p).computed + n - ((cell h p).taken + t)) 0 ≡ b → (cell h p).taken + t ≤ (cell h p).computed + n
        → start g.lines p ≤ now → Fits g p (record {
          tag = if b then Drained else Ended;
          clock = now;
          seat = 0;
          computed = (cell h p).computed + n;
          taken = (cell h p).taken + t;
          recorded = (cell h p).recorded;
        })
    go true e le low = let z = eqb-true ((cell h p).computed + n - ((cell h p).taken + t)) 0 e in let w = may.whole refl in
        let fits = may.fits in let room = may.roomy in
        ended_fits g p _ refl le (omega arith) (omega arith) (may.recorded refl) (λ x. absurd (cc)) (λ x. omega arith) low may.within
        (may.at_end refl) (λ x. absurd (cc))
    go false e le low = let w = may.whole refl in let fits = may.fits in let room = may.roomy in
        let z : (cell h p).computed + n - ((cell h p).taken + t) ≢ 0 =
        (λ y. let k = eq-eqb ((cell h p).computed + n - ((cell h p).taken + t)) 0 y in absurd (cc)) in
        ended_fits g p _ refl le (omega arith) (omega arith) (may.recorded refl) (λ x. omega arith) (λ x. absurd (cc)) low may.within
        (may.at_end refl) (λ x. absurd (cc))
given_fits g h s p t n now false may f born some = let fits = may.fits in let room = may.roomy in let a = f.taken in let on = may.on in
    let start_low = f.begun born in
    go (nat_eq ((cell h p).computed + n - ((cell h p).taken + t)) g.room) refl (omega arith) (le_trans start_low on)
  where
    go : (b : Bool) → nat_eq ((cell h p).computed + n - ((cell h p).taken + t)) g.room ≡ b
        → (cell h p).taken + t ≤ (cell h p).computed + n → start g.lines p ≤ now
        → Fits g p (record {
          tag = if b then Full else Home;
          clock = now;
          seat = 0;
          computed = (cell h p).computed + n;
          taken = (cell h p).taken + t;
          recorded = (cell h p).recorded;
        })
    go true e le low = let z = eqb-true ((cell h p).computed + n - ((cell h p).taken + t)) g.room e in let fits = may.fits in
        let room = may.roomy in
        live_fits g p _ refl refl le fits (omega arith) (λ x. absurd (cc)) (λ x. omega arith) low may.within
    go false e le low = let fits = may.fits in let room = may.roomy in
        let z : (cell h p).computed + n - ((cell h p).taken + t) ≢ g.room =
        (λ y. let k = eq-eqb ((cell h p).computed + n - ((cell h p).taken + t)) g.room y in absurd (cc)) in
        live_fits g p _ refl refl le fits (omega arith) (λ x. omega arith) (λ x. absurd (cc)) low may.within
