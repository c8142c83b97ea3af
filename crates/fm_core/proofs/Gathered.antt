-- The gather never holds more than processes times room.
use Rattle.std.proofs.Common.{◌≡◌, ℕ, zero, suc, ◌+◌, ◌<◌, ◌≤◌, ◌++◌, length, Bool, true, false, arith}
use Rattle.std.specs.Prelude.{if◌then◌else◌, ◌*◌}
use Rattle.fm_line.proofs.Members.{each_in, in_each, each_from, each_at, in_right}
use Rattle.fm_line.specs.Line.{sum_below, event_at}
use Rattle.fm_core.proofs.Sums.{sum_le, counted}
use Rattle.fm_core.specs.Invariant.{ValidSetting, Sound, of_process}
use Rattle.fm_core.specs.State.{Setting, State, visited}

sum_of_same : (n r : ℕ) → sum_below n (λ p. r) ≡ n * r
sum_of_same zero r = omega arith
sum_of_same (suc n) r = let a = sum_of_same n r in let b : suc n * r ≡ n * r + r = omega arith in omega arith

module _ (g : Setting) (h : State) (valid : ValidSetting g) (ok : Sound g h) where
  -- the gather never holds more than processes times room
  pub gather_fits : length h.gather ≤ length h.cells * g.room
  gather_fits = let n : ℕ = length h.cells in
      let named = each_from (event_at 0) (λ e. e.process < n) (h.released ++ h.gather) ok.named in
      let mine = in_each (λ e. e.process < n) h.gather
      (λ x i. each_in (λ e. e.process < n) (h.released ++ h.gather) x named (in_right x h.released h.gather i)) in
      let a = counted n h.gather (each_at (event_at 0) (λ e. e.process < n) h.gather mine) in
      let c = sum_le n (λ p. length (of_process p h.gather)) (λ p. g.room) (λ p lt. room p (ok.gathered p lt)) in
      let d = sum_of_same n g.room in omega arith
    where
      room : (p : ℕ) → length (of_process p h.gather) ≤ (if visited h p then g.room else 0) → length (of_process p h.gather) ≤ g.room
      room p = go (visited h p)
        where
          go : (b : Bool) → length (of_process p h.gather) ≤ (if b then g.room else 0) → length (of_process p h.gather) ≤ g.room
          go true le = le
          go false le = omega arith
