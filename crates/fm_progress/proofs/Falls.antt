-- Which part of what is left falls, where none before it rises.
use Rattle.std.proofs.Common.{◌≡◌, ◌⊎◌, ℕ, ◌<◌, ◌≤◌, refl, inl, inr, arith, ◌-◌}
use Rattle.std.specs.Prelude.{length, Bool, true, false, if◌then◌else◌, ◌||◌, nat_lt}
use mathlib.Core.Logic.{dite}
use native.Mathlib.Decide.{ℕ_discrete}
use Rattle.fm_line.specs.Line.{sum_below}
use Rattle.fm_core.proofs.Below.{not_any}
use Rattle.fm_core.proofs.Booleans.{neither, or_cases, bit_one, if_true, if_false}
use Rattle.fm_core.specs.Numbers.{any_below, bit, find_below}
use Rattle.fm_core.specs.State.{Setting, State, desk}
use Rattle.fm_core.specs.Steps.{unvisited}
use Rattle.fm_core.specs.Taking.{is_due}
use Rattle.fm_progress.specs.Left.{workable, waits_for_visit, looks_in, stirred, any_stale, owed, idle, held_count, phase, lacking, empty_handed, looks_away, unpaced, left, Less}

-- no more at the first number, and less behind it
pub keep : {P : Type 0} (x y : ℕ) → x ≤ y → P → (x < y) ⊎ ((x ≡ y) × P)
keep x y le rest = dite (ℕ_discrete x y) (λ e. inr (e, rest)) (λ d. inl (omega arith))

-- what is lacking while something is due
pub lacking_due : (h : State) → is_due h.due ≡ true → lacking h ≡ sum_below (length h.cells) (λ q. bit (unvisited h q))
lacking_due h d = if_true {A = ℕ} (is_due h.due) (sum_below (length h.cells) (λ q. bit (unvisited h q)))
    (length h.cells - length (desk h 0).sweep) d

-- what is lacking while nothing is due
pub lacking_not_due : (h : State) → is_due h.due ≡ false → lacking h ≡ length h.cells - length (desk h 0).sweep
lacking_not_due h d = if_false {A = ℕ} (is_due h.due) (sum_below (length h.cells) (λ q. bit (unvisited h q)))
    (length h.cells - length (desk h 0).sweep) d

-- how many looks away the least unvisited process is, while something is due
pub looks_away_due : (h : State) → is_due h.due ≡ true
    → looks_away h ≡ looks_in (desk h 0).sweep (find_below (length h.cells) (unvisited h))
looks_away_due h d = if_true {A = ℕ} (is_due h.due) (looks_in (desk h 0).sweep (find_below (length h.cells) (unvisited h))) 0 d

-- the phase while nothing is due
pub phase_not_due : (g : Setting) (h : State) → is_due h.due ≡ false → phase g h ≡ (if any_stale g h then 2 else 1)
phase_not_due g h d = if_false {A = ℕ} (is_due h.due) (if stirred g h then 0 else 3) (if any_stale g h then 2 else 1) d

module _ (g : Setting) (h k : State) where
  -- less is owed
  pub by_owed : owed g k < owed g h → Less (left g k) (left g h)
  by_owed a = inl a

  -- no more is owed, and something lowers it now
  pub by_idle : owed g k ≤ owed g h → idle g k < idle g h → Less (left g k) (left g h)
  by_idle a b = keep (owed g k) (owed g h) a (inl b)

  -- behind the second number nothing could lower what is owed, so that number was 1
  behind_idle : {P : Type 0} → owed g k ≤ owed g h → idle g h ≡ 1 → P
      → (owed g k < owed g h) ⊎ ((owed g k ≡ owed g h) × ((idle g k < idle g h) ⊎ ((idle g k ≡ idle g h) × P)))
  behind_idle a b r = let c : idle g k ≤ 1 = bit_one _ in keep (owed g k) (owed g h) a (keep (idle g k) (idle g h) (omega arith) r)

  -- fewer processes are held, and nothing before rises
  pub by_held : owed g k ≤ owed g h → idle g h ≡ 1 → held_count k < held_count h → Less (left g k) (left g h)
  by_held a b c = behind_idle a b (inl c)

  -- the phase falls, and nothing before rises
  pub by_phase : owed g k ≤ owed g h → idle g h ≡ 1 → held_count k ≤ held_count h → phase g k < phase g h → Less (left g k) (left g h)
  by_phase a b c d = behind_idle a b (keep (held_count k) (held_count h) c (inl d))

  -- fewer visits or looks are lacking, and nothing before rises
  pub by_lacking : owed g k ≤ owed g h → idle g h ≡ 1 → held_count k ≤ held_count h → phase g k ≤ phase g h → lacking k < lacking h
      → Less (left g k) (left g h)
  by_lacking a b c d e = behind_idle a b (keep (held_count k) (held_count h) c (keep (phase g k) (phase g h) d (inl e)))

  -- seat 0 holds a process to visit it, and nothing before rises
  pub by_empty_handed : owed g k ≤ owed g h → idle g h ≡ 1 → held_count k ≤ held_count h → phase g k ≤ phase g h → lacking k ≤ lacking h
      → empty_handed k < empty_handed h → Less (left g k) (left g h)
  by_empty_handed a b c d e f = behind_idle a b
      (keep (held_count k) (held_count h) c (keep (phase g k) (phase g h) d (keep (lacking k) (lacking h) e (inl f))))

  -- seat 0 is fewer looks away, and nothing before rises
  pub by_looks : owed g k ≤ owed g h → idle g h ≡ 1 → held_count k ≤ held_count h → phase g k ≤ phase g h → lacking k ≤ lacking h
      → empty_handed k ≤ empty_handed h → looks_away k < looks_away h → Less (left g k) (left g h)
  by_looks a b c d e f i = behind_idle a b
      (keep (held_count k) (held_count h) c (keep (phase g k) (phase g h) d
      (keep (lacking k) (lacking h) e (keep (empty_handed k) (empty_handed h) f (inl i)))))

  -- seat 0 paces, and nothing before rises
  pub by_pace : owed g k ≤ owed g h → idle g h ≡ 1 → held_count k ≤ held_count h → phase g k ≤ phase g h → lacking k ≤ lacking h
      → empty_handed k ≤ empty_handed h → looks_away k ≤ looks_away h → unpaced k < unpaced h → Less (left g k) (left g h)
  by_pace a b c d e f i j = behind_idle a b
      (keep (held_count k) (held_count h) c (keep (phase g k) (phase g h) d
      (keep (lacking k) (lacking h) e (keep (empty_handed k) (empty_handed h) f (keep (looks_away k) (looks_away h) i (inl j))))))

  -- while something is due before and after, the phase rises only where nothing stirs any more
  pub phase_due : is_due h.due ≡ true → is_due k.due ≡ true → (stirred g h ≡ true → stirred g k ≡ true) → phase g k ≤ phase g h
  phase_due d e still = rw (
    if_true {A = ℕ} (is_due h.due) (if stirred g h then 0 else 3) (if any_stale g h then 2 else 1) d,
    if_true {A = ℕ} (is_due k.due) (if stirred g k then 0 else 3) (if any_stale g k then 2 else 1) e,
  )
      (go (stirred g h) (stirred g k) still)
    where
      go : (a b : Bool) → (a ≡ true → b ≡ true) → (if b then 0 else 3) ≤ (if a then 0 else 3)
      go true b f = rw (f refl) (omega arith)
      go false true f = omega arith
      go false false f = omega arith

-- where there is no work and no due event to be visited, only a gathered event stirs
pub only_gathered : (g : Setting) (h : State) → ((q : ℕ) → q < length h.cells → workable g h q ≡ false)
    → ((q : ℕ) → q < length h.cells → waits_for_visit g h q ≡ false) → stirred g h ≡ true → nat_lt 0 (length h.gather) ≡ true
only_gathered g h none_works none_waits stirs = go (or_cases _ _ stirs)
  where
    go : ((any_below (length h.cells) (workable g h) || any_below (length h.cells) (waits_for_visit g h)) ≡ true)
        ⊎ (nat_lt 0 (length h.gather) ≡ true) → nat_lt 0 (length h.gather) ≡ true
    go (inr gathered) = gathered
    go (inl other) = let none = neither _ _ (not_any (length h.cells) (workable g h) none_works)
        (not_any (length h.cells) (waits_for_visit g h) none_waits) in absurd (cc)
