-- Marks of rounds, and how many processes were not visited in this one.
use Rattle.std.proofs.Common.{◌≡◌, ℕ, suc, ◌-◌, ◌^◌, ◌<◌, ◌≤◌, List, [], ◌∷◌, length, map, set, get_or, replicate, Bool, true, false, refl, sym, ap, ◌∙◌, arith, length-set}
use Rattle.std.specs.Prelude.{All, not, nat_eq, cond}
use Rattle.std.specs.List.{count_by}
use Rattle.std.proofs.lemmas.Bool.{eq-eqb}
use Rattle.std.proofs.lemmas.List.{length-replicate, map-set}
use Rattle.std.proofs.lemmas.List.Elements.{All-replicate, All-set}
use Rattle.std.proofs.lemmas.List.Folds.{sum_by-replicate}
use Rattle.std.proofs.lemmas.List.Sums.{sum_by-set, get_or-le-sum_by}
use Rattle.fm_state.specs.Marks.{AreMarks}

-- a later number is another
later : (round mark : ℕ) → mark < round → nat_eq round mark ≡ false
later round mark lt = grind arith

-- in the next round no process was visited
pub none_marked : (next : ℕ) (marks : List ℕ) → All (λ mark. mark < next) marks
    → map (nat_eq next) marks ≡ replicate (length marks) false
none_marked next [] past = refl
none_marked next (mark ∷ marks) past =
    let first : mark < next = past 0 0 (omega arith) in
    let others = none_marked next marks (λ k d lt. past (suc k) d (omega arith)) in
    rw (later next mark first, others) refl

-- the same of marks that were wiped
pub none_wiped : (n : ℕ) → map (nat_eq 1) (replicate n 0) ≡ replicate n false
none_wiped n =
    none_marked 1 (replicate n 0) (All-replicate (λ mark. mark < 1) n 0 (omega arith))
    ∙ ap (λ k. replicate k false) (length-replicate {A = ℕ} n 0)

-- 1 for a process that was not visited
abbrev missed : Bool → ℕ
missed b = cond (not b) 1 0

-- none was visited: all are missing
all_missing : (n : ℕ) → n ≡ count_by not (replicate n false)
all_missing n = let all = sum_by-replicate missed n false in omega arith

-- a round in which no process was visited
pub round_begins : (next n : ℕ) (marks : List ℕ) → All (λ mark. mark ≤ next) marks → n < 2 ^ 32 → length marks ≡ n
    → map (nat_eq next) marks ≡ replicate n false → AreMarks next marks n
round_begins next n marks past few many none = record {
  past = past;
  few = rw many few;
  counted = all_missing n ∙ ap (count_by not) (sym none);
}

-- the first round
pub round_opens : (n : ℕ) (marks : List ℕ) → n < 2 ^ 32 → marks ≡ replicate n 0 → AreMarks 1 marks n
round_opens n marks few all =
    rw all (round_begins 1 n (replicate n 0) (All-replicate (λ mark. mark ≤ 1) n 0 (omega arith)) few
    (length-replicate {A = ℕ} n 0) (none_wiped n))

-- a mark of this round is a visit
pub marked : (round p : ℕ) (marks : List ℕ) → map (nat_eq round) (set marks p round) ≡ set (map (nat_eq round) marks) p true
marked round p marks =
    map-set (nat_eq round) marks p round ∙ ap (set (map (nat_eq round) marks) p) (eq-eqb round round refl)

module _ (visited : List Bool) (p missing : ℕ) (within : p < length visited) (here : get_or visited p false ≡ false)
    (counted : missing ≡ count_by not visited) where
  itself : missed (get_or visited p false) ≡ missed false
  itself = ap missed here

  -- one that was not visited is missing
  pub some_missing : 1 ≤ missing
  some_missing = omega (arith, itself, counted, get_or-le-sum_by missed visited p false within)

  -- after its visit one less is missing
  pub one_less : missing - 1 ≡ count_by not (set visited p true)
  one_less = omega (arith, itself, counted, some_missing, sum_by-set missed visited p true false within)

-- the marks after a visit
pub marks_on : (round p missing : ℕ) (marks : List ℕ) → AreMarks round marks missing → p < length (map (nat_eq round) marks)
    → get_or (map (nat_eq round) marks) p false ≡ false → AreMarks round (set marks p round) (missing - 1)
marks_on round p missing marks old within here = record {
  past = All-set (λ mark. mark ≤ round) marks p round (omega arith) old.past;
  few = rw length-set old.few;
  counted = one_less (map (nat_eq round) marks) p missing within here old.counted ∙ ap (count_by not) (sym (marked round p marks));
}
