-- What is missing tells the faults of statements.
use Rattle.std.proofs.Common.{◌≡◌, ◌∙◌, ℕ, Bool, true, false, not, ◌||◌, nat_eq, List, [], ◌∷◌, ◌++◌, None, lit≤, refl, sym, ap, subst, arith}
use Rattle.std.proofs.lemmas.Grind.{common_steps}
use Rattle.std.proofs.lemmas.Bool.Decides.{nat_tests}
use Rattle.fm_lex.specs.declared.spot.Spot.{Spot}
use Rattle.fm_meaning.specs.Fault.{NumberedFault, fault_if, fork_in_choice, play_outside_rhythm, index_outside_loop, too_deep}
use Rattle.fm_meaning.specs.Places.{Depths, outermost, in_one, gathered, depth_faults, passage_faults, place_faults}
use Rattle.fm_expansion.specs.Outline as plain
use Rattle.fm_expansion.specs.Outline.{Tables, passage_in, play_in}
use Rattle.fm_outline.specs.declared.needs.Needs.{Needs}
use Rattle.fm_outline.specs.Asking.{Faults, IsWithin, TellsFaults, has, stands_alone}
use Rattle.fm_outline.specs.declared.step.Step.{Step}
use Rattle.fm_outline.specs.Forking.{IsAsking}
use Rattle.fm_outline.specs.View.{Look, Placed, instruction_view}
use Rattle.fm_outline.proofs.ForkLemmas.{says}
use Rattle.fm_outline.proofs.SeenLemmas.{step_seen}
use Rattle.fm_outline.specs.Needs.{missing}
use Rattle.fm_outline.proofs.NeedsLemmas.{shallow}
use Rattle.fm_outline.proofs.NumberLemmas.{gathered_same, gathered_four}

-- nothing is open round the first statement
pub outermost_within : IsWithin outermost
outermost_within = record { warps = lit≤ tt; frames = lit≤ tt; blocks = lit≤ tt; loops = lit≤ tt }

-- the faults have the numbers of what is missing, where no limit of depth is passed
tells_within : (s : Spot) (fs : Faults) (n : Needs) (d : Depths) → TellsFaults fs n → IsWithin d → (m : ℕ)
    → has m (fs d) ≡ has m (missing s n d)
tells_within s fs n d told within m =
    sym (ap (λ b. has m (fault_if b s too_deep ++ fs d)) (shallow d within)) ∙ told.same s d m

-- a list with a fault has its number
first_number : (f : NumberedFault) (fs : List NumberedFault) → has f.number (f ∷ fs) ≡ true
first_number f fs = ap (λ b. b || has f.number fs) (same_number f.number)
  where
    same_number : (n : ℕ) → nat_eq n n ≡ true
    same_number n = grind (arith, nat_tests)

no_numbers : (fs : List NumberedFault) → ((m : ℕ) → has m fs ≡ false) → fs ≡ []
no_numbers [] none = refl
no_numbers (f ∷ fs) none = absurd (true_false (sym (first_number f fs) ∙ none f.number))
  where
    true_false : true ≡ false → ⊥
    true_false e = cc

-- where nothing is missing there is no fault
pub none_missing : (s : Spot) (fs : Faults) (n : Needs) (d : Depths) → TellsFaults fs n → IsWithin d → missing s n d ≡ []
    → fs d ≡ []
none_missing s fs n d told within none =
    no_numbers (fs d) (λ m. tells_within s fs n d told within m ∙ ap (has m) none)

-- ---- a statement without a block

-- faults of a statement with one number, and with two
one_gathered : (s : Spot) (b : Bool) → gathered s (fault_if b s index_outside_loop) ≡ fault_if b s index_outside_loop
one_gathered s true = refl
one_gathered s false = refl

two_gathered : (s : Spot) (a b : Bool)
    → gathered s (fault_if a s play_outside_rhythm ++ fault_if b s index_outside_loop)
    ≡ fault_if a s play_outside_rhythm ++ fault_if b s index_outside_loop
two_gathered s true true = refl
two_gathered s true false = refl
two_gathered s false true = refl
two_gathered s false false = refl

-- what is gathered is gathered already
gathered_twice : (s : Spot) (fs : List NumberedFault) → gathered s (gathered s fs) ≡ gathered s fs
gathered_twice s fs = go (has fork_in_choice fs) (has play_outside_rhythm fs) (has index_outside_loop fs) (has too_deep fs)
  where
    go : (a b c e : Bool)
        → gathered s (fault_if a s fork_in_choice ++ (fault_if b s play_outside_rhythm ++ (fault_if c s index_outside_loop
        ++ (fault_if e s too_deep ++ []))))
        ≡ fault_if a s fork_in_choice ++ (fault_if b s play_outside_rhythm ++ (fault_if c s index_outside_loop
        ++ (fault_if e s too_deep ++ [])))
    go a b c e = grind (arith, common_steps)

-- whether a statement has no block of its own
abbrev pub is_bare : plain.Instruction → Bool
is_bare (plain.phrase body) = true
is_bare what = stands_alone what

bare_gathered : (t : Tables) (i : plain.Instruction) (s : Spot) (d : Depths) → is_bare i ≡ true
    → gathered s (place_faults s (play_in t i) d) ≡ place_faults s (play_in t i) d
bare_gathered t (plain.note c l) s d bare = two_gathered s _ _
bare_gathered t (plain.rest l) s d bare = two_gathered s _ _
bare_gathered t (plain.send p v) s d bare = one_gathered s _
bare_gathered t (plain.assign r e) s d bare = one_gathered s _
bare_gathered t (plain.phrase a) s d bare =
    gathered_twice s (depth_faults s (in_one d) ++ passage_faults (passage_in t a) (in_one d))
bare_gathered t (plain.choice e a b) s d bare = cc
bare_gathered t (plain.loop n a) s d bare = cc
bare_gathered t (plain.par a) s d bare = cc
bare_gathered t (plain.warp n a) s d bare = cc
bare_gathered t (plain.channel n a) s d bare = cc
bare_gathered t (plain.steady q n a) s d bare = cc
bare_gathered t (plain.under q n a) s d bare = cc

-- it lacks just what it asks
pub bare_missing : (t : Tables) (i : plain.Instruction) (s : Spot) (n : Needs) (d : Depths) → is_bare i ≡ true
    → TellsFaults (place_faults s (play_in t i)) n → IsWithin d → missing s n d ≡ place_faults s (play_in t i) d
bare_missing t i s n d bare told within =
    sym (gathered_four s _ _ _ _)
    ∙ sym (gathered_same s (place_faults s (play_in t i) d) (missing s n d)
    (tells_within s (place_faults s (play_in t i)) n d told within))
    ∙ bare_gathered t i s d bare

-- what a statement says of itself, of its faults
pub told_of : (t : Tables) (look : Look) (step : Step) → IsAsking t look step
    → TellsFaults (place_faults step.spot (play_in t (instruction_view look step.what))) step.needs
told_of t look step asks =
    subst (λ (p : Placed). TellsFaults (place_faults step.spot (play_in t p.what)) step.needs) (step_seen look step)
    ((says asks).faults step.spot)
