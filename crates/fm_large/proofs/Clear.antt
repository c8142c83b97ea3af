-- A large score has no fault of names, numbers and places, and sets no articulation.
use Rattle.std.proofs.Common.{◌≡◌, ◌+◌, ◌==◌, ◌%◌, ◌≤◌, ℕ, Bool, true, false, List, [], ◌∷◌, refl, arith, codes, if◌then◌else◌}
use Rattle.std.specs.Prelude.{nat_lt}
use Rattle.std.proofs.lemmas.Bool.Decides.{nat_tests}
use Rattle.fm_tick.specs.declared.stretch.TheConstants.{MAX_STRETCH}
use Rattle.fm_warp.specs.declared.part.Part.{Part}
use Rattle.fm_warp.specs.declared.part.Part.TheVariants as part
use Rattle.fm_grammar.specs.Standing.{block_tree, branches_tree}
use Rattle.fm_meaning.specs.Places.{fork_faults, in_fork, outermost, passage_faults, third_walk}
use Rattle.fm_meaning.specs.Ranges.{Names, body_faults, branches_faults, second_walk}
use Rattle.fm_meaning.specs.Resolve.{Known, fork_of, named_as, passage_of, resolved, stretch_of}
use Rattle.fm_promise.specs.Gates.{fork_at_most, gates_at_most, passage_at_most}
use Rattle.fm_large.proofs.Forms.{branch_form, branches_form, double_form, leaf, single_form}
use Rattle.fm_large.proofs.Reading.{large_tree}
use Rattle.fm_large.proofs.Text.{channels}

-- ---- ranges

-- the numbers of a large score, as tests
pub record InRange (stretch notes : ℕ) : Type 0 where
  pub slow : nat_lt stretch 1 ≡ false
  pub fast : nat_lt MAX_STRETCH stretch ≡ false
  pub none : nat_lt notes 0 ≡ false
  pub many : nat_lt 1000000 notes ≡ false

-- they lie in their ranges
pub in_range : (stretch notes : ℕ) → 500 ≤ stretch → stretch ≤ 1499 → notes ≤ 125000 → InRange stretch notes
in_range stretch notes low high few = record {
  slow = grind (arith, nat_tests);
  fast = grind (arith, nat_tests);
  none = grind (arith, nat_tests);
  many = grind (arith, nat_tests);
}

-- a channel
pub record IsChannel (number : ℕ) : Type 0 where
  pub low : nat_lt number 0 ≡ false
  pub high : nat_lt 15 number ≡ false

-- all of them are channels
abbrev pub AllChannels : List ℕ → Type 0
AllChannels [] = Unit {0}
AllChannels (number ∷ numbers) = IsChannel number × AllChannels numbers

-- ---- names and numbers

abbrev names : Names
names = record { whole = 1920; shapes = codes "b" ∷ codes "a" ∷ []; phrases = [] }

block_faultless : (line stretch notes number : ℕ) → InRange stretch notes → IsChannel number
    → body_faults names (block_tree (branch_form line notes number)) ≡ []
block_faultless line stretch notes number within is = go (number % 2 == 1)
  where
    go : (b : Bool) → body_faults names (block_tree (if b then double_form line notes number else single_form line notes number)) ≡ []
    go true = rw (is.low, is.high, within.none, within.many) refl
    go false = rw (is.low, is.high, within.none, within.many) refl

branches_faultless : (line stretch notes : ℕ) (numbers : List ℕ) → InRange stretch notes → AllChannels numbers
    → branches_faults names (branches_tree (branches_form line notes numbers)) ≡ []
branches_faultless line stretch notes [] within all = refl
branches_faultless line stretch notes (number ∷ numbers) within all =
    rw (block_faultless line stretch notes number within all.0) (branches_faultless (line + 1) stretch notes numbers within all.1)

-- the sixteen are
pub all_channels : AllChannels (0 ∷ channels)
all_channels = (
  record { low = refl; high = refl },
  (
    record { low = refl; high = refl },
    (
      record { low = refl; high = refl },
      (
        record { low = refl; high = refl },
        (
          record { low = refl; high = refl },
          (
            record { low = refl; high = refl },
            (
              record { low = refl; high = refl },
              (
                record { low = refl; high = refl },
                (
                  record { low = refl; high = refl },
                  (
                    record { low = refl; high = refl },
                    (
                      record { low = refl; high = refl },
                      (
                        record { low = refl; high = refl },
                        (
                          record { low = refl; high = refl },
                          (
                            record { low = refl; high = refl },
                            (record { low = refl; high = refl }, (record { low = refl; high = refl }, tt)),
                          ),
                        ),
                      ),
                    ),
                  ),
                ),
              ),
            ),
          ),
        ),
      ),
    ),
  ),
)

-- no name and no number has a fault
pub names_faultless : (number stretch notes : ℕ) → InRange stretch notes → second_walk (large_tree number stretch notes) ≡ []
names_faultless number stretch notes within = rw (within.slow, within.fast)
    (rw (branches_faultless 6 stretch notes (0 ∷ channels) within all_channels) refl)

-- ---- places

-- the two shapes
abbrev pub parts_a : ℕ → List Part
parts_a stretch = part.Slope 1920 (stretch_of 1000) (stretch_of stretch) ∷ part.Breath 120 ∷ part.Flat 3840 (stretch_of stretch) ∷ []

-- the second
abbrev pub parts_b : List Part
parts_b = part.Pause 240 ∷ part.Flat 7680 (stretch_of 1500) ∷ []

-- what is known behind them
abbrev pub known : ℕ → Known
known stretch = record {
  whole = 1920;
  shapes = named_as (leaf 4 7 (codes "b")) parts_b ∷ named_as (leaf 3 7 (codes "a")) (parts_a stretch) ∷ [];
  phrases = [];
}

block_placed : (line stretch notes number : ℕ) → passage_faults (passage_of (known stretch) (block_tree (branch_form line notes number)))
    (in_fork outermost) ≡ []
block_placed line stretch notes number = go (number % 2 == 1)
  where
    go : (b : Bool) → passage_faults (passage_of (known stretch) (block_tree
        (if b then double_form line notes number else single_form line notes number))) (in_fork outermost) ≡ []
    go true = refl
    go false = refl

branches_placed : (line stretch notes : ℕ) (numbers : List ℕ) → fork_faults
    (fork_of (known stretch) (branches_tree (branches_form line notes numbers))) (in_fork outermost) ≡ []
branches_placed line stretch notes [] = refl
branches_placed line stretch notes (number ∷ numbers) = rw (block_placed line stretch notes number)
    (branches_placed (line + 1) stretch notes numbers)

-- no place has a fault
pub places_faultless : (number stretch notes : ℕ) → third_walk (resolved (large_tree number stretch notes)).passage ≡ []
places_faultless number stretch notes = rw (branches_placed 6 stretch notes (0 ∷ channels)) refl

-- ---- articulations

block_short : (line stretch notes number : ℕ)
    → passage_at_most 100 (passage_of (known stretch) (block_tree (branch_form line notes number))) ≡ true
block_short line stretch notes number = go (number % 2 == 1)
  where
    go : (b : Bool) → passage_at_most 100 (passage_of (known stretch) (block_tree
        (if b then double_form line notes number else single_form line notes number))) ≡ true
    go true = refl
    go false = refl

branches_short : (line stretch notes : ℕ) (numbers : List ℕ)
    → fork_at_most 100 (fork_of (known stretch) (branches_tree (branches_form line notes numbers))) ≡ true
branches_short line stretch notes [] = refl
branches_short line stretch notes (number ∷ numbers) = rw (block_short line stretch notes number)
    (branches_short (line + 1) stretch notes numbers)

-- none is set
pub none_above : (number stretch notes : ℕ) → gates_at_most 100 (resolved (large_tree number stretch notes)) ≡ true
none_above number stretch notes = rw (branches_short 6 stretch notes (0 ∷ channels)) refl
