-- A large score is read.
use Rattle.std.proofs.Common.{◌∙◌, ◌+◌, ◌==◌, ◌%◌, ◌^◌, ◌<◌, ℕ, Bool, true, false, List, [], ◌∷◌, refl, ap, arith, if◌then◌else◌}
use Rattle.fm_lex.specs.Tokens.{tokens}
use Rattle.fm_grammar.specs.Reads.{Reads}
use Rattle.fm_grammar.specs.Score.{Score}
use Rattle.fm_grammar.specs.Standing.{score_tree}
use Rattle.fm_grammar.specs.Within.{BlockWithin, BranchesWithin, EntriesWithin, limits}
use Rattle.fm_gen.specs.LargeScore.{large_score, notes_of, stretch_of}
use Rattle.fm_large.proofs.Forms.{branch_form, branches_form, double_form, single_form}
use Rattle.fm_large.proofs.ScoreForm.{whole_form, whole_read}
use Rattle.fm_large.proofs.Text.{channels, text_is}

block_within : (line notes number : ℕ) → BlockWithin limits 1 (branch_form line notes number)
block_within line notes number = go (number % 2 == 1)
  where
    go : (b : Bool) → BlockWithin limits 1 (if b then double_form line notes number else single_form line notes number)
    go true = omega arith
    go false = omega arith

branches_within : (line notes : ℕ) (numbers : List ℕ) → BranchesWithin limits 1 (branches_form line notes numbers)
branches_within line notes [] = tt
branches_within line notes (number ∷ numbers) = (block_within line notes number, branches_within (line + 1) notes numbers)

entries_within : (number stretch notes : ℕ) → EntriesWithin limits (whole_form number stretch notes).entries
entries_within number stretch notes = (tt, (tt, ((omega arith, block_within 6 notes 0, branches_within 7 notes channels), tt)))

-- the tree of a large score
abbrev pub large_tree : ℕ → ℕ → ℕ → Score
large_tree number stretch notes = score_tree (whole_form number stretch notes)

-- the text of a number reads as that tree
pub large_reads : (number : ℕ) → number < 10 ^ 9 → Reads limits (tokens (large_score number))
    (large_tree number (stretch_of number) (notes_of number))
large_reads number small = record {
  form = whole_form number (stretch_of number) (notes_of number);
  text = ap tokens (text_is number) ∙ whole_read number (stretch_of number) (notes_of number) small (omega arith) (omega arith);
  within = entries_within number (stretch_of number) (notes_of number);
  head = tt;
  stands_for = refl;
}
