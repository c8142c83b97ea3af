-- The text of a large score as a form of the grammar.
use Rattle.std.proofs.Common.{◌≡◌, ◌∙◌, ◌+◌, ◌==◌, ◌%◌, ◌^◌, ◌<◌, ℕ, Bool, true, false, suc, zero, List, [], ◌∷◌, ◌++◌, length, refl, ap, codes, if◌then◌else◌}
use Rattle.std.specs.Fmt.{decimal}
use Rattle.fm_lex.specs.declared.spot.Spot.{Spot}
use Rattle.fm_lex.specs.declared.keyword.Keyword.TheVariants.{Repeat, Branch, Warp, Channel}
use Rattle.fm_lex.specs.declared.kind.Kind.TheVariants.{Name}
use Rattle.fm_lex.specs.Tokens.{Lexed, between, walk}
use Rattle.fm_grammar.specs.Score.{Leaf}
use Rattle.fm_grammar.specs.Grammar.{NumForm, BlockForm, StmtsForm, StmtForm, BranchesForm, PartForm, LengthForm, block, stmt, no_stmt, scope, channel, warp, repeat, note, Listed, no_more, more, keyed, expr, no_term, no_sum, sum, plus, pick, fixed, share, branch, no_branch}
use Rattle.fm_grammar.specs.Grammar as forms
use Rattle.fm_grammar.specs.Spelling.{block_text, branches_text}
use Rattle.fm_grammar.specs.Signs.{close_brace, key, num, open_brace, tok}
use Rattle.fm_large.proofs.NumberTokens.{number_token, spelt}
use Rattle.fm_large.proofs.Text.{branch_text, branches_written, double_text, single_text}

-- ---- leaves

-- a spot, and a column so many bytes further on, byte by byte
abbrev pub at : ℕ → ℕ → Spot
at line column = record { line = line; column = column }

-- so many bytes behind a column
abbrev pub on : ℕ → ℕ → ℕ
on zero column = column
on (suc n) column = on n (column + 1)

-- a token by its line, its column and its bytes
abbrev pub leaf : ℕ → ℕ → List ℕ → Leaf
leaf line column letters = record { text = letters; spot = at line column }

-- a number with its digits
abbrev pub digits : ℕ → ℕ → ℕ → List ℕ → NumForm
digits line column n letters = record { value = n; leaf = leaf line column letters }

-- a number as it is written in decimal
abbrev pub written : ℕ → ℕ → ℕ → NumForm
written line column n = digits line column n (decimal n)

-- behind a number
abbrev pub behind : ℕ → ℕ → ℕ
behind column n = column + length (decimal n)

-- ---- a branch

-- `{ note key (36 + pick(60)) 1/16; }` behind a column
abbrev pub notes_block : ℕ → ℕ → BlockForm
notes_block line k = block (leaf line (on 1 k) (codes "{")) (stmt (note (leaf line (on 3 k) (codes "note"))
    (record {
      first = keyed (leaf line (on 8 k) (codes "key")) (forms.AmountForm.computed (leaf line (on 12 k) (codes "("))
          (expr (forms.FactorForm.number (digits line (on 13 k) 36 (codes "36"))) no_term
          (sum plus (leaf line (on 16 k) (codes "+")) (pick (leaf line (on 18 k) (codes "pick")) (leaf line (on 22 k) (codes "("))
          (expr (forms.FactorForm.number (digits line (on 23 k) 60 (codes "60"))) no_term no_sum)
          (leaf line (on 25 k) (codes ")"))) no_term no_sum))
          (leaf line (on 26 k) (codes ")")));
      others = no_more;
    })
    (fixed (share (digits line (on 28 k) 1 (codes "1")) (leaf line (on 29 k) (codes "/")) (digits line (on 30 k) 16 (codes "16"))))
    (leaf line (on 32 k) (codes ";"))) no_stmt) (leaf line (on 34 k) (codes "}"))

-- `repeat R` with its block, at a column
abbrev pub voice_form : ℕ → ℕ → ℕ → StmtForm
voice_form line notes k = repeat (leaf line k (codes "repeat")) (written line (on 7 k) notes) (notes_block line (behind (on 7 k) notes))

-- one statement in braces
abbrev pub braced : Leaf → StmtForm → Leaf → BlockForm
braced opens one closes = block opens (stmt one no_stmt) closes

-- a branch under the first shape alone
abbrev pub single_form : ℕ → ℕ → ℕ → BlockForm
single_form line notes number =
    let k = behind 18 number in
    let j = behind (on 19 k) notes in
    braced (leaf line 8 (codes "{")) (scope channel (leaf line 10 (codes "channel")) (written line 18 number)
    (braced (leaf line (on 1 k) (codes "{")) (warp (leaf line (on 3 k) (codes "warp")) (leaf line (on 8 k) (codes "a"))
    (braced (leaf line (on 10 k) (codes "{")) (voice_form line notes (on 12 k)) (leaf line (on 36 j) (codes "}"))))
    (leaf line (on 38 j) (codes "}"))))
    (leaf line (on 40 j) (codes "}"))

-- and under both
abbrev pub double_form : ℕ → ℕ → ℕ → BlockForm
double_form line notes number =
    let k = behind 18 number in
    let j = behind (on 28 k) notes in
    braced (leaf line 8 (codes "{")) (scope channel (leaf line 10 (codes "channel")) (written line 18 number)
    (braced (leaf line (on 1 k) (codes "{")) (warp (leaf line (on 3 k) (codes "warp")) (leaf line (on 8 k) (codes "a"))
    (braced (leaf line (on 10 k) (codes "{")) (warp (leaf line (on 12 k) (codes "warp")) (leaf line (on 17 k) (codes "b"))
    (braced (leaf line (on 19 k) (codes "{")) (voice_form line notes (on 21 k)) (leaf line (on 36 j) (codes "}"))))
    (leaf line (on 38 j) (codes "}"))))
    (leaf line (on 40 j) (codes "}"))))
    (leaf line (on 42 j) (codes "}"))

-- up to the channel
branch_begins : (line : ℕ) (xs : List ℕ) → walk between (at line 1) (codes "branch { channel " ++ xs)
    ≡ key Branch (leaf line 1 (codes "branch")) ∷ tok open_brace (leaf line 8 (codes "{")) ∷ key Channel (leaf line 10 (codes "channel"))
    ∷ walk between (at line 18) xs
unfolding walk
branch_begins line xs = refl

-- from there up to the notes
single_goes : (line k : ℕ) (xs : List ℕ) → walk between (at line k) (codes " { warp a { repeat " ++ xs)
    ≡ tok open_brace (leaf line (on 1 k) (codes "{")) ∷ key Warp (leaf line (on 3 k) (codes "warp"))
    ∷ tok Name (leaf line (on 8 k) (codes "a")) ∷ tok open_brace (leaf line (on 10 k) (codes "{"))
    ∷ key Repeat (leaf line (on 12 k) (codes "repeat")) ∷ walk between (at line (on 19 k)) xs
unfolding walk
single_goes line k xs = refl

double_goes : (line k : ℕ) (xs : List ℕ) → walk between (at line k) (codes " { warp a { warp b { repeat " ++ xs)
    ≡ tok open_brace (leaf line (on 1 k) (codes "{")) ∷ key Warp (leaf line (on 3 k) (codes "warp"))
    ∷ tok Name (leaf line (on 8 k) (codes "a")) ∷ tok open_brace (leaf line (on 10 k) (codes "{"))
    ∷ key Warp (leaf line (on 12 k) (codes "warp")) ∷ tok Name (leaf line (on 17 k) (codes "b"))
    ∷ tok open_brace (leaf line (on 19 k) (codes "{"))
    ∷ key Repeat (leaf line (on 21 k) (codes "repeat")) ∷ walk between (at line (on 28 k)) xs
unfolding walk
double_goes line k xs = refl

-- and to the end of the line
single_ends : (line k : ℕ) (xs : List ℕ) → walk between (at line k) (codes " { note key (36 + pick(60)) 1/16; } } } }" ++ 10 ∷ xs)
    ≡ block_text (notes_block line k) (tok close_brace (leaf line (on 36 k) (codes "}"))
    ∷ tok close_brace (leaf line (on 38 k) (codes "}")) ∷ tok close_brace (leaf line (on 40 k) (codes "}"))
    ∷ walk between (at (line + 1) 1) xs)
unfolding walk
single_ends line k xs = refl

double_ends : (line k : ℕ) (xs : List ℕ) → walk between (at line k) (codes " { note key (36 + pick(60)) 1/16; } } } } }" ++ 10 ∷ xs)
    ≡ block_text (notes_block line k) (tok close_brace (leaf line (on 36 k) (codes "}"))
    ∷ tok close_brace (leaf line (on 38 k) (codes "}")) ∷ tok close_brace (leaf line (on 40 k) (codes "}"))
    ∷ tok close_brace (leaf line (on 42 k) (codes "}")) ∷ walk between (at (line + 1) 1) xs)
unfolding walk
double_ends line k xs = refl

-- the text of a branch is that of its form
single_reads : (line notes number : ℕ) (rest : List ℕ) → notes < 10 ^ 9 → number < 10 ^ 9
    → walk between (at line 1) (single_text notes number rest)
    ≡ key Branch (leaf line 1 (codes "branch")) ∷ block_text (single_form line notes number) (walk between (at (line + 1) 1) rest)
single_reads line notes number rest few small =
    let tail = codes " { note key (36 + pick(60)) 1/16; } } } }" ++ 10 ∷ rest in
    let k = behind 18 number in
    branch_begins line _
    ∙ ap (λ (more : List Lexed). key Branch (leaf line 1 (codes "branch"))
    ∷ tok open_brace (leaf line 8 (codes "{")) ∷ key Channel (leaf line 10 (codes "channel")) ∷ more)
    (number_token (at line 18) number (decimal number) 32 (codes "{ warp a { repeat " ++ (decimal notes ++ tail)) (spelt number small) refl
    ∙ ap (λ (more : List Lexed). num (written line 18 number) ∷ more) (single_goes line k (decimal notes ++ tail)
    ∙ ap (λ (more : List Lexed). tok open_brace (leaf line (on 1 k) (codes "{")) ∷ key Warp (leaf line (on 3 k) (codes "warp"))
    ∷ tok Name (leaf line (on 8 k) (codes "a"))
    ∷ tok open_brace (leaf line (on 10 k) (codes "{")) ∷ key Repeat (leaf line (on 12 k) (codes "repeat")) ∷ more)
    (number_token (at line (on 19 k)) notes (decimal notes) 32 (codes "{ note key (36 + pick(60)) 1/16; } } } }" ++ 10 ∷ rest)
    (spelt notes few) refl
    ∙ ap (λ (more : List Lexed). num (written line (on 19 k) notes) ∷ more) (single_ends line (behind (on 19 k) notes) rest))))

double_reads : (line notes number : ℕ) (rest : List ℕ) → notes < 10 ^ 9 → number < 10 ^ 9
    → walk between (at line 1) (double_text notes number rest)
    ≡ key Branch (leaf line 1 (codes "branch")) ∷ block_text (double_form line notes number) (walk between (at (line + 1) 1) rest)
double_reads line notes number rest few small =
    let tail = codes " { note key (36 + pick(60)) 1/16; } } } } }" ++ 10 ∷ rest in
    let k = behind 18 number in
    branch_begins line _
    ∙ ap (λ (more : List Lexed). key Branch (leaf line 1 (codes "branch"))
    ∷ tok open_brace (leaf line 8 (codes "{")) ∷ key Channel (leaf line 10 (codes "channel")) ∷ more)
    (number_token (at line 18) number (decimal number) 32 (codes "{ warp a { warp b { repeat " ++ (decimal notes ++ tail))
    (spelt number small) refl
    ∙ ap (λ (more : List Lexed). num (written line 18 number) ∷ more) (double_goes line k (decimal notes ++ tail)
    ∙ ap (λ (more : List Lexed). tok open_brace (leaf line (on 1 k) (codes "{")) ∷ key Warp (leaf line (on 3 k) (codes "warp"))
    ∷ tok Name (leaf line (on 8 k) (codes "a"))
    ∷ tok open_brace (leaf line (on 10 k) (codes "{")) ∷ key Warp (leaf line (on 12 k) (codes "warp"))
    ∷ tok Name (leaf line (on 17 k) (codes "b")) ∷ tok open_brace (leaf line (on 19 k) (codes "{"))
    ∷ key Repeat (leaf line (on 21 k) (codes "repeat")) ∷ more)
    (number_token (at line (on 28 k)) notes (decimal notes) 32 (codes "{ note key (36 + pick(60)) 1/16; } } } } }" ++ 10 ∷ rest)
    (spelt notes few) refl
    ∙ ap (λ (more : List Lexed). num (written line (on 28 k) notes) ∷ more) (double_ends line (behind (on 28 k) notes) rest))))

-- ---- all branches

-- the branch of a channel
abbrev pub branch_form : ℕ → ℕ → ℕ → BlockForm
branch_form line notes number = if number % 2 == 1 then double_form line notes number else single_form line notes number

branch_reads : (line notes number : ℕ) (rest : List ℕ) → notes < 10 ^ 9 → number < 10 ^ 9
    → walk between (at line 1) (branch_text notes number rest)
    ≡ key Branch (leaf line 1 (codes "branch")) ∷ block_text (branch_form line notes number) (walk between (at (line + 1) 1) rest)
branch_reads line notes number rest few small = go (number % 2 == 1)
  where
    go : (b : Bool) → walk between (at line 1) (if b then double_text notes number rest else single_text notes number rest)
        ≡ key Branch (leaf line 1 (codes "branch")) ∷ block_text
        (if b then double_form line notes number else single_form line notes number) (walk between (at (line + 1) 1) rest)
    go true = double_reads line notes number rest few small
    go false = single_reads line notes number rest few small

-- the branches of channels, each in a line of its own
abbrev pub branches_form : ℕ → ℕ → List ℕ → BranchesForm
branches_form line notes [] = no_branch
branches_form line notes (number ∷ numbers) = branch (leaf line 1 (codes "branch")) (branch_form line notes number)
    (branches_form (line + 1) notes numbers)

-- the line behind them
abbrev pub line_behind : ℕ → List ℕ → ℕ
line_behind line [] = line
line_behind line (number ∷ numbers) = line_behind (line + 1) numbers

-- they have few digits
abbrev pub AllShort : List ℕ → Type 0
AllShort [] = Unit {0}
AllShort (number ∷ numbers) = (number < 10 ^ 9) × AllShort numbers

-- their lines are the text of their forms
pub branches_read : (line notes : ℕ) (numbers rest : List ℕ) → notes < 10 ^ 9 → AllShort numbers
    → walk between (at line 1) (branches_written notes numbers rest)
    ≡ branches_text (branches_form line notes numbers) (walk between (at (line_behind line numbers) 1) rest)
branches_read line notes [] rest few short = refl
branches_read line notes (number ∷ numbers) rest few short =
    branch_reads line notes number (branches_written notes numbers rest) few short.0
    ∙ ap (λ (more : List Lexed). key Branch (leaf line 1 (codes "branch")) ∷ block_text (branch_form line notes number) more)
    (branches_read (line + 1) notes numbers rest few short.1)
