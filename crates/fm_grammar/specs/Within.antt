-- The two limits that belong to the grammar, and the forms that keep them; where a division may stand.
use Rattle.std.specs.Prelude.{◌≡◌, ℕ, suc, ◌+◌, ◌≤◌}
use Rattle.fm_grammar.specs.Grammar.{NumForm, Mores, no_more, more, Listed, ExprForm, expr, FactorForm, register, index, negate, group, pick, compare, TermsForm, no_term, term, SumsForm, no_sum, sum, AmountForm, negative, DurationForm, fixed, PitchForm, named, keyed, StmtsForm, no_stmt, stmt, BlockForm, block, ElseForm, no_else, otherwise, BranchesForm, no_branch, branch, StmtForm, note, play, rest, skip, control, send, set, choice, repeat, again, call, warp, par, scope, rhythm, cycling, EntryForm, shape, phrase, plays, EntriesForm, no_entry, entry, DivisionForm, no_division, division}
use Rattle.fm_grammar.specs.Grammar as forms
use Rattle.fm_grammar.specs.Signs.{divided_version, division_word}

-- the most braces that are open at one time, and the most tokens of an outermost expression
pub record Limits : Type 0 where
  pub braces : ℕ
  pub tokens : ℕ

-- those of the grammar
abbrev pub limits : Limits
limits = record { braces = 64; tokens = 64 }

-- how many tokens an expression has
abbrev mutual
  -- expr
  pub expr_size : ExprForm → ℕ
  expr_size (expr f ts ss) = factor_size f + (terms_size ts + sums_size ss)

  -- factor
  pub factor_size : FactorForm → ℕ
  factor_size (forms.FactorForm.number n) = 1
  factor_size (register r l) = 1
  factor_size (index i l) = 1
  factor_size (negate m f) = 1 + factor_size f
  factor_size (group o e c) = 2 + expr_size e
  factor_size (pick w o e c) = 3 + expr_size e
  factor_size (compare f w o a m b c) = 4 + (expr_size a + expr_size b)

  -- { ("*" | "/" | "%") factor }
  pub terms_size : TermsForm → ℕ
  terms_size no_term = 0
  terms_size (term s l f ts) = 1 + (factor_size f + terms_size ts)

  -- { ("+" | "-") term }
  pub sums_size : SumsForm → ℕ
  sums_size no_sum = 0
  sums_size (sum a l f ts ss) = 1 + (factor_size f + (terms_size ts + sums_size ss))

-- ---- the expressions of a form have at most so many tokens; the parentheses of an amount, a duration or a count are
-- no tokens of the expression in them

-- amount
abbrev pub AmountWithin : ℕ → AmountForm → Type 0
AmountWithin most (forms.AmountForm.number n) = Unit {0}
AmountWithin most (negative m n) = Unit {0}
AmountWithin most (forms.AmountForm.computed o e c) = expr_size e ≤ most

-- duration
abbrev pub DurationWithin : ℕ → DurationForm → Type 0
DurationWithin most (fixed l) = Unit {0}
DurationWithin most (forms.DurationForm.computed w o e c m n) = expr_size e ≤ most

-- pitch
abbrev pub PitchWithin : ℕ → PitchForm → Type 0
PitchWithin most (named k l) = Unit {0}
PitchWithin most (keyed w a) = AmountWithin most a

-- { "," item }
abbrev pub MoresWithin : {A : Type 0} → (A → Type 0) → Mores A → Type 0
MoresWithin Within no_more = Unit {0}
MoresWithin Within (more c x xs) = Within x × MoresWithin Within xs

-- item { "," item }
abbrev pub ListedWithin : {A : Type 0} → (A → Type 0) → Listed A → Type 0
ListedWithin Within xs = Within xs.first × MoresWithin Within xs.others

-- ---- with so many braces open round a form, its blocks keep the limit too
abbrev mutual
  -- { stmt }
  pub StmtsWithin : Limits → ℕ → StmtsForm → Type 0
  StmtsWithin most depth no_stmt = Unit {0}
  StmtsWithin most depth (stmt s ss) = StmtWithin most depth s × StmtsWithin most depth ss

  -- block
  pub BlockWithin : Limits → ℕ → BlockForm → Type 0
  BlockWithin most depth (block o ss c) = (suc depth ≤ most.braces) × StmtsWithin most (suc depth) ss

  -- [ "else" block ]
  pub ElseWithin : Limits → ℕ → ElseForm → Type 0
  ElseWithin most depth no_else = Unit {0}
  ElseWithin most depth (otherwise w b) = BlockWithin most depth b

  -- { branch }
  pub BranchesWithin : Limits → ℕ → BranchesForm → Type 0
  BranchesWithin most depth no_branch = Unit {0}
  BranchesWithin most depth (branch w b bs) = BlockWithin most depth b × BranchesWithin most depth bs

  -- stmt
  pub StmtWithin : Limits → ℕ → StmtForm → Type 0
  StmtWithin most depth (note w ps d e) = ListedWithin (PitchWithin most.tokens) ps × DurationWithin most.tokens d
  StmtWithin most depth (play w ps e) = ListedWithin (PitchWithin most.tokens) ps
  StmtWithin most depth (rest w d e) = DurationWithin most.tokens d
  StmtWithin most depth (skip w e) = Unit {0}
  StmtWithin most depth (control w n a e) = AmountWithin most.tokens a
  StmtWithin most depth (send s w a e) = AmountWithin most.tokens a
  StmtWithin most depth (set w r l q x e) = expr_size x ≤ most.tokens
  StmtWithin most depth (choice w x b o) =
      (expr_size x ≤ most.tokens) × BlockWithin most depth b × ElseWithin most depth o
  StmtWithin most depth (repeat w n b) = BlockWithin most depth b
  StmtWithin most depth (again w o x c m n b) = (expr_size x ≤ most.tokens) × BlockWithin most depth b
  StmtWithin most depth (call w n e) = Unit {0}
  StmtWithin most depth (warp w n b) = BlockWithin most depth b
  StmtWithin most depth (par w o f b bs c) =
      (suc depth ≤ most.braces) × BlockWithin most (suc depth) b × BranchesWithin most (suc depth) bs
  StmtWithin most depth (scope s w n b) = BlockWithin most depth b
  StmtWithin most depth (rhythm w o ls c b) = BlockWithin most depth b
  StmtWithin most depth (cycling y w o ns c b) = BlockWithin most depth b

-- entry
abbrev pub EntryWithin : Limits → EntryForm → Type 0
EntryWithin most (shape w n q ps e) = Unit {0}
EntryWithin most (phrase w n b) = BlockWithin most 0 b
EntryWithin most (plays s) = StmtWithin most 0 s

-- { entry }
abbrev pub EntriesWithin : Limits → EntriesForm → Type 0
EntriesWithin most no_entry = Unit {0}
EntriesWithin most (entry e es) = EntryWithin most e × EntriesWithin most es

-- ---- the head

-- a division stands only behind the version of scores that may state it, and behind its name
abbrev pub DivisionStands : NumForm → DivisionForm → Type 0
DivisionStands version no_division = Unit {0}
DivisionStands version (division w n e) = (version.value ≡ divided_version) × (w.text ≡ division_word)
