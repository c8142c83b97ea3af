-- The grammar gives each statement of a text its form.
use Rattle.std.proofs.Common.{ℕ, suc, List, ◌∷◌, sym, arith, subst}
use Rattle.std.specs.List.{AllByRecursion}
use Rattle.std.proofs.lemmas.Bool.{ltb-true}
use Rattle.fm_lex.specs.declared.keyword.Keyword.TheVariants.{Max}
use Rattle.fm_lex.specs.Tokens.{Lexed, tokens}
use Rattle.fm_value.specs.declared.registers.TheConstants.{REGISTERS}
use Rattle.fm_grammar.specs.Score as text
use Rattle.fm_grammar.specs.Grammar.{program, bend, channel, volume, gate, artic, loud, StmtsForm, no_stmt, stmt, BlockForm, block, ElseForm, no_else, otherwise, BranchesForm, no_branch, branch, StmtForm, note, play, rest, skip, control, send, set, choice, repeat, again, call, warp, par, scope, rhythm, cycling, EntryForm, shape, phrase, plays, EntriesForm, no_entry, entry, SeedForm, no_seed, seed, DivisionForm, no_division, division}
use Rattle.fm_grammar.specs.Signs.{semicolon, close_brace, close_parenthesis, close_bracket, tok, key, num}
use Rattle.fm_grammar.specs.Spelling.{num_text, length_text, part_text, duration_text, stmts_text, block_text, else_text, branches_text, stmt_text, entry_text, entries_text, seed_text, division_text, score_text}
use Rattle.fm_grammar.specs.Standing.{stmts_tree, block_tree, else_tree, branches_tree, stmt_tree, entry_tree, entries_tree}
use Rattle.fm_grammar.specs.Within.{limits, StmtsWithin, BlockWithin, ElseWithin, BranchesWithin, StmtWithin, EntryWithin, EntriesWithin}
use Rattle.fm_grammar.specs.Reads.{Reads}
use Rattle.fm_promise.proofs.Registers.{Tame, tokens_tame}
use Rattle.fm_promise.proofs.Formed.{Formed, FormedIn, FormedAmong, EntryFormed, expr_formed, amount_formed, duration_formed, pitches_formed, length_passed, num_passed, part_passed, listed_passed}

mutual
  -- statements in turn
  stmts_formed : (depth : ℕ) (ss : StmtsForm) (next : List Lexed) → StmtsWithin limits depth ss → Tame (stmts_text ss next)
      → FormedIn (stmts_tree ss) × Tame next
  stmts_formed depth no_stmt next small is = (tt, is)
  stmts_formed depth (stmt s ss) next small is =
      let x = stmt_formed depth s (stmts_text ss next) small.0 is in
      let y = stmts_formed depth ss next small.1 x.1 in ((x.0, y.0), y.1)

  -- a block
  block_formed : (depth : ℕ) (b : BlockForm) (next : List Lexed) → BlockWithin limits depth b → Tame (block_text b next)
      → FormedIn (block_tree b) × Tame next
  block_formed depth (block o ss c) next small is =
      let x = stmts_formed (suc depth) ss (tok close_brace c ∷ next) small.1 is.1 in (x.0, x.1.1)

  -- what stands behind `else`
  else_formed : (depth : ℕ) (e : ElseForm) (next : List Lexed) → ElseWithin limits depth e → Tame (else_text e next)
      → FormedIn (else_tree e) × Tame next
  else_formed depth no_else next small is = (tt, is)
  else_formed depth (otherwise w b) next small is = block_formed depth b next small is.1

  -- branches
  branches_formed : (depth : ℕ) (bs : BranchesForm) (next : List Lexed) → BranchesWithin limits depth bs
      → Tame (branches_text bs next) → FormedAmong (branches_tree bs) × Tame next
  branches_formed depth no_branch next small is = (tt, is)
  branches_formed depth (branch w b bs) next small is =
      let x = block_formed depth b (branches_text bs next) small.0 is.1 in
      let y = branches_formed depth bs next small.1 x.1 in ((x.0, y.0), y.1)

  -- a statement
  stmt_formed : (depth : ℕ) (s : StmtForm) (next : List Lexed) → StmtWithin limits depth s → Tame (stmt_text s next)
      → Formed (stmt_tree s) × Tame next
  stmt_formed depth (note w ps d e) next small is =
      let x = pitches_formed ps (duration_text d (tok semicolon e ∷ next)) small.0 is.1 in
      let y = duration_formed d (tok semicolon e ∷ next) small.1 x.1 in ((x.0, y.0), y.1.1)
  stmt_formed depth (play w ps e) next small is =
      let x = pitches_formed ps (tok semicolon e ∷ next) small is.1 in (x.0, x.1.1)
  stmt_formed depth (rest w d e) next small is =
      let x = duration_formed d (tok semicolon e ∷ next) small is.1 in (x.0, x.1.1)
  stmt_formed depth (skip w e) next small is = (tt, is.1.1)
  stmt_formed depth (control w n a e) next small is =
      let x = amount_formed a (tok semicolon e ∷ next) small is.1.1 in (x.0, x.1.1)
  stmt_formed depth (send program w a e) next small is =
      let x = amount_formed a (tok semicolon e ∷ next) small is.1 in (x.0, x.1.1)
  stmt_formed depth (send bend w a e) next small is =
      let x = amount_formed a (tok semicolon e ∷ next) small is.1 in (x.0, x.1.1)
  stmt_formed depth (set w r l q x e) next small is =
      let y = expr_formed x (tok semicolon e ∷ next) small is.1.1.1 in
      ((ltb-true r REGISTERS is.1.0, y.0), y.1.1)
  stmt_formed depth (choice w x b o) next small is =
      let y = expr_formed x (block_text b (else_text o next)) small.0 is.1 in
      let z = block_formed depth b (else_text o next) small.1 y.1 in
      let u = else_formed depth o next small.2 z.1 in ((y.0, z.0, u.0), u.1)
  stmt_formed depth (repeat w n b) next small is = block_formed depth b next small is.1.1
  stmt_formed depth (again w o x c m n b) next small is =
      let y = expr_formed x (tok close_parenthesis c ∷ key Max m ∷ num n ∷ block_text b next) small.0 is.1.1 in
      let z = block_formed depth b next small.1 y.1.1.1.1 in ((y.0, z.0), z.1)
  stmt_formed depth (call w n e) next small is = (tt, is.1.1.1)
  stmt_formed depth (warp w n b) next small is = block_formed depth b next small is.1.1
  stmt_formed depth (par w o f b bs c) next small is =
      let x = block_formed (suc depth) b (branches_text bs (tok close_brace c ∷ next)) small.1 is.1.1.1 in
      let y = branches_formed (suc depth) bs (tok close_brace c ∷ next) small.2 x.1 in ((tt, (x.0, y.0)), y.1.1)
  stmt_formed depth (scope channel w n b) next small is = block_formed depth b next small is.1.1
  stmt_formed depth (scope volume w n b) next small is = block_formed depth b next small is.1.1
  stmt_formed depth (scope gate w n b) next small is = block_formed depth b next small is.1.1
  stmt_formed depth (rhythm w o ls c b) next small is =
      let later = listed_passed length_text length_passed ls (tok close_bracket c ∷ block_text b next) is.1.1 in
      let x = block_formed depth b next small later.1 in ((omega arith, x.0), x.1)
  stmt_formed depth (cycling artic w o ns c b) next small is =
      let later = listed_passed num_text num_passed ns (tok close_bracket c ∷ block_text b next) is.1.1 in
      let x = block_formed depth b next small later.1 in ((omega arith, x.0), x.1)
  stmt_formed depth (cycling loud w o ns c b) next small is =
      let later = listed_passed num_text num_passed ns (tok close_bracket c ∷ block_text b next) is.1.1 in
      let x = block_formed depth b next small later.1 in ((omega arith, x.0), x.1)

-- an entry
entry_formed : (e : EntryForm) (next : List Lexed) → EntryWithin limits e → Tame (entry_text e next)
    → EntryFormed (entry_tree e) × Tame next
entry_formed (shape w n q ps e) next small is =
    (omega arith, (listed_passed part_text part_passed ps (tok semicolon e ∷ next) is.1.1.1).1)
entry_formed (phrase w n b) next small is = block_formed 0 b next small is.1.1
entry_formed (plays s) next small is = stmt_formed 0 s next small is

-- all entries
entries_formed : (es : EntriesForm) (next : List Lexed) → EntriesWithin limits es → Tame (entries_text es next)
    → AllByRecursion EntryFormed (entries_tree es)
entries_formed no_entry next small is = tt
entries_formed (entry e es) next small is =
    let x = entry_formed e (entries_text es next) small.0 is in (x.0, entries_formed es next small.1 x.1)

-- what stands before them
seed_passed : (s : SeedForm) (next : List Lexed) → Tame (seed_text s next) → Tame next
seed_passed no_seed next is = is
seed_passed (seed w n e) next is = is.1.1.1

division_passed : (d : DivisionForm) (next : List Lexed) → Tame (division_text d next) → Tame next
division_passed no_division next is = is
division_passed (division w n e) next is = is.1.1.1

-- the entries of a score that a text reads as
pub text_formed : (t : List ℕ) (s : text.Score) → Reads limits (tokens t) s → AllByRecursion EntryFormed s.entries
text_formed t s r =
    let is : Tame (score_text r.form) = subst Tame r.text (tokens_tame t) in
    let behind = seed_passed r.form.seeded _ (division_passed r.form.divided _ is.1.1.1) in
    let all = entries_formed r.form.entries _ r.within behind in
    subst (λ x. AllByRecursion EntryFormed x.entries) (sym r.stands_for) all
