-- What statements spell is no shorter than what follows them.
use Rattle.std.proofs.Common.{◌<◌, ◌≤◌, List, ◌∷◌, length, arith}
use Rattle.fm_lex.specs.declared.keyword.Keyword.TheVariants.{Max}
use Rattle.fm_lex.specs.Tokens.{Lexed}
use Rattle.fm_grammar.specs.Grammar.{Mores, no_more, more, Listed, DurationForm, fixed, StmtsForm, no_stmt, stmt, BlockForm, block, ElseForm, no_else, otherwise, BranchesForm, no_branch, branch, StmtForm, note, play, rest, skip, control, send, set, choice, repeat, again, call, warp, par, scope, rhythm, cycling}
use Rattle.fm_grammar.specs.Grammar as forms
use Rattle.fm_grammar.specs.Signs.{semicolon, close_brace, close_bracket, close_parenthesis, tok, key, num}
use Rattle.fm_grammar.specs.Spelling.{mores_text, listed_text, num_text, length_text, duration_text, pitch_text, stmts_text, block_text, else_text, branches_text, stmt_text}
use Rattle.fm_terms.proofs.Lengths.{expr_more, amount_more, pitch_more, length_more, num_more}

mores_more : {A : Type 0} (text : A → List Lexed → List Lexed) → ((x : A) (next : List Lexed) → length next ≤ length
    (text x next))
    → (xs : Mores A) (next : List Lexed) → length next ≤ length (mores_text text xs next)
mores_more text each no_more next = omega arith
mores_more text each (more c x xs) next = omega (arith, each x (mores_text text xs next), mores_more text each xs next)

pub listed_more : {A : Type 0} (text : A → List Lexed → List Lexed) → ((x : A) (next : List Lexed)
    → length next ≤ length (text x next))
    → (xs : Listed A) (next : List Lexed) → length next ≤ length (listed_text text xs next)
listed_more text each xs next = omega (
  arith,
  each xs.first (mores_text text xs.others next),
  mores_more text each
      xs.others next,
)

duration_more : (d : DurationForm) (next : List Lexed) → length next ≤ length (duration_text d next)
duration_more (fixed l) next = length_more l next
duration_more (forms.DurationForm.computed w o e c m n) next =
    omega (arith, expr_more e (tok close_parenthesis c ∷ key Max m ∷ num n ∷ next))

mutual
  stmts_more : (ss : StmtsForm) (next : List Lexed) → length next ≤ length (stmts_text ss next)
  stmts_more no_stmt next = omega arith
  stmts_more (stmt s ss) next = omega (arith, stmt_more s (stmts_text ss next), stmts_more ss next)

  pub block_more : (b : BlockForm) (next : List Lexed) → length next ≤ length (block_text b next)
  block_more (block o ss c) next = omega (arith, stmts_more ss (tok close_brace c ∷ next))

  else_more : (o : ElseForm) (next : List Lexed) → length next ≤ length (else_text o next)
  else_more no_else next = omega arith
  else_more (otherwise w b) next = omega (arith, block_more b next)

  branches_more : (bs : BranchesForm) (next : List Lexed) → length next ≤ length (branches_text bs next)
  branches_more no_branch next = omega arith
  branches_more (branch w b bs) next = omega (arith, block_more b (branches_text bs next), branches_more bs next)

  pub stmt_more : (s : StmtForm) (next : List Lexed) → length next < length (stmt_text s next)
  stmt_more (note w ps d e) next =
      omega (
        arith,
        listed_more pitch_text pitch_more ps (duration_text d (tok semicolon e ∷ next)),
        duration_more d
            (tok semicolon e ∷ next),
      )
  stmt_more (play w ps e) next = omega (arith, listed_more pitch_text pitch_more ps (tok semicolon e ∷ next))
  stmt_more (rest w d e) next = omega (arith, duration_more d (tok semicolon e ∷ next))
  stmt_more (skip w e) next = omega arith
  stmt_more (control w n a e) next = omega (arith, amount_more a (tok semicolon e ∷ next))
  stmt_more (send s w a e) next = omega (arith, amount_more a (tok semicolon e ∷ next))
  stmt_more (set w r l q x e) next = omega (arith, expr_more x (tok semicolon e ∷ next))
  stmt_more (choice w x b o) next = omega (
    arith,
    expr_more x (block_text b (else_text o next)),
    block_more b
        (else_text o next),
    else_more o next,
  )
  stmt_more (repeat w n b) next = omega (arith, block_more b next)
  stmt_more (again w o x c m n b) next =
      omega (arith, expr_more x (tok close_parenthesis c ∷ key Max m ∷ num n ∷ block_text b next), block_more b next)
  stmt_more (call w n e) next = omega arith
  stmt_more (warp w n b) next = omega (arith, block_more b next)
  stmt_more (par w o f b bs c) next =
      omega (
        arith,
        block_more b (branches_text bs (tok close_brace c ∷ next)),
        branches_more bs
            (tok close_brace c ∷ next),
      )
  stmt_more (scope s w n b) next = omega (arith, block_more b next)
  stmt_more (rhythm w o ls c b) next =
      omega (arith, listed_more length_text length_more ls (tok close_bracket c ∷ block_text b next), block_more b next)
  stmt_more (cycling y w o ns c b) next =
      omega (arith, listed_more num_text num_more ns (tok close_bracket c ∷ block_text b next), block_more b next)
