-- Each statement is the only one of its tokens.
use Rattle.std.proofs.Common.{◌≡◌, List, ◌∷◌, refl, sym, arith}
use Rattle.fm_lex.specs.Tokens.{Lexed}
use Rattle.fm_lex.specs.declared.kind.Kind.TheVariants.{Name, Register}
use Rattle.fm_lex.specs.declared.kind.Kind.TheVariants as kinds
use Rattle.fm_lex.specs.declared.keyword.Keyword.TheVariants.{Note, Play, Rest, Skip, Control, Set, If, Else, Repeat, Do, Par, Branch, Warp, Rhythm}
use Rattle.fm_grammar.specs.Grammar.{StmtsForm, no_stmt, stmt, BlockForm, block, ElseForm, no_else, otherwise, BranchesForm, no_branch, branch, StmtForm, note, play, rest, skip, control, send, set, choice, repeat, again, call, warp, par, scope, rhythm, cycling}
use Rattle.fm_grammar.specs.Signs.{semicolon, open_brace, close_brace, open_parenthesis, open_bracket, close_bracket, equals, tok}
use Rattle.fm_grammar.specs.Spelling.{num_text, length_text, duration_text, pitch_text, sending_word, scoping_word, cycling_word, stmts_text, block_text, else_text, branches_text, stmt_text}
use Rattle.fm_grammar.proofs.Unique.{Agree, same_kind, same_leaf, same_rest, same_register, Apart, clash}
use Rattle.fm_grammar.proofs.UniqueExprs.{unique_expr}
use Rattle.fm_grammar.proofs.UniqueValues.{unique_num, unique_length, unique_amount, unique_clamped, unique_duration, unique_pitch, unique_listed, duration_apart}
use Rattle.fm_grammar.proofs.UniqueWords.{same_tag, same_sending, same_scoping, same_cycling, stmt_words, stmt_begins, elses, branch_words, seconds, no_word, stmts_no_else}

mutual
  unique_stmts : (x y : StmtsForm) (u v : List Lexed) → Apart seconds u → Apart seconds v → stmts_text x u ≡ stmts_text y v
      → Agree x y u v
  unique_stmts no_stmt no_stmt u v p q same = record { forms = refl; rests = same }
  unique_stmts no_stmt (stmt s c) u v p q same = clash stmt_words u _ (no_word u p) same (stmt_begins s (stmts_text c v))
  unique_stmts (stmt s c) no_stmt u v p q same = clash stmt_words v _ (no_word v q) (sym same) (stmt_begins s (stmts_text c u))
  unique_stmts (stmt s c) (stmt r d) u v p q same =
      let first = unique_stmt s r (stmts_text c u) (stmts_text d v) (stmts_no_else c u p) (stmts_no_else d v q) same in
      let later = unique_stmts c d u v p q first.rests in
      record { forms = cc; rests = later.rests }

  pub unique_block : (x y : BlockForm) (u v : List Lexed) → block_text x u ≡ block_text y v → Agree x y u v
  unique_block (block o c e) (block p d f) u v same =
      let opens : o ≡ p = same_leaf open_brace open_brace o p _ _ same in
      let inside = unique_stmts c d (tok close_brace e ∷ u) (tok close_brace f ∷ v) refl refl (same_rest _ _ _ _ same) in
      let closes : e ≡ f = same_leaf close_brace close_brace e f u v inside.rests in
      record { forms = cc; rests = same_rest _ _ u v inside.rests }

  unique_else : (x y : ElseForm) (u v : List Lexed) → Apart elses u → Apart elses v → else_text x u ≡ else_text y v → Agree x y u v
  unique_else no_else no_else u v p q same = record { forms = refl; rests = same }
  unique_else no_else (otherwise w b) u v p q same = clash elses u _ p same refl
  unique_else (otherwise w b) no_else u v p q same = clash elses v _ q (sym same) refl
  unique_else (otherwise w b) (otherwise x c) u v p q same =
      let word : w ≡ x = same_leaf (kinds.Keyword Else) (kinds.Keyword Else) w x _ _ same in
      let blocks = unique_block b c u v (same_rest _ _ _ _ same) in
      record { forms = cc; rests = blocks.rests }

  unique_branches : (x y : BranchesForm) (u v : List Lexed) → Apart branch_words u → Apart branch_words v
      → branches_text x u ≡ branches_text y v → Agree x y u v
  unique_branches no_branch no_branch u v p q same = record { forms = refl; rests = same }
  unique_branches no_branch (branch w b bs) u v p q same = clash branch_words u _ p same refl
  unique_branches (branch w b bs) no_branch u v p q same = clash branch_words v _ q (sym same) refl
  unique_branches (branch w b bs) (branch x c cs) u v p q same =
      let word : w ≡ x = same_leaf (kinds.Keyword Branch) (kinds.Keyword Branch) w x _ _ same in
      let first = unique_block b c _ _ (same_rest _ _ _ _ same) in
      let later = unique_branches bs cs u v p q first.rests in
      record { forms = cc; rests = later.rests }

  pub unique_stmt : (x y : StmtForm) (u v : List Lexed) → Apart elses u → Apart elses v → stmt_text x u ≡ stmt_text y v → Agree x y u v
  unique_stmt (note w ps d e) (note x qs f g) u v p q same =
      let word : w ≡ x = same_leaf (kinds.Keyword Note) (kinds.Keyword Note) w x _ _ same in
      let pitches =
      unique_listed pitch_text unique_pitch ps qs (duration_text d (tok semicolon e ∷ u)) (duration_text f (tok semicolon g ∷ v))
      (duration_apart d _) (duration_apart f _) (same_rest _ _ _ _ same) in
      let durations = unique_duration d f _ _ pitches.rests in
      let ends : e ≡ g = same_leaf semicolon semicolon e g u v durations.rests in
      record { forms = cc; rests = same_rest _ _ u v durations.rests }
  unique_stmt (play w ps e) (play x qs g) u v p q same =
      let word : w ≡ x = same_leaf (kinds.Keyword Play) (kinds.Keyword Play) w x _ _ same in
      let pitches =
      unique_listed pitch_text unique_pitch ps qs (tok semicolon e ∷ u) (tok semicolon g ∷ v) refl refl (same_rest _ _ _ _ same) in
      let ends : e ≡ g = same_leaf semicolon semicolon e g u v pitches.rests in
      record { forms = cc; rests = same_rest _ _ u v pitches.rests }
  unique_stmt (rest w d e) (rest x f g) u v p q same =
      let word : w ≡ x = same_leaf (kinds.Keyword Rest) (kinds.Keyword Rest) w x _ _ same in
      let durations = unique_duration d f _ _ (same_rest _ _ _ _ same) in
      let ends : e ≡ g = same_leaf semicolon semicolon e g u v durations.rests in
      record { forms = cc; rests = same_rest _ _ u v durations.rests }
  unique_stmt (skip w e) (skip x g) u v p q same =
      let word : w ≡ x = same_leaf (kinds.Keyword Skip) (kinds.Keyword Skip) w x _ _ same in
      let behind = same_rest _ _ _ _ same in
      let ends : e ≡ g = same_leaf semicolon semicolon e g u v behind in
      record { forms = cc; rests = same_rest _ _ u v behind }
  unique_stmt (control w n a e) (control x m b g) u v p q same =
      let word : w ≡ x = same_leaf (kinds.Keyword Control) (kinds.Keyword Control) w x _ _ same in
      let controllers = unique_num n m _ _ (same_rest _ _ _ _ same) in
      let values = unique_amount a b _ _ controllers.rests in
      let ends : e ≡ g = same_leaf semicolon semicolon e g u v values.rests in
      record { forms = cc; rests = same_rest _ _ u v values.rests }
  unique_stmt (send s w a e) (send r x b g) u v p q same =
      let which : s ≡ r = same_sending s r (same_kind (kinds.Keyword (sending_word s)) (kinds.Keyword (sending_word r)) w x _ _ same) in
      let word : w ≡ x = same_leaf (kinds.Keyword (sending_word s)) (kinds.Keyword (sending_word r)) w x _ _ same in
      let values = unique_amount a b _ _ (same_rest _ _ _ _ same) in
      let ends : e ≡ g = same_leaf semicolon semicolon e g u v values.rests in
      record { forms = cc; rests = same_rest _ _ u v values.rests }
  unique_stmt (set w r l k a e) (set x s m j b g) u v p q same =
      let word : w ≡ x = same_leaf (kinds.Keyword Set) (kinds.Keyword Set) w x _ _ same in
      let behind = same_rest _ _ _ _ same in
      let which : r ≡ s = same_register r s l m _ _ behind in
      let register : l ≡ m = same_leaf (Register r) (Register s) l m _ _ behind in
      let equation = same_rest _ _ _ _ behind in
      let sign : k ≡ j = same_leaf equals equals k j _ _ equation in
      let values = unique_expr a b (tok semicolon e ∷ u) (tok semicolon g ∷ v) refl refl (same_rest _ _ _ _ equation) in
      let ends : e ≡ g = same_leaf semicolon semicolon e g u v values.rests in
      record { forms = cc; rests = same_rest _ _ u v values.rests }
  unique_stmt (choice w a (block o c e) f) (choice x b (block l d g) h) u v p q same =
      let word : w ≡ x = same_leaf (kinds.Keyword If) (kinds.Keyword If) w x _ _ same in
      let tests =
      unique_expr a b (block_text (block o c e) (else_text f u)) (block_text (block l d g) (else_text h v)) refl refl
      (same_rest _ _ _ _ same) in
      let blocks = unique_block (block o c e) (block l d g) (else_text f u) (else_text h v) tests.rests in
      let seconds_of = unique_else f h u v p q blocks.rests in
      record { forms = cc; rests = seconds_of.rests }
  unique_stmt (repeat w n b) (repeat x m c) u v p q same =
      let word : w ≡ x = same_leaf (kinds.Keyword Repeat) (kinds.Keyword Repeat) w x _ _ same in
      let counts = unique_num n m _ _ (same_rest _ _ _ _ same) in
      let blocks = unique_block b c u v counts.rests in
      record { forms = cc; rests = blocks.rests }
  unique_stmt (again w o a c m n b) (again x l d e k j f) u v p q same =
      let word : w ≡ x = same_leaf (kinds.Keyword Repeat) (kinds.Keyword Repeat) w x _ _ same in
      let behind = same_rest _ _ _ _ same in
      let opens : o ≡ l = same_leaf open_parenthesis open_parenthesis o l _ _ behind in
      let counts = unique_clamped a d c e m k n j (block_text b u) (block_text f v) (same_rest _ _ _ _ behind) in
      let blocks = unique_block b f u v counts.rests in
      record { forms = cc; rests = blocks.rests }
  unique_stmt (call w n e) (call x m g) u v p q same =
      let word : w ≡ x = same_leaf (kinds.Keyword Do) (kinds.Keyword Do) w x _ _ same in
      let behind = same_rest _ _ _ _ same in
      let name : n ≡ m = same_leaf Name Name n m _ _ behind in
      let last = same_rest _ _ _ _ behind in
      let ends : e ≡ g = same_leaf semicolon semicolon e g u v last in
      record { forms = cc; rests = same_rest _ _ u v last }
  unique_stmt (warp w n b) (warp x m c) u v p q same =
      let word : w ≡ x = same_leaf (kinds.Keyword Warp) (kinds.Keyword Warp) w x _ _ same in
      let behind = same_rest _ _ _ _ same in
      let name : n ≡ m = same_leaf Name Name n m _ _ behind in
      let blocks = unique_block b c u v (same_rest _ _ _ _ behind) in
      record { forms = cc; rests = blocks.rests }
  unique_stmt (par w o f b bs e) (par x l g c cs h) u v p q same =
      let word : w ≡ x = same_leaf (kinds.Keyword Par) (kinds.Keyword Par) w x _ _ same in
      let behind = same_rest _ _ _ _ same in
      let opens : o ≡ l = same_leaf open_brace open_brace o l _ _ behind in
      let first = same_rest _ _ _ _ behind in
      let branch_word : f ≡ g = same_leaf (kinds.Keyword Branch) (kinds.Keyword Branch) f g _ _ first in
      let blocks = unique_block b c _ _ (same_rest _ _ _ _ first) in
      let others = unique_branches bs cs (tok close_brace e ∷ u) (tok close_brace h ∷ v) refl refl blocks.rests in
      let closes : e ≡ h = same_leaf close_brace close_brace e h u v others.rests in
      record { forms = cc; rests = same_rest _ _ u v others.rests }
  unique_stmt (scope s w n b) (scope r x m c) u v p q same =
      let which : s ≡ r = same_scoping s r (same_kind (kinds.Keyword (scoping_word s)) (kinds.Keyword (scoping_word r)) w x _ _ same) in
      let word : w ≡ x = same_leaf (kinds.Keyword (scoping_word s)) (kinds.Keyword (scoping_word r)) w x _ _ same in
      let numbers = unique_num n m _ _ (same_rest _ _ _ _ same) in
      let blocks = unique_block b c u v numbers.rests in
      record { forms = cc; rests = blocks.rests }
  unique_stmt (rhythm w o ls e b) (rhythm x l ms f c) u v p q same =
      let word : w ≡ x = same_leaf (kinds.Keyword Rhythm) (kinds.Keyword Rhythm) w x _ _ same in
      let behind = same_rest _ _ _ _ same in
      let opens : o ≡ l = same_leaf open_bracket open_bracket o l _ _ behind in
      let lists =
      unique_listed length_text unique_length ls ms (tok close_bracket e ∷ block_text b u)
      (tok close_bracket f ∷ block_text c v) refl refl (same_rest _ _ _ _ behind) in
      let closes : e ≡ f = same_leaf close_bracket close_bracket e f _ _ lists.rests in
      let blocks = unique_block b c u v (same_rest _ _ _ _ lists.rests) in
      record { forms = cc; rests = blocks.rests }
  unique_stmt (cycling s w o ns e b) (cycling r x l ms f c) u v p q same =
      let which : s ≡ r = same_cycling s r (same_kind (kinds.Keyword (cycling_word s)) (kinds.Keyword (cycling_word r)) w x _ _ same) in
      let word : w ≡ x = same_leaf (kinds.Keyword (cycling_word s)) (kinds.Keyword (cycling_word r)) w x _ _ same in
      let behind = same_rest _ _ _ _ same in
      let opens : o ≡ l = same_leaf open_bracket open_bracket o l _ _ behind in
      let lists =
      unique_listed num_text unique_num ns ms (tok close_bracket e ∷ block_text b u) (tok close_bracket f ∷ block_text c v) refl refl
      (same_rest _ _ _ _ behind) in
      let closes : e ≡ f = same_leaf close_bracket close_bracket e f _ _ lists.rests in
      let blocks = unique_block b c u v (same_rest _ _ _ _ lists.rests) in
      record { forms = cc; rests = blocks.rests }
  unique_stmt x y u v p q same = absurd (omega (arith, same_tag x y u v same))
