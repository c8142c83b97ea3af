-- The tokens that spell a form of the grammar, before the tokens that follow it.
use Rattle.std.specs.Prelude.{List, [], ◌∷◌}
use Rattle.fm_lex.specs.declared.kind.Kind.{Kind}
use Rattle.fm_lex.specs.declared.kind.Kind.TheVariants.{Name, Pitch, Register, Index, End}
use Rattle.fm_lex.specs.declared.keyword.Keyword.{Keyword}
use Rattle.fm_lex.specs.declared.keyword.Keyword.TheVariants.{Formula, Seed, Shape, Flat, By, Slope, To, Pause, Breath, Ticks, Phrase, Note, Play, Rest, Skip, Control, Program, Bend, Set, If, Else, Repeat, Max, Do, Par, Branch, Warp, Channel, Volume, Gate, Rhythm, Artic, Loud, Key, Pick, Min, Less, Same}
use Rattle.fm_lex.specs.Tokens.{Lexed}
use Rattle.fm_grammar.specs.Grammar.{NumForm, Mores, no_more, more, Listed, LengthForm, share, ticks, PartForm, flat, slope, pause, breath, Scaling, times, over, modulo, Adding, plus, minus, Comparing, least, greatest, below, equal, ExprForm, expr, FactorForm, register, index, negate, group, pick, compare, TermsForm, no_term, term, SumsForm, no_sum, sum, AmountForm, negative, DurationForm, fixed, PitchForm, named, keyed, Sending, program, bend, Scoping, channel, volume, gate, Cycling, artic, loud, StmtsForm, no_stmt, stmt, BlockForm, block, ElseForm, no_else, otherwise, BranchesForm, no_branch, branch, StmtForm, note, play, rest, skip, control, send, set, choice, repeat, again, call, warp, par, scope, rhythm, cycling, EntryForm, shape, phrase, plays, EntriesForm, no_entry, entry, SeedForm, no_seed, seed, DivisionForm, no_division, division, ScoreForm}
use Rattle.fm_grammar.specs.Grammar as forms
use Rattle.fm_grammar.specs.Signs.{semicolon, open_brace, close_brace, open_parenthesis, close_parenthesis, open_bracket, close_bracket, comma, equals, slash, plus_sign, minus_sign, asterisk, percent, tok, key, num}

-- { "," item }, where a function spells an item
abbrev pub mores_text : {A : Type 0} → (A → List Lexed → List Lexed) → Mores A → List Lexed → List Lexed
mores_text text no_more next = next
mores_text text (more c x xs) next = tok comma c ∷ text x (mores_text text xs next)

-- item { "," item }
abbrev pub listed_text : {A : Type 0} → (A → List Lexed → List Lexed) → Listed A → List Lexed → List Lexed
listed_text text xs next = text xs.first (mores_text text xs.others next)

-- NUMBER
abbrev pub num_text : NumForm → List Lexed → List Lexed
num_text n next = num n ∷ next

-- length
abbrev pub length_text : LengthForm → List Lexed → List Lexed
length_text (share a s b) next = num a ∷ tok slash s ∷ num b ∷ next
length_text (ticks w n) next = key Ticks w ∷ num n ∷ next

-- part
abbrev pub part_text : PartForm → List Lexed → List Lexed
part_text (flat w l b s) next = key Flat w ∷ length_text l (key By b ∷ num s ∷ next)
part_text (slope w l b s t e) next = key Slope w ∷ length_text l (key By b ∷ num s ∷ key To t ∷ num e ∷ next)
part_text (pause w l) next = key Pause w ∷ length_text l next
part_text (breath w l) next = key Breath w ∷ length_text l next

-- the kind of an operator between factors
abbrev pub scaling_kind : Scaling → Kind
scaling_kind times = asterisk
scaling_kind over = slash
scaling_kind modulo = percent

-- of an operator between terms
abbrev pub adding_kind : Adding → Kind
adding_kind plus = plus_sign
adding_kind minus = minus_sign

-- of a word before two expressions
abbrev pub comparing_word : Comparing → Keyword
comparing_word least = Min
comparing_word greatest = Max
comparing_word below = Less
comparing_word equal = Same

-- expr, factor and what follows a factor
abbrev mutual
  -- expr
  pub expr_text : ExprForm → List Lexed → List Lexed
  expr_text (expr f ts ss) next = factor_text f (terms_text ts (sums_text ss next))

  -- factor
  pub factor_text : FactorForm → List Lexed → List Lexed
  factor_text (forms.FactorForm.number n) next = num n ∷ next
  factor_text (register r l) next = tok (Register r) l ∷ next
  factor_text (index i l) next = tok (Index i) l ∷ next
  factor_text (negate m f) next = tok minus_sign m ∷ factor_text f next
  factor_text (group o e c) next = tok open_parenthesis o ∷ expr_text e (tok close_parenthesis c ∷ next)
  factor_text (pick w o e c) next = key Pick w ∷ tok open_parenthesis o ∷ expr_text e (tok close_parenthesis c ∷ next)
  factor_text (compare f w o a m b c) next =
      key (comparing_word f) w ∷ tok open_parenthesis o
      ∷ expr_text a (tok comma m ∷ expr_text b (tok close_parenthesis c ∷ next))

  -- { ("*" | "/" | "%") factor }
  pub terms_text : TermsForm → List Lexed → List Lexed
  terms_text no_term next = next
  terms_text (term s l f ts) next = tok (scaling_kind s) l ∷ factor_text f (terms_text ts next)

  -- { ("+" | "-") term }
  pub sums_text : SumsForm → List Lexed → List Lexed
  sums_text no_sum next = next
  sums_text (sum a l f ts ss) next = tok (adding_kind a) l ∷ factor_text f (terms_text ts (sums_text ss next))

-- amount
abbrev pub amount_text : AmountForm → List Lexed → List Lexed
amount_text (forms.AmountForm.number n) next = num n ∷ next
amount_text (negative m n) next = tok minus_sign m ∷ num n ∷ next
amount_text (forms.AmountForm.computed o e c) next =
    tok open_parenthesis o ∷ expr_text e (tok close_parenthesis c ∷ next)

-- duration
abbrev pub duration_text : DurationForm → List Lexed → List Lexed
duration_text (fixed l) next = length_text l next
duration_text (forms.DurationForm.computed w o e c m n) next =
    key Ticks w ∷ tok open_parenthesis o ∷ expr_text e (tok close_parenthesis c ∷ key Max m ∷ num n ∷ next)

-- pitch
abbrev pub pitch_text : PitchForm → List Lexed → List Lexed
pitch_text (named k l) next = tok (Pitch k) l ∷ next
pitch_text (keyed w a) next = key Key w ∷ amount_text a next

-- the word of a statement that sends a value
abbrev pub sending_word : Sending → Keyword
sending_word program = Program
sending_word bend = Bend

-- of a block with one number
abbrev pub scoping_word : Scoping → Keyword
scoping_word channel = Channel
scoping_word volume = Volume
scoping_word gate = Gate

-- of a block with a list of numbers
abbrev pub cycling_word : Cycling → Keyword
cycling_word artic = Artic
cycling_word loud = Loud

-- statements and blocks
abbrev mutual
  -- { stmt }
  pub stmts_text : StmtsForm → List Lexed → List Lexed
  stmts_text no_stmt next = next
  stmts_text (stmt s ss) next = stmt_text s (stmts_text ss next)

  -- block
  pub block_text : BlockForm → List Lexed → List Lexed
  block_text (block o ss c) next = tok open_brace o ∷ stmts_text ss (tok close_brace c ∷ next)

  -- [ "else" block ]
  pub else_text : ElseForm → List Lexed → List Lexed
  else_text no_else next = next
  else_text (otherwise w b) next = key Else w ∷ block_text b next

  -- { branch }
  pub branches_text : BranchesForm → List Lexed → List Lexed
  branches_text no_branch next = next
  branches_text (branch w b bs) next = key Branch w ∷ block_text b (branches_text bs next)

  -- stmt
  pub stmt_text : StmtForm → List Lexed → List Lexed
  stmt_text (note w ps d e) next = key Note w ∷ listed_text pitch_text ps (duration_text d (tok semicolon e ∷ next))
  stmt_text (play w ps e) next = key Play w ∷ listed_text pitch_text ps (tok semicolon e ∷ next)
  stmt_text (rest w d e) next = key Rest w ∷ duration_text d (tok semicolon e ∷ next)
  stmt_text (skip w e) next = key Skip w ∷ tok semicolon e ∷ next
  stmt_text (control w n a e) next = key Control w ∷ num n ∷ amount_text a (tok semicolon e ∷ next)
  stmt_text (send s w a e) next = key (sending_word s) w ∷ amount_text a (tok semicolon e ∷ next)
  stmt_text (set w r l q x e) next =
      key Set w ∷ tok (Register r) l ∷ tok equals q ∷ expr_text x (tok semicolon e ∷ next)
  stmt_text (choice w x b o) next = key If w ∷ expr_text x (block_text b (else_text o next))
  stmt_text (repeat w n b) next = key Repeat w ∷ num n ∷ block_text b next
  stmt_text (again w o x c m n b) next =
      key Repeat w ∷ tok open_parenthesis o
      ∷ expr_text x (tok close_parenthesis c ∷ key Max m ∷ num n ∷ block_text b next)
  stmt_text (call w n e) next = key Do w ∷ tok Name n ∷ tok semicolon e ∷ next
  stmt_text (warp w n b) next = key Warp w ∷ tok Name n ∷ block_text b next
  stmt_text (par w o f b bs c) next =
      key Par w ∷ tok open_brace o ∷ key Branch f ∷ block_text b (branches_text bs (tok close_brace c ∷ next))
  stmt_text (scope s w n b) next = key (scoping_word s) w ∷ num n ∷ block_text b next
  stmt_text (rhythm w o ls c b) next =
      key Rhythm w ∷ tok open_bracket o ∷ listed_text length_text ls (tok close_bracket c ∷ block_text b next)
  stmt_text (cycling y w o ns c b) next =
      key (cycling_word y) w ∷ tok open_bracket o
      ∷ listed_text num_text ns (tok close_bracket c ∷ block_text b next)

-- entry
abbrev pub entry_text : EntryForm → List Lexed → List Lexed
entry_text (shape w n q ps e) next =
    key Shape w ∷ tok Name n ∷ tok equals q ∷ listed_text part_text ps (tok semicolon e ∷ next)
entry_text (phrase w n b) next = key Phrase w ∷ tok Name n ∷ block_text b next
entry_text (plays s) next = stmt_text s next

-- { entry }
abbrev pub entries_text : EntriesForm → List Lexed → List Lexed
entries_text no_entry next = next
entries_text (entry e es) next = entry_text e (entries_text es next)

-- [ "seed" NUMBER ";" ]
abbrev pub seed_text : SeedForm → List Lexed → List Lexed
seed_text no_seed next = next
seed_text (seed w n e) next = key Seed w ∷ num n ∷ tok semicolon e ∷ next

-- [ "division" NUMBER ";" ]
abbrev pub division_text : DivisionForm → List Lexed → List Lexed
division_text no_division next = next
division_text (division w n e) next = tok Name w ∷ num n ∷ tok semicolon e ∷ next

-- score
abbrev pub score_text : ScoreForm → List Lexed
score_text s =
    key Formula s.word ∷ num s.version ∷ tok semicolon s.ends
    ∷ division_text s.divided (seed_text s.seeded (entries_text s.entries (tok End s.last ∷ [])))
