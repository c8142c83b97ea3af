-- The tokens of statements and of a whole score fit their symbols.
use Rattle.std.proofs.Common.{◌≡◌, ◌+◌, ◌≤◌, Bool, true, false, List, [], ◌∷◌, ◌++◌, Some, refl, arith}
use Rattle.fm_lex.specs.Tokens.{Lexed}
use Rattle.fm_lex.specs.declared.kind.Kind.{Kind}
use Rattle.fm_lex.specs.declared.kind.Kind.TheVariants.{Name, Number, Register, End}
use Rattle.fm_lex.specs.declared.kind.Kind.TheVariants as kinds
use Rattle.fm_lex.specs.declared.keyword.Keyword.TheVariants.{Formula, Seed, Shape, Phrase, Note, Play, Rest, Skip, Control, Set, If, Else, Repeat, Max, Do, Par, Branch, Warp, Rhythm}
use Rattle.fm_grammar.specs.Score.{Leaf}
use Rattle.fm_grammar.specs.Grammar.{Sending, program, bend, Scoping, channel, volume, gate, Cycling, artic, loud, StmtsForm, no_stmt, stmt, BlockForm, block, ElseForm, no_else, otherwise, BranchesForm, no_branch, branch, StmtForm, note, play, rest, skip, control, send, set, choice, repeat, again, call, warp, par, scope, rhythm, cycling, shape, phrase, plays, EntriesForm, no_entry, entry, SeedForm, no_seed, seed, DivisionForm, no_division, division, ScoreForm}
use Rattle.fm_grammar.specs.Signs.{semicolon, open_brace, close_brace, open_parenthesis, close_parenthesis, open_bracket, close_bracket, equals, tok, key, num}
use Rattle.fm_grammar.specs.Spelling.{listed_text, num_text, length_text, part_text, expr_text, amount_text, duration_text, pitch_text, sending_word, scoping_word, cycling_word, stmts_text, block_text, else_text, branches_text, stmt_text, entries_text, seed_text, division_text, score_text}
use Rattle.fm_grammar.specs.Within.{Limits, expr_size, StmtsWithin, BlockWithin, ElseWithin, BranchesWithin, StmtWithin, EntriesWithin}
use Rattle.fm_grammar.specs.Rules.{Sym, one, Rule, any_number, any_register, kind_code, rules_of, inside}
use Rattle.fm_grammar.specs.Table.{taking, opened}
use Rattle.fm_grammar.specs.Rules as table
use Rattle.fm_grammar.proofs.Fits.{Derives}
use Rattle.fm_grammar.proofs.FromForms.{Anyhow, outer, skipped, fits_expr}
use Rattle.fm_grammar.proofs.FromValues.{fits_num, fits_outermost, fits_clamped, fits_amount, fits_duration, fits_pitches, fits_lengths, fits_numbers, fits_parts}

-- a symbol that has the rules of a statement, which it stands behind
pub record IsMain (next : Sym) : Type 0 where
  pub further : List Rule
  pub rules : rules_of next ≡ table.stmt_rules next further
  pub outside : inside next ≡ false

stmts_main : IsMain table.stmts
stmts_main = record { further = []; rules = refl; outside = refl }

entries_main : IsMain table.entries
entries_main = record { further = _; rules = refl; outside = refl }

sending_rule : (s : Sending) (next : Sym) (further : List Rule)
    → taking (kind_code (kinds.Keyword (sending_word s))) (table.stmt_rules next further)
    ≡ Some (table.amount ∷ one semicolon ∷ next ∷ [])
sending_rule program next further = refl
sending_rule bend next further = refl

scoping_rule : (s : Scoping) (next : Sym) (further : List Rule)
    → taking (kind_code (kinds.Keyword (scoping_word s))) (table.stmt_rules next further)
    ≡ Some (one any_number ∷ table.block (next ∷ []))
scoping_rule channel next further = refl
scoping_rule volume next further = refl
scoping_rule gate next further = refl

cycling_rule : (s : Cycling) (next : Sym) (further : List Rule)
    → taking (kind_code (kinds.Keyword (cycling_word s))) (table.stmt_rules next further)
    ≡ Some (one open_bracket ∷ table.with_commas table.numbers (one close_bracket ∷ table.block (next ∷ [])))
cycling_rule artic next further = refl
cycling_rule loud next further = refl

-- the word of a statement, by the rule that it has
word : (most : Limits) (next : Sym) (ss rhs : List Sym) (k : Kind) (l : Leaf) (w : List Lexed) (main : IsMain next)
    → taking (kind_code k) (table.stmt_rules next main.further) ≡ Some rhs → opened (next ∷ ss) ≤ most.braces
    → Derives most 0 (rhs ++ ss) w → Anyhow most (next ∷ ss) (tok k l ∷ w)
word most next ss rhs k l w main rule o d = let rules = main.rules in outer most next ss rhs k l w main.outside (rw rules rule) o d

-- a semicolon behind a statement
ended : (most : Limits) (e : Leaf) (ss : List Sym) (w : List Lexed) → opened ss ≤ most.braces → Anyhow most ss w
    → Anyhow most (one semicolon ∷ ss) (tok semicolon e ∷ w)
ended most e ss w o any = outer most (one semicolon) ss [] semicolon e w refl refl o (any 0 (omega arith))

mutual
  pub fits_stmts : (most : Limits) (c : StmtsForm) (ss : List Sym) (w : List Lexed) → StmtsWithin most (opened ss) c
      → opened ss ≤ most.braces → Anyhow most ss w → Anyhow most (table.stmts ∷ ss) (stmts_text c w)
  fits_stmts most no_stmt ss w small o any = skipped most table.stmts ss w refl refl refl any
  fits_stmts most (stmt s c) ss w small o any =
      fits_stmt most s table.stmts stmts_main ss (stmts_text c w) small.0 o (fits_stmts most c ss w small.1 o any)

  fits_block : (most : Limits) (b : BlockForm) (ss : List Sym) (w : List Lexed) → BlockWithin most (opened ss) b
      → opened ss ≤ most.braces → Anyhow most ss w → Anyhow most (table.block ss) (block_text b w)
  fits_block most (block p c q) ss w small o any =
      outer most (one open_brace) (table.stmts ∷ one close_brace ∷ ss) [] open_brace p (stmts_text c (tok close_brace q ∷ w)) refl refl o
      (fits_stmts most c (one close_brace ∷ ss) (tok close_brace q ∷ w) small.1 small.0
      (outer most (one close_brace) ss [] close_brace q w refl refl small.0 (any 0 (omega arith))) 0 (omega arith))

  fits_else : (most : Limits) (e : ElseForm) (ss : List Sym) (w : List Lexed) → ElseWithin most (opened ss) e
      → opened ss ≤ most.braces → Anyhow most ss w → Anyhow most (table.otherwise ∷ ss) (else_text e w)
  fits_else most no_else ss w small o any = skipped most table.otherwise ss w refl refl refl any
  fits_else most (otherwise p b) ss w small o any =
      outer most table.otherwise ss (table.block []) (kinds.Keyword Else) p (block_text b w) refl refl o
      (fits_block most b ss w small o any 0 (omega arith))

  fits_branches : (most : Limits) (bs : BranchesForm) (ss : List Sym) (w : List Lexed) → BranchesWithin most (opened ss) bs
      → opened ss ≤ most.braces → Anyhow most ss w → Anyhow most (table.branches ∷ ss) (branches_text bs w)
  fits_branches most no_branch ss w small o any = skipped most table.branches ss w refl refl refl any
  fits_branches most (branch p b bs) ss w small o any =
      outer most table.branches ss (table.block (table.branches ∷ [])) (kinds.Keyword Branch) p
      (block_text b (branches_text bs w)) refl refl o
      (fits_block most b (table.branches ∷ ss) (branches_text bs w) small.0 o (fits_branches most bs ss w small.1 o any) 0 (omega arith))

  fits_stmt : (most : Limits) (s : StmtForm) (next : Sym) (main : IsMain next) (ss : List Sym) (w : List Lexed)
      → StmtWithin most (opened (next ∷ ss)) s → opened (next ∷ ss) ≤ most.braces
      → Anyhow most (next ∷ ss) w → Anyhow most (next ∷ ss) (stmt_text s w)
  fits_stmt most (note p ps d e) next main ss w small o any =
      let after = tok semicolon e ∷ w in
      word most next ss (table.with_commas table.pitches (table.duration ∷ one semicolon ∷ next ∷ [])) (kinds.Keyword Note) p
      (listed_text pitch_text ps (duration_text d after)) main refl o
      (fits_pitches most ps (table.duration ∷ one semicolon ∷ next ∷ ss) (duration_text d after) small.0 o
      (fits_duration most d (one semicolon ∷ next ∷ ss) after small.1 o (ended most e (next ∷ ss) w o any)) 0 (omega arith))
  fits_stmt most (play p ps e) next main ss w small o any =
      word most next ss (table.with_commas table.pitches (one semicolon ∷ next ∷ [])) (kinds.Keyword Play) p
      (listed_text pitch_text ps (tok semicolon e ∷ w)) main refl o
      (fits_pitches most ps (one semicolon ∷ next ∷ ss) (tok semicolon e ∷ w) small o (ended most e (next ∷ ss) w o any) 0 (omega arith))
  fits_stmt most (rest p d e) next main ss w small o any =
      word most next ss (table.duration ∷ one semicolon ∷ next ∷ []) (kinds.Keyword Rest) p
      (duration_text d (tok semicolon e ∷ w)) main refl o
      (fits_duration most d (one semicolon ∷ next ∷ ss) (tok semicolon e ∷ w) small o (ended most e (next ∷ ss) w o any) 0 (omega arith))
  fits_stmt most (skip p e) next main ss w small o any =
      word most next ss (one semicolon ∷ next ∷ []) (kinds.Keyword Skip) p (tok semicolon e ∷ w) main refl o
      (ended most e (next ∷ ss) w o any 0 (omega arith))
  fits_stmt most (control p n a e) next main ss w small o any =
      word most next ss (one any_number ∷ table.amount ∷ one semicolon ∷ next ∷ []) (kinds.Keyword Control) p
      (num n ∷ amount_text a (tok semicolon e ∷ w)) main refl o
      (fits_num most n (table.amount ∷ one semicolon ∷ next ∷ ss) (amount_text a (tok semicolon e ∷ w)) o
      (fits_amount most a (one semicolon ∷ next ∷ ss) (tok semicolon e ∷ w) small o (ended most e (next ∷ ss) w o any)) 0 (omega arith))
  fits_stmt most (send s p a e) next main ss w small o any =
      word most next ss (table.amount ∷ one semicolon ∷ next ∷ []) (kinds.Keyword (sending_word s)) p
      (amount_text a (tok semicolon e ∷ w)) main (sending_rule s next main.further) o
      (fits_amount most a (one semicolon ∷ next ∷ ss) (tok semicolon e ∷ w) small o (ended most e (next ∷ ss) w o any) 0 (omega arith))
  fits_stmt most (set p r l q x e) next main ss w small o any =
      let value = expr_text x (tok semicolon e ∷ w) in
      word most next ss (one any_register ∷ one equals ∷ table.expr (one semicolon ∷ next ∷ [])) (kinds.Keyword Set) p
      (tok (Register r) l ∷ tok equals q ∷ value) main refl o
      (outer most (one any_register) (one equals ∷ table.expr (one semicolon ∷ next ∷ ss)) [] (Register r) l
      (tok equals q ∷ value) refl refl o
      (outer most (one equals) (table.expr (one semicolon ∷ next ∷ ss)) [] equals q value refl refl o
      (fits_outermost most x semicolon e (next ∷ ss) w small (ended most e (next ∷ ss) w o any)) 0 (omega arith)) 0 (omega arith))
  fits_stmt most (choice p x b e) next main ss w small o any =
      let body =
      fits_block most b (table.otherwise ∷ next ∷ ss) (else_text e w) small.1 o (fits_else most e (next ∷ ss) w small.2 o any) in
      word most next ss (table.expr (table.block (table.otherwise ∷ next ∷ []))) (kinds.Keyword If) p
      (expr_text x (block_text b (else_text e w))) main refl o
      (fits_expr most x 0 (table.block (table.otherwise ∷ next ∷ ss)) (block_text b (else_text e w))
      (body (0 + expr_size x) (omega (arith, small.0))))
  fits_stmt most (repeat p n b) next main ss w small o any =
      word most next ss (table.counted ∷ table.block (next ∷ [])) (kinds.Keyword Repeat) p (num n ∷ block_text b w) main refl o
      (outer most table.counted (table.block (next ∷ ss)) [] (Number n.value) n.leaf (block_text b w) refl refl o
      (fits_block most b (next ∷ ss) w small o any 0 (omega arith)) 0 (omega arith))
  fits_stmt most (again p q x c m n b) next main ss w small o any =
      let body = block_text b w in
      let count = expr_text x (tok close_parenthesis c ∷ key Max m ∷ num n ∷ body) in
      word most next ss (table.counted ∷ table.block (next ∷ [])) (kinds.Keyword Repeat) p (tok open_parenthesis q ∷ count) main refl o
      (outer most table.counted (table.block (next ∷ ss)) (table.with_most []) open_parenthesis q count refl refl o
      (fits_clamped most x c m n (table.block (next ∷ ss)) body small.0 o (fits_block most b (next ∷ ss) w small.1 o any)) 0
      (omega arith))
  fits_stmt most (call p n e) next main ss w small o any =
      word most next ss (one Name ∷ one semicolon ∷ next ∷ []) (kinds.Keyword Do) p (tok Name n ∷ tok semicolon e ∷ w) main refl o
      (outer most (one Name) (one semicolon ∷ next ∷ ss) [] Name n (tok semicolon e ∷ w) refl refl o
      (ended most e (next ∷ ss) w o any 0 (omega arith)) 0 (omega arith))
  fits_stmt most (warp p n b) next main ss w small o any =
      word most next ss (one Name ∷ table.block (next ∷ [])) (kinds.Keyword Warp) p (tok Name n ∷ block_text b w) main refl o
      (outer most (one Name) (table.block (next ∷ ss)) [] Name n (block_text b w) refl refl o
      (fits_block most b (next ∷ ss) w small o any 0 (omega arith)) 0 (omega arith))
  fits_stmt most (par p q f b bs c) next main ss w small o any =
      let inner_ss = table.branches ∷ one close_brace ∷ next ∷ ss in
      let ends = branches_text bs (tok close_brace c ∷ w) in
      word most next ss (one open_brace ∷ one (kinds.Keyword Branch) ∷ table.block (table.branches ∷ one close_brace ∷ next ∷ []))
      (kinds.Keyword Par) p
      (tok open_brace q ∷ key Branch f ∷ block_text b ends) main refl o
      (outer most (one open_brace) (one (kinds.Keyword Branch) ∷ table.block inner_ss) [] open_brace q
      (key Branch f ∷ block_text b ends) refl refl o
      (outer most (one (kinds.Keyword Branch)) (table.block inner_ss) [] (kinds.Keyword Branch) f (block_text b ends) refl refl small.0
      (fits_block most b inner_ss ends small.1 small.0
      (fits_branches most bs (one close_brace ∷ next ∷ ss) (tok close_brace c ∷ w) small.2 small.0
      (outer most (one close_brace) (next ∷ ss) [] close_brace c w refl refl small.0 (any 0 (omega arith)))) 0 (omega arith)) 0
      (omega arith)) 0 (omega arith))
  fits_stmt most (scope s p n b) next main ss w small o any =
      word most next ss (one any_number ∷ table.block (next ∷ [])) (kinds.Keyword (scoping_word s)) p (num n ∷ block_text b w) main
      (scoping_rule s next main.further) o
      (fits_num most n (table.block (next ∷ ss)) (block_text b w) o (fits_block most b (next ∷ ss) w small o any) 0 (omega arith))
  fits_stmt most (rhythm p q ls c b) next main ss w small o any =
      let after = one close_bracket ∷ table.block (next ∷ ss) in
      let ends = tok close_bracket c ∷ block_text b w in
      word most next ss (one open_bracket ∷ table.with_commas table.lengths (one close_bracket ∷ table.block (next ∷ [])))
      (kinds.Keyword Rhythm) p
      (tok open_bracket q ∷ listed_text length_text ls ends) main refl o
      (outer most (one open_bracket) (table.with_commas table.lengths after) [] open_bracket q
      (listed_text length_text ls ends) refl refl o
      (fits_lengths most ls after ends o
      (outer most (one close_bracket) (table.block (next ∷ ss)) [] close_bracket c (block_text b w) refl refl o
      (fits_block most b (next ∷ ss) w small o any 0 (omega arith))) 0 (omega arith)) 0 (omega arith))
  fits_stmt most (cycling y p q ns c b) next main ss w small o any =
      let after = one close_bracket ∷ table.block (next ∷ ss) in
      let ends = tok close_bracket c ∷ block_text b w in
      word most next ss (one open_bracket ∷ table.with_commas table.numbers (one close_bracket ∷ table.block (next ∷ [])))
      (kinds.Keyword (cycling_word y)) p
      (tok open_bracket q ∷ listed_text num_text ns ends) main (cycling_rule y next main.further) o
      (outer most (one open_bracket) (table.with_commas table.numbers after) [] open_bracket q (listed_text num_text ns ends) refl refl o
      (fits_numbers most ns after ends o
      (outer most (one close_bracket) (table.block (next ∷ ss)) [] close_bracket c (block_text b w) refl refl o
      (fits_block most b (next ∷ ss) w small o any 0 (omega arith))) 0 (omega arith)) 0 (omega arith))

-- ---- a whole score

-- the end behind the entries
abbrev ends : List Sym
ends = one End ∷ []

fits_entries : (most : Limits) (es : EntriesForm) (w : List Lexed) → EntriesWithin most es → Anyhow most ends w
    → Anyhow most (table.entries ∷ ends) (entries_text es w)
fits_entries most no_entry w small any = skipped most table.entries ends w refl refl refl any
fits_entries most (entry (shape p n q ps e) es) w small any =
    let on = fits_entries most es w small.1 any in
    let after = listed_text part_text ps (tok semicolon e ∷ entries_text es w) in
    let rest_ss = table.with_commas table.parts (one semicolon ∷ table.entries ∷ ends) in
    outer most table.entries ends (one Name ∷ one equals ∷ table.with_commas table.parts (one semicolon ∷ table.entries ∷ []))
    (kinds.Keyword Shape) p
    (tok Name n ∷ tok equals q ∷ after) refl refl (omega arith)
    (outer most (one Name) (one equals ∷ rest_ss) [] Name n (tok equals q ∷ after) refl refl (omega arith)
    (outer most (one equals) rest_ss [] equals q after refl refl (omega arith)
    (fits_parts most ps (one semicolon ∷ table.entries ∷ ends) (tok semicolon e ∷ entries_text es w) (omega arith)
    (ended most e (table.entries ∷ ends) (entries_text es w) (omega arith) on) 0 (omega arith)) 0 (omega arith)) 0 (omega arith))
fits_entries most (entry (phrase p n b) es) w small any =
    let on = fits_entries most es w small.1 any in
    outer most table.entries ends (one Name ∷ table.block (table.entries ∷ [])) (kinds.Keyword Phrase) p
    (tok Name n ∷ block_text b (entries_text es w)) refl refl (omega arith)
    (outer most (one Name) (table.block (table.entries ∷ ends)) [] Name n (block_text b (entries_text es w)) refl refl (omega arith)
    (fits_block most b (table.entries ∷ ends) (entries_text es w) small.0 (omega arith) on 0 (omega arith)) 0 (omega arith))
fits_entries most (entry (plays s) es) w small any =
    fits_stmt most s table.entries entries_main ends (entries_text es w) small.0 (omega arith) (fits_entries most es w small.1 any)

fits_seed : (most : Limits) (s : SeedForm) (ss : List Sym) (w : List Lexed) → opened ss ≤ most.braces → Anyhow most ss w
    → Anyhow most (table.seeded ∷ ss) (seed_text s w)
fits_seed most no_seed ss w o any = skipped most table.seeded ss w refl refl refl any
fits_seed most (seed p n e) ss w o any =
    outer most table.seeded ss (one any_number ∷ one semicolon ∷ []) (kinds.Keyword Seed) p (num n ∷ tok semicolon e ∷ w) refl refl o
    (fits_num most n (one semicolon ∷ ss) (tok semicolon e ∷ w) o (ended most e ss w o any) 0 (omega arith))

-- whether a form states its division
abbrev pub states_division : DivisionForm → Bool
states_division no_division = false
states_division (division w n e) = true

fits_division : (most : Limits) (d : DivisionForm) (w : List Lexed) → Anyhow most table.undivided w
    → Anyhow most (table.behind_version (states_division d)) (division_text d w)
fits_division most no_division w any = any
fits_division most (division p n e) w any =
    outer most (one Name) (one any_number ∷ one semicolon ∷ table.undivided) [] Name p (num n ∷ tok semicolon e ∷ w) refl refl
    (omega arith)
    (fits_num most n (one semicolon ∷ table.undivided) (tok semicolon e ∷ w) (omega arith)
    (ended most e table.undivided w (omega arith) any) 0 (omega arith))

-- no brace is open behind the version
pub none_opened : (divided : Bool) → opened (table.behind_version divided) ≡ 0
none_opened true = refl
none_opened false = refl

-- the tokens of a score fit the symbols of a whole text
pub fits_score : (most : Limits) (s : ScoreForm) → EntriesWithin most s.entries
    → Derives most 0 (table.whole (states_division s.divided)) (score_text s)
fits_score most s small =
    let divided = states_division s.divided in
    let none : opened (table.behind_version divided) ≤ most.braces = omega (arith, none_opened divided) in
    let nothing : Anyhow most [] [] = λ u count. record { steps = 1; fits = (refl, count) } in
    let last : Anyhow most ends (tok End s.last ∷ []) =
    outer most (one End) [] [] End s.last [] refl refl (omega arith) (nothing 0 (omega arith)) in
    let entries_on = fits_entries most s.entries (tok End s.last ∷ []) small last in
    let text = entries_text s.entries (tok End s.last ∷ []) in
    let seed_on = fits_seed most s.seeded (table.entries ∷ ends) text (omega arith) entries_on in
    let division_on = fits_division most s.divided (seed_text s.seeded text) seed_on in
    let behind = division_text s.divided (seed_text s.seeded text) in
    outer most (one (kinds.Keyword Formula)) (one any_number ∷ one semicolon ∷ table.behind_version divided) []
    (kinds.Keyword Formula) s.word
    (num s.version ∷ tok semicolon s.ends ∷ behind) refl refl none
    (fits_num most s.version (one semicolon ∷ table.behind_version divided) (tok semicolon s.ends ∷ behind) none
    (ended most s.ends (table.behind_version divided) behind none division_on) 0 (omega arith)) 0 (omega arith)
