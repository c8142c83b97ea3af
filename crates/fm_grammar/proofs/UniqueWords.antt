-- Which form of a statement its tokens begin, and what may not come behind a sequence.
use Rattle.std.proofs.Common.{◌≡◌, ℕ, ◌||◌, List, [], ◌∷◌, refl, sym, ap, ◌∙◌, arith, true, false, Bool}
use Rattle.std.specs.Prelude.{if◌then◌else◌, ◌==◌}
use Rattle.fm_lex.specs.Bytes.{one_of}
use Rattle.fm_lex.specs.Tokens.{Lexed}
use Rattle.fm_lex.specs.declared.kind.Kind.TheVariants as kinds
use Rattle.fm_lex.specs.declared.keyword.Keyword.TheVariants.{Note, Play, Rest, Skip, Control, Program, Bend, Set, If, Else, Repeat, Do, Par, Branch, Warp, Channel, Volume, Gate, Rhythm, Artic, Loud}
use Rattle.fm_grammar.specs.Grammar.{Sending, program, bend, Scoping, channel, volume, gate, Cycling, artic, loud, StmtsForm, no_stmt, stmt, StmtForm, note, play, rest, skip, control, send, set, choice, repeat, again, call, warp, par, scope, rhythm, cycling}
use Rattle.fm_grammar.specs.Spelling.{sending_word, scoping_word, cycling_word, stmts_text, stmt_text}
use Rattle.fm_grammar.specs.Rules.{kind_code, any_number}
use Rattle.std.specs.Prelude.{not}
use Rattle.fm_grammar.proofs.Followers.{each_of}
use Rattle.fm_grammar.proofs.Unique.{first_code, Apart}

-- ---- which form of a statement

-- a number for each form
abbrev pub tag : StmtForm → ℕ
tag (note w ps d e) = 0
tag (play w ps e) = 1
tag (rest w d e) = 2
tag (skip w e) = 3
tag (control w n a e) = 4
tag (send s w a e) = 5
tag (set w r l q x e) = 6
tag (choice w x b o) = 7
tag (repeat w n b) = 8
tag (again w o x c m n b) = 9
tag (call w n e) = 10
tag (warp w n b) = 11
tag (par w o f b bs c) = 12
tag (scope s w n b) = 13
tag (rhythm w o ls c b) = 14
tag (cycling y w o ns c b) = 15

abbrev pub tag_at : ℕ → ℕ → ℕ
tag_at code second =
    if code == kind_code (kinds.Keyword Note) then 0
    else if code == kind_code (kinds.Keyword Play) then 1
    else if code == kind_code (kinds.Keyword Rest) then 2
    else if code == kind_code (kinds.Keyword Skip) then 3
    else if code == kind_code (kinds.Keyword Control) then 4
    else if code == kind_code (kinds.Keyword Program) then 5
    else if code == kind_code (kinds.Keyword Bend) then 5
    else if code == kind_code (kinds.Keyword Set) then 6
    else if code == kind_code (kinds.Keyword If) then 7
    else if code == kind_code (kinds.Keyword Repeat) then (if second == kind_code any_number then 8 else 9)
    else if code == kind_code (kinds.Keyword Do) then 10
    else if code == kind_code (kinds.Keyword Warp) then 11
    else if code == kind_code (kinds.Keyword Par) then 12
    else if code == kind_code (kinds.Keyword Channel) then 13
    else if code == kind_code (kinds.Keyword Volume) then 13
    else if code == kind_code (kinds.Keyword Gate) then 13
    else if code == kind_code (kinds.Keyword Rhythm) then 14
    else if code == kind_code (kinds.Keyword Artic) then 15
    else if code == kind_code (kinds.Keyword Loud) then 15
    else 16

-- the tokens behind the first one
abbrev pub behind_first : List Lexed → List Lexed
behind_first [] = []
behind_first (t ∷ ts) = ts

tag_first : (s : StmtForm) (u : List Lexed) → tag_at (first_code (stmt_text s u)) (first_code (behind_first (stmt_text s u))) ≡ tag s
tag_first (note w ps d e) u = refl
tag_first (play w ps e) u = refl
tag_first (rest w d e) u = refl
tag_first (skip w e) u = refl
tag_first (control w n a e) u = refl
tag_first (send program w a e) u = refl
tag_first (send bend w a e) u = refl
tag_first (set w r l q x e) u = refl
tag_first (choice w x b o) u = refl
tag_first (repeat w n b) u = refl
tag_first (again w o x c m n b) u = refl
tag_first (call w n e) u = refl
tag_first (warp w n b) u = refl
tag_first (par w o f b bs c) u = refl
tag_first (scope channel w n b) u = refl
tag_first (scope volume w n b) u = refl
tag_first (scope gate w n b) u = refl
tag_first (rhythm w o ls c b) u = refl
tag_first (cycling artic w o ns c b) u = refl
tag_first (cycling loud w o ns c b) u = refl

-- equal texts are texts of one form
pub same_tag : (s r : StmtForm) (u v : List Lexed) → stmt_text s u ≡ stmt_text r v → tag s ≡ tag r
same_tag s r u v same =
    sym (tag_first s u) ∙ ap (λ (x : List Lexed). tag_at (first_code x) (first_code (behind_first x))) same ∙ tag_first r v

-- equal words of sending
pub same_sending : (s r : Sending) → kinds.Keyword (sending_word s) ≡ kinds.Keyword (sending_word r) → s ≡ r
same_sending program program same = refl
same_sending bend bend same = refl
same_sending s r same = absurd (omega (arith, ap kind_code same))

-- of a block with a number
pub same_scoping : (s r : Scoping) → kinds.Keyword (scoping_word s) ≡ kinds.Keyword (scoping_word r) → s ≡ r
same_scoping channel channel same = refl
same_scoping volume volume same = refl
same_scoping gate gate same = refl
same_scoping s r same = absurd (omega (arith, ap kind_code same))

-- and of a block with a list
pub same_cycling : (s r : Cycling) → kinds.Keyword (cycling_word s) ≡ kinds.Keyword (cycling_word r) → s ≡ r
same_cycling artic artic same = refl
same_cycling loud loud same = refl
same_cycling s r same = absurd (omega (arith, ap kind_code same))

-- ---- what begins behind a sequence

-- the words of statements
abbrev pub stmt_words : List ℕ
stmt_words =
    kind_code (kinds.Keyword Note) ∷ kind_code (kinds.Keyword Play) ∷ kind_code (kinds.Keyword Rest) ∷ kind_code (kinds.Keyword Skip)
    ∷ kind_code (kinds.Keyword Control) ∷ kind_code (kinds.Keyword Program) ∷ kind_code (kinds.Keyword Bend) ∷ kind_code
    (kinds.Keyword Set)
    ∷ kind_code (kinds.Keyword If) ∷ kind_code (kinds.Keyword Repeat) ∷ kind_code (kinds.Keyword Do) ∷ kind_code (kinds.Keyword Warp)
    ∷ kind_code (kinds.Keyword Par) ∷ kind_code (kinds.Keyword Channel) ∷ kind_code (kinds.Keyword Volume) ∷ kind_code
    (kinds.Keyword Gate)
    ∷ kind_code (kinds.Keyword Rhythm) ∷ kind_code (kinds.Keyword Artic) ∷ kind_code (kinds.Keyword Loud) ∷ []

-- a statement begins with one of its words
pub stmt_begins : (s : StmtForm) (u : List Lexed) → one_of (first_code (stmt_text s u)) stmt_words ≡ true
stmt_begins (note w ps d e) u = refl
stmt_begins (play w ps e) u = refl
stmt_begins (rest w d e) u = refl
stmt_begins (skip w e) u = refl
stmt_begins (control w n a e) u = refl
stmt_begins (send program w a e) u = refl
stmt_begins (send bend w a e) u = refl
stmt_begins (set w r l q x e) u = refl
stmt_begins (choice w x b o) u = refl
stmt_begins (repeat w n b) u = refl
stmt_begins (again w o x c m n b) u = refl
stmt_begins (call w n e) u = refl
stmt_begins (warp w n b) u = refl
stmt_begins (par w o f b bs c) u = refl
stmt_begins (scope channel w n b) u = refl
stmt_begins (scope volume w n b) u = refl
stmt_begins (scope gate w n b) u = refl
stmt_begins (rhythm w o ls c b) u = refl
stmt_begins (cycling artic w o ns c b) u = refl
stmt_begins (cycling loud w o ns c b) u = refl

-- the word before a second block, and that of a branch
abbrev pub elses : List ℕ
elses = kind_code (kinds.Keyword Else) ∷ []

-- the word of a branch
abbrev pub branch_words : List ℕ
branch_words = kind_code (kinds.Keyword Branch) ∷ []

-- neither else nor the word of a statement
abbrev pub seconds : List ℕ
seconds = kind_code (kinds.Keyword Else) ∷ stmt_words

or_left : (a b : Bool) → (a || b) ≡ false → a ≡ false
or_left false b none = refl
or_left true b none = cc

or_right : (a b : Bool) → (a || b) ≡ false → b ≡ false
or_right false b none = none
or_right true b none = cc

-- what begins neither begins no statement
pub no_word : (u : List Lexed) → Apart seconds u → Apart stmt_words u
no_word u apart = or_right _ _ apart

-- and no second block
pub no_second : (u : List Lexed) → Apart seconds u → Apart elses u
no_second u apart = or_both _ (or_left _ _ apart)
  where
    or_both : (a : Bool) → a ≡ false → (a || false) ≡ false
    or_both false none = refl
    or_both true none = cc

-- what is not true is false
pub not_true : (b : Bool) → not b ≡ true → b ≡ false
not_true true is = sym is
not_true false is = refl

-- a statement begins with no second word of another one
pub stmt_no_else : (s : StmtForm) (u : List Lexed) → Apart elses (stmt_text s u)
stmt_no_else s u = not_true _ (each_of (λ code. not (one_of code elses)) (first_code (stmt_text s u)) stmt_words refl (stmt_begins s u))

-- nor do statements
pub stmts_no_else : (c : StmtsForm) (u : List Lexed) → Apart seconds u → Apart elses (stmts_text c u)
stmts_no_else no_stmt u apart = no_second u apart
stmts_no_else (stmt s c) u apart = stmt_no_else s (stmts_text c u)
