-- Each score is the only one of its tokens.
use Rattle.std.proofs.Common.{◌≡◌, ℕ, ◌||◌, List, [], ◌∷◌, refl, sym, ap, arith, true, false, Bool}
use Rattle.fm_lex.specs.Bytes.{one_of}
use Rattle.fm_lex.specs.Tokens.{Lexed}
use Rattle.fm_lex.specs.declared.kind.Kind.TheVariants.{Name, End}
use Rattle.fm_lex.specs.declared.kind.Kind.TheVariants as kinds
use Rattle.fm_lex.specs.declared.keyword.Keyword.TheVariants.{Formula, Seed, Shape, Phrase}
use Rattle.fm_grammar.specs.Score.{Leaf}
use Rattle.fm_grammar.specs.Grammar.{NumForm, EntryForm, shape, phrase, plays, EntriesForm, no_entry, entry, SeedForm, no_seed, seed, DivisionForm, no_division, division, ScoreForm}
use Rattle.fm_grammar.specs.Signs.{semicolon, equals, tok}
use Rattle.fm_grammar.specs.Spelling.{part_text, entry_text, entries_text, seed_text, division_text, score_text}
use Rattle.fm_grammar.specs.Rules.{kind_code}
use Rattle.std.specs.Prelude.{not}
use Rattle.fm_grammar.proofs.Followers.{each_of}
use Rattle.fm_grammar.proofs.Unique.{first_code, Agree, differ, same_leaf, same_rest, Apart, clash}
use Rattle.fm_grammar.proofs.UniqueValues.{unique_num, unique_part, unique_listed}
use Rattle.fm_grammar.proofs.UniqueWords.{stmt_words, stmt_begins, elses, not_true, stmt_no_else}
use Rattle.fm_grammar.proofs.UniqueStatements.{unique_stmt, unique_block}

-- ---- a whole score

-- what begins no entry, no second block and no seed
abbrev entry_words : List ℕ
entry_words = kind_code (kinds.Keyword Shape) ∷ kind_code (kinds.Keyword Phrase) ∷ stmt_words

unique_entry : (x y : EntryForm) (u v : List Lexed) → Apart elses u → Apart elses v → entry_text x u ≡ entry_text y v → Agree x y u v
unique_entry (shape w n k ps e) (shape x m j qs g) u v p q same =
    let word : w ≡ x = same_leaf (kinds.Keyword Shape) (kinds.Keyword Shape) w x _ _ same in
    let behind = same_rest _ _ _ _ same in
    let name : n ≡ m = same_leaf Name Name n m _ _ behind in
    let equation = same_rest _ _ _ _ behind in
    let sign : k ≡ j = same_leaf equals equals k j _ _ equation in
    let lists =
    unique_listed part_text unique_part ps qs (tok semicolon e ∷ u) (tok semicolon g ∷ v) refl refl (same_rest _ _ _ _ equation) in
    let ends : e ≡ g = same_leaf semicolon semicolon e g u v lists.rests in
    record { forms = cc; rests = same_rest _ _ u v lists.rests }
unique_entry (phrase w n b) (phrase x m c) u v p q same =
    let word : w ≡ x = same_leaf (kinds.Keyword Phrase) (kinds.Keyword Phrase) w x _ _ same in
    let behind = same_rest _ _ _ _ same in
    let name : n ≡ m = same_leaf Name Name n m _ _ behind in
    let blocks = unique_block b c u v (same_rest _ _ _ _ behind) in
    record { forms = cc; rests = blocks.rests }
unique_entry (plays s) (plays r) u v p q same = let stmts = unique_stmt s r u v p q same in
    record { forms = ap plays stmts.forms; rests = stmts.rests }
unique_entry (shape w n k ps e) (plays r) u v p q same = clash stmt_words (entry_text (shape w n k ps e) u) _ refl same (stmt_begins r v)
unique_entry (phrase w n b) (plays r) u v p q same = clash stmt_words (entry_text (phrase w n b) u) _ refl same (stmt_begins r v)
unique_entry (plays s) (shape w n k ps e) u v p q same =
    clash stmt_words (entry_text (shape w n k ps e) v) _ refl (sym same) (stmt_begins s u)
unique_entry (plays s) (phrase w n b) u v p q same = clash stmt_words (entry_text (phrase w n b) v) _ refl (sym same) (stmt_begins s u)
unique_entry x y u v p q same = differ _ _ same (λ codes. omega (arith, codes))

or_true : (a b : Bool) → b ≡ true → (a || b) ≡ true
or_true true b is = refl
or_true false b is = is

entry_begins : (e : EntryForm) (u : List Lexed) → one_of (first_code (entry_text e u)) entry_words ≡ true
entry_begins (shape w n k ps e) u = refl
entry_begins (phrase w n b) u = refl
entry_begins (plays s) u = or_true _ _ (or_true _ _ (stmt_begins s u))

-- the end of a text
abbrev pub finish : Leaf → List Lexed
finish l = tok End l ∷ []

entries_no_else : (es : EntriesForm) (l : Leaf) → Apart elses (entries_text es (finish l))
entries_no_else no_entry l = refl
entries_no_else (entry (shape w n k ps e) es) l = refl
entries_no_else (entry (phrase w n b) es) l = refl
entries_no_else (entry (plays s) es) l = stmt_no_else s (entries_text es (finish l))

unique_entries : (x y : EntriesForm) (l m : Leaf) → entries_text x (finish l) ≡ entries_text y (finish m)
    → Agree x y (finish l) (finish m)
unique_entries no_entry no_entry l m same = record { forms = refl; rests = same }
unique_entries no_entry (entry e es) l m same = clash entry_words (finish l) _ refl same (entry_begins e _)
unique_entries (entry e es) no_entry l m same = clash entry_words (finish m) _ refl (sym same) (entry_begins e _)
unique_entries (entry e es) (entry f fs) l m same =
    let first = unique_entry e f _ _ (entries_no_else es l) (entries_no_else fs m) same in
    let later = unique_entries es fs l m first.rests in
    record { forms = cc; rests = later.rests }

-- the word of a seed
abbrev seeds : List ℕ
seeds = kind_code (kinds.Keyword Seed) ∷ []

entries_no_seed : (es : EntriesForm) (l : Leaf) → Apart seeds (entries_text es (finish l))
entries_no_seed no_entry l = refl
entries_no_seed (entry e es) l =
    not_true _ (each_of (λ code. not (one_of code seeds)) (first_code (entry_text e (entries_text es (finish l)))) entry_words refl
    (entry_begins e (entries_text es (finish l))))

unique_seed : (x y : SeedForm) (u v : List Lexed) → Apart seeds u → Apart seeds v → seed_text x u ≡ seed_text y v → Agree x y u v
unique_seed no_seed no_seed u v p q same = record { forms = refl; rests = same }
unique_seed no_seed (seed w n e) u v p q same = clash seeds u _ p same refl
unique_seed (seed w n e) no_seed u v p q same = clash seeds v _ q (sym same) refl
unique_seed (seed w n e) (seed x m g) u v p q same =
    let word : w ≡ x = same_leaf (kinds.Keyword Seed) (kinds.Keyword Seed) w x _ _ same in
    let numbers = unique_num n m _ _ (same_rest _ _ _ _ same) in
    let ends : e ≡ g = same_leaf semicolon semicolon e g u v numbers.rests in
    record { forms = cc; rests = same_rest _ _ u v numbers.rests }

-- a name
abbrev pub names : List ℕ
names = kind_code Name ∷ []

-- neither a seed nor an entry begins with a name
pub no_name : (s : SeedForm) (es : EntriesForm) (l : Leaf) → Apart names (seed_text s (entries_text es (finish l)))
no_name (seed w n e) es l = refl
no_name no_seed no_entry l = refl
no_name no_seed (entry e es) l =
    not_true _ (each_of (λ code. not (one_of code names)) (first_code (entry_text e (entries_text es (finish l)))) entry_words refl
    (entry_begins e (entries_text es (finish l))))

unique_division : (x y : DivisionForm) (u v : List Lexed) → Apart names u → Apart names v → division_text x u ≡ division_text y v
    → Agree x y u v
unique_division no_division no_division u v p q same = record { forms = refl; rests = same }
unique_division no_division (division w n e) u v p q same = clash names u _ p same refl
unique_division (division w n e) no_division u v p q same = clash names v _ q (sym same) refl
unique_division (division w n e) (division x m g) u v p q same =
    let word : w ≡ x = same_leaf Name Name w x _ _ same in
    let numbers = unique_num n m _ _ (same_rest _ _ _ _ same) in
    let ends : e ≡ g = same_leaf semicolon semicolon e g u v numbers.rests in
    record { forms = cc; rests = same_rest _ _ u v numbers.rests }

abbrev score_form : Leaf → NumForm → Leaf → DivisionForm → SeedForm → EntriesForm → Leaf → ScoreForm
score_form w v e d s es l =
    record { word = w; version = v; ends = e; divided = d; seeded = s; entries = es; last = l }

score_same : (w x : Leaf) (v n : NumForm) (e g : Leaf) (d c : DivisionForm) (s r : SeedForm) (es fs : EntriesForm) (l m : Leaf)
    → w ≡ x → v ≡ n → e ≡ g → d ≡ c → s ≡ r → es ≡ fs → l ≡ m → score_form w v e d s es l ≡ score_form x n g c r fs m
score_same w x v n e g d c s r es fs l m words versions ends divisions seeds_of entries lasts = cc

-- a text is the text of one form at most
pub unique_score : (x y : ScoreForm) → score_text x ≡ score_text y → x ≡ y
unique_score x y same =
    let word : x.word ≡ y.word = same_leaf (kinds.Keyword Formula) (kinds.Keyword Formula) x.word y.word _ _ same in
    let version = unique_num x.version y.version _ _ (same_rest _ _ _ _ same) in
    let ends : x.ends ≡ y.ends = same_leaf semicolon semicolon x.ends y.ends _ _ version.rests in
    let divided = unique_division x.divided y.divided _ _ (no_name x.seeded x.entries x.last) (no_name y.seeded y.entries y.last)
    (same_rest _ _ _ _ version.rests) in
    let seeded = unique_seed x.seeded y.seeded (entries_text x.entries (finish x.last)) (entries_text y.entries (finish y.last))
    (entries_no_seed x.entries x.last) (entries_no_seed y.entries y.last) divided.rests in
    let entries = unique_entries x.entries y.entries x.last y.last seeded.rests in
    let last : x.last ≡ y.last = same_leaf End End x.last y.last [] [] entries.rests in
    score_same x.word y.word x.version y.version x.ends y.ends x.divided y.divided x.seeded y.seeded x.entries y.entries
    x.last y.last word version.forms ends divided.forms seeded.forms entries.forms last
