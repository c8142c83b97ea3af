-- The rules of statements, by the words that begin them.
use Rattle.std.proofs.Common.{◌≡◌, ℕ, ◌+◌, ◌*◌, Bool, true, false, cond, List, [], ◌∷◌, ◌++◌, Some, None, refl, ap, ◌∙◌, arith, rules}
use Rattle.std.specs.Prelude.{◌==◌, ◌≢◌}
use Rattle.std.proofs.lemmas.Bool.Decides.{nat_tests}
use Rattle.fm_lex.specs.declared.kind.Kind.{Kind}
use Rattle.fm_lex.specs.declared.kind.Kind.TheVariants.{Name, Number, Pitch, Register, Index, Symbol, End}
use Rattle.fm_lex.specs.declared.kind.Kind.TheVariants as kinds
use Rattle.fm_lex.specs.declared.keyword.Keyword.{Keyword}
use Rattle.fm_lex.specs.declared.keyword.Keyword.TheVariants.{Note, Play, Rest, Skip, Control, Program, Bend, Set, If, Repeat, Do, Warp, Par, Channel, Volume, Gate, Rhythm, Artic, Loud, Shape, Phrase}
use Rattle.fm_grammar.specs.Signs.{semicolon, equals}
use Rattle.fm_grammar.specs.Rules.{Sym, one, entries, parts, with_commas, block, Rule, rule_at, kind_code, keyword_code, stmt_rules}
use Rattle.fm_grammar.specs.Table.{taking}
use Rattle.fm_parse.specs.Statements.{begins, starter, stmt_rest}

-- the rules of entries that are no statements
abbrev pub definitions : List Rule
definitions =
    rule_at (kinds.Keyword Shape) (one Name ∷ one equals ∷ with_commas parts (one semicolon ∷ entries ∷ []))
    ∷ rule_at (kinds.Keyword Phrase) (one Name ∷ block (entries ∷ [])) ∷ []

-- the word of a statement takes its rule
pub stmt_rule : (s : Sym) (further : List Rule) (w : Keyword) → begins w ≡ true
    → taking (kind_code (kinds.Keyword w)) (stmt_rules s further) ≡ Some (stmt_rest w ++ s ∷ [])
stmt_rule s further Note b = refl
stmt_rule s further Play b = refl
stmt_rule s further Rest b = refl
stmt_rule s further Skip b = refl
stmt_rule s further Control b = refl
stmt_rule s further Program b = refl
stmt_rule s further Bend b = refl
stmt_rule s further Set b = refl
stmt_rule s further If b = refl
stmt_rule s further Repeat b = refl
stmt_rule s further Do b = refl
stmt_rule s further Warp b = refl
stmt_rule s further Par b = refl
stmt_rule s further Channel b = refl
stmt_rule s further Volume b = refl
stmt_rule s further Gate b = refl
stmt_rule s further Rhythm b = refl
stmt_rule s further Artic b = refl
stmt_rule s further Loud b = refl
stmt_rule s further w b = absurd (cc b)

-- ---- where no word of a statement stands

abbrev is_word : Kind → Bool
is_word (kinds.Keyword w) = true
is_word k = false

-- rules that begin with words
abbrev pub Worded : List Rule → Type 0
Worded [] = Unit {0}
Worded (r ∷ rs) = (is_word r.first ≡ true) × Worded rs

-- a number that is no word's
abbrev pub NoWord : ℕ → Type 0
NoWord code = (w : Keyword) → (kind_code (kinds.Keyword w) == code) ≡ false

not_first : (k : Kind) (code : ℕ) → NoWord code → is_word k ≡ true → (kind_code k == code) ≡ false
not_first (kinds.Keyword w) code apart is = apart w
not_first k code apart is = absurd (cc is)

pub skips_words : (code : ℕ) (front further : List Rule) → NoWord code → Worded front
    → taking code (front ++ further) ≡ taking code further
skips_words code [] further apart words = refl
skips_words code (r ∷ rs) further apart words =
    ap (λ b. cond b (Some r.next) (taking code (rs ++ further))) (not_first r.first code apart words.0)
    ∙ skips_words code rs further apart words.1

codes_apart : (c b : ℕ) → (10 + 2 * c == 11 + 2 * b) ≡ false
codes_apart c b = grind (arith, nat_tests)

pub symbol_apart : (b : ℕ) → NoWord (kind_code (Symbol b))
symbol_apart b w = codes_apart (keyword_code w) b

-- without a word of a statement only further rules are left
pub no_stmt_rule : (s : Sym) (further : List Rule) (k : Kind) → starter k ≡ None
    → taking (kind_code k) (stmt_rules s further) ≡ taking (kind_code k) further
no_stmt_rule s further Name none = refl
no_stmt_rule s further (Number n) none = refl
no_stmt_rule s further (Pitch n) none = refl
no_stmt_rule s further (Register n) none = refl
no_stmt_rule s further (Index n) none = refl
no_stmt_rule s further End none = refl
no_stmt_rule s further (Symbol b) none =
    skips_words (kind_code (Symbol b)) (stmt_rules s []) further (symbol_apart b) (search rules)
no_stmt_rule s further (kinds.Keyword Note) none = absurd (cc none)
no_stmt_rule s further (kinds.Keyword Play) none = absurd (cc none)
no_stmt_rule s further (kinds.Keyword Rest) none = absurd (cc none)
no_stmt_rule s further (kinds.Keyword Skip) none = absurd (cc none)
no_stmt_rule s further (kinds.Keyword Control) none = absurd (cc none)
no_stmt_rule s further (kinds.Keyword Program) none = absurd (cc none)
no_stmt_rule s further (kinds.Keyword Bend) none = absurd (cc none)
no_stmt_rule s further (kinds.Keyword Set) none = absurd (cc none)
no_stmt_rule s further (kinds.Keyword If) none = absurd (cc none)
no_stmt_rule s further (kinds.Keyword Repeat) none = absurd (cc none)
no_stmt_rule s further (kinds.Keyword Do) none = absurd (cc none)
no_stmt_rule s further (kinds.Keyword Warp) none = absurd (cc none)
no_stmt_rule s further (kinds.Keyword Par) none = absurd (cc none)
no_stmt_rule s further (kinds.Keyword Channel) none = absurd (cc none)
no_stmt_rule s further (kinds.Keyword Volume) none = absurd (cc none)
no_stmt_rule s further (kinds.Keyword Gate) none = absurd (cc none)
no_stmt_rule s further (kinds.Keyword Rhythm) none = absurd (cc none)
no_stmt_rule s further (kinds.Keyword Artic) none = absurd (cc none)
no_stmt_rule s further (kinds.Keyword Loud) none = absurd (cc none)
no_stmt_rule s further (kinds.Keyword w) none = refl

no_definition : (k : Kind) → k ≢ kinds.Keyword Shape → k ≢ kinds.Keyword Phrase
    → taking (kind_code k) definitions ≡ None
no_definition Name s p = refl
no_definition (Number n) s p = refl
no_definition (Pitch n) s p = refl
no_definition (Register n) s p = refl
no_definition (Index n) s p = refl
no_definition End s p = refl
no_definition (Symbol b) s p = skips_words (kind_code (Symbol b)) definitions [] (symbol_apart b) (search rules)
no_definition (kinds.Keyword Shape) s p = absurd (s refl)
no_definition (kinds.Keyword Phrase) s p = absurd (p refl)
no_definition (kinds.Keyword w) s p = refl

-- no entry begins with another token
pub no_entry_rule : (k : Kind) → starter k ≡ None → k ≢ kinds.Keyword Shape → k ≢ kinds.Keyword Phrase
    → taking (kind_code k) (stmt_rules entries definitions) ≡ None
no_entry_rule k none s p = no_stmt_rule entries definitions k none ∙ no_definition k s p
