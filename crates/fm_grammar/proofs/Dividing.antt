-- Whether a text states its division: the first four tokens tell it, and the form of the text says the same.
use Rattle.std.proofs.Common.{◌≡◌, ℕ, Bool, true, false, ◌&&◌, ◌||◌, ◌==◌, List, [], ◌∷◌, ◌++◌, Ok, Err, refl, sym, ◌∙◌, true≢false}
use Rattle.std.specs.Prelude.{bytes_eq}
use Rattle.std.proofs.lemmas.Bool.Decides.{Decides-eqb}
use Rattle.std.proofs.lemmas.Slice.Eq.{bytes_eq-Decides}
use Rattle.fm_lex.specs.Tokens.{Lexeme, Lexed}
use Rattle.fm_lex.specs.declared.kind.Kind.{Kind}
use Rattle.fm_lex.specs.declared.kind.Kind.TheVariants.{Name, Number}
use Rattle.fm_lex.specs.declared.kind.Kind.TheVariants as kinds
use Rattle.fm_lex.specs.declared.keyword.Keyword.TheVariants.{Formula}
use Rattle.fm_grammar.specs.Score.{Leaf}
use Rattle.fm_grammar.specs.Grammar.{NumForm, DivisionForm, no_division, division, ScoreForm}
use Rattle.fm_grammar.specs.Signs.{semicolon, divided_version, division_word, tok, key, num}
use Rattle.fm_grammar.specs.Spelling.{division_text, entries_text, seed_text, score_text}
use Rattle.fm_grammar.specs.Within.{DivisionStands}
use Rattle.fm_grammar.specs.Rules.{kind_code}
use Rattle.fm_grammar.specs.Table.{has_value, opens_divided, is_division, says_division, is_divided}
use Rattle.fm_grammar.proofs.Telling.{tells_keyword, tells_symbol, tells_name, leaf_of, tok-leaf_of}
use Rattle.fm_grammar.proofs.ToForms.{num_form}
use Rattle.fm_grammar.proofs.FromStatements.{states_division}
use Rattle.fm_grammar.proofs.Unique.{Apart}
use Rattle.fm_grammar.proofs.UniqueScore.{finish, names, no_name}

-- ---- tests

left_true : (a b : Bool) → (a && b) ≡ true → a ≡ true
left_true true b both = refl
left_true false b both = cc

-- of two tests that hold, the second
pub right_true : (a b : Bool) → (a && b) ≡ true → b ≡ true
right_true true b both = both
right_true false b both = cc

-- a false test makes both false
pub right_false : (a b : Bool) → b ≡ false → (a && b) ≡ false
right_false true b is = is
right_false false b is = refl

-- no test is false and true
pub no_truth : {P : Type 0} → false ≡ true → P
no_truth same = cc

-- ---- the first four tokens

-- with more behind them they tell the same
pub divided_longer : (ts w : List Lexed) → is_divided ts ≡ true → is_divided (ts ++ w) ≡ true
divided_longer [] w is = no_truth is
divided_longer (a ∷ []) w is = no_truth is
divided_longer (a ∷ b ∷ []) w is = no_truth is
divided_longer (a ∷ b ∷ c ∷ []) w is = no_truth (right_true (opens_divided a b c) false is)
divided_longer (a ∷ b ∷ c ∷ d ∷ ts) w is = is

-- and so with fewer
pub undivided_shorter : (ts w : List Lexed) → is_divided (ts ++ w) ≡ false → is_divided ts ≡ false
undivided_shorter ts w is = by (is_divided ts) refl
  where
    by : (b : Bool) → is_divided ts ≡ b → is_divided ts ≡ false
    by false same = same
    by true same = absurd (true≢false (sym (divided_longer ts w same) ∙ is))

-- the tokens before a division
pub record Four (a b c d : Lexed) : Type 0 where
  pub word : Leaf
  pub version : NumForm
  pub ends : Leaf
  pub name : Leaf
  pub first : a ≡ key Formula word
  pub second : b ≡ num version
  pub third : c ≡ tok semicolon ends
  pub fourth : d ≡ tok Name name

value_kind : (n : ℕ) (k : Kind) → has_value n k ≡ true → (v : ℕ) × (k ≡ Number v)
value_kind n (Number v) is = (v, refl)
value_kind n k is = no_truth is

four_tokens : (w n e m : Lexeme) → (opens_divided (Ok w) (Ok n) (Ok e) && is_division (Ok m)) ≡ true
    → Four (Ok w) (Ok n) (Ok e) (Ok m)
four_tokens w n e m is =
    let opens = left_true _ _ is in
    let says = right_true _ _ is in
    let later = right_true _ _ opens in
    let value = value_kind divided_version n.kind (left_true _ _ later) in
    let word = tells_keyword Formula w.kind (sym ((Decides-eqb _ _).0 (left_true _ _ opens))) in
    let ends = tells_symbol 59 e.kind (sym ((Decides-eqb _ _).0 (right_true _ _ later))) in
    let name = tells_name m.kind (sym ((Decides-eqb _ _).0 (left_true _ _ says))) in
    record {
      word = leaf_of w;
      version = num_form value.0 n;
      ends = leaf_of e;
      name = leaf_of m;
      first = tok-leaf_of w (kinds.Keyword Formula) word;
      second = tok-leaf_of n (Number value.0) value.1;
      third = tok-leaf_of e semicolon ends;
      fourth = tok-leaf_of m Name name;
    }

-- those of a text that states its division
pub four_of : (a b c d : Lexed) → (opens_divided a b c && is_division d) ≡ true → Four a b c d
four_of (Ok w) (Ok n) (Ok e) (Ok m) is = four_tokens w n e m is
four_of a b c (Err f) is = no_truth (right_true (opens_divided a b c) false is)
four_of (Err f) b c (Ok m) is = no_truth is
four_of (Ok w) (Err f) c (Ok m) is = no_truth is
four_of (Ok w) (Ok n) (Err f) (Ok m) is = no_truth is

-- ---- the form of a text

not_said : (ts : List Lexed) → Apart names ts → says_division ts ≡ false
not_said [] apart = refl
not_said (Ok t ∷ ts) apart = by (kind_code t.kind == kind_code Name) apart
  where
    by : (b : Bool) → (b || false) ≡ false → (b && bytes_eq t.text division_word) ≡ false
    by true other = cc
    by false other = refl
not_said (Err f ∷ ts) apart = refl

-- a form with a division where one may stand states it for the test
pub form_divided : (s : ScoreForm) → DivisionStands s.version s.divided → is_divided (score_text s) ≡ states_division s.divided
form_divided s head = by s.divided head
  where
    by : (d : DivisionForm) → DivisionStands s.version d
        → is_divided (key Formula s.word ∷ num s.version ∷ tok semicolon s.ends
        ∷ division_text d (seed_text s.seeded (entries_text s.entries (finish s.last)))) ≡ states_division d
    by no_division none = right_false _ _ (not_said _ (no_name s.seeded s.entries s.last))
    by (division w n e) (two, name) = rw (two, name) refl

-- and what the test says of a form's text holds of its head
pub head_stands : (s : ScoreForm) → (states_division s.divided ≡ true → is_divided (score_text s) ≡ true)
    → DivisionStands s.version s.divided
head_stands s is = by s.divided is
  where
    by : (d : DivisionForm) → (states_division d ≡ true → is_divided (key Formula s.word ∷ num s.version ∷ tok semicolon s.ends
        ∷ division_text d (seed_text s.seeded (entries_text s.entries (finish s.last)))) ≡ true) → DivisionStands s.version d
    by no_division says = tt
    by (division w n e) says = let is = says refl in (
      (Decides-eqb s.version.value divided_version).0 (left_true _ _ (left_true _ _ is)),
      (bytes_eq-Decides w.text division_word).0 (right_true _ _ is),
    )
