-- What fits the symbols of a whole text reads as a score, and what begins a text fits them with others behind it.
use Rattle.std.proofs.Common.{◌≡◌, Bool, true, false, List, [], ◌∷◌, ◌++◌, refl, sym, ◌∙◌, subst}
use Rattle.fm_lex.specs.Tokens.{Lexed}
use Rattle.fm_lex.specs.declared.keyword.Keyword.TheVariants.{Formula}
use Rattle.fm_grammar.specs.Score.{Leaf, Score}
use Rattle.fm_grammar.specs.Grammar.{NumForm, DivisionForm, no_division, no_seed, no_entry, ScoreForm}
use Rattle.fm_grammar.specs.Signs.{semicolon, tok, key, num}
use Rattle.fm_grammar.specs.Spelling.{score_text}
use Rattle.fm_grammar.specs.Standing.{score_tree}
use Rattle.fm_grammar.specs.Within.{Limits}
use Rattle.fm_grammar.specs.Reads.{Reads, Begins}
use Rattle.fm_grammar.specs.Rules.{whole}
use Rattle.fm_grammar.specs.Table.{opens_divided, is_divided}
use Rattle.fm_grammar.proofs.Fits.{Derives}
use Rattle.fm_grammar.proofs.FromStatements.{fits_score}
use Rattle.fm_grammar.proofs.ToScore.{to_score}
use Rattle.fm_grammar.proofs.Unique.{same_rest}
use Rattle.fm_grammar.proofs.UniqueScore.{finish}
use Rattle.fm_grammar.proofs.Dividing.{divided_longer, right_false, form_divided, head_stands}

-- a text that reads fits
pub derives_from : (most : Limits) (ts : List Lexed) (score : Score) → Reads most ts score
    → Derives most 0 (whole (is_divided ts)) ts
derives_from most ts score reads =
    let form = reads.form in
    subst (λ (x : List Lexed). Derives most 0 (whole (is_divided x)) x) (sym reads.text)
    (subst (λ (b : Bool). Derives most 0 (whole b) (score_text form)) (sym (form_divided form reads.head))
    (fits_score most form reads.within))

-- and what fits reads
pub reads_from : (most : Limits) (ts : List Lexed) (divided : Bool) → (divided ≡ true → is_divided ts ≡ true)
    → Derives most 0 (whole divided) ts → (score : Score) × Reads most ts score
reads_from most ts divided is derives =
    let s = to_score most derives.steps divided ts derives.fits in (
      score_tree s.form,
      record {
        form = s.form;
        text = s.text;
        within = s.within;
        head = head_stands s.form
            (λ states. subst (λ (x : List Lexed). is_divided x ≡ true) s.text (is (sym s.states ∙ states)));
        stands_for = refl;
      },
    )

-- tokens that fit with others behind them begin a text
pub begins_from : (most : Limits) (ts w : List Lexed) → Derives most 0 (whole (is_divided ts)) (ts ++ w) → Begins most ts
begins_from most ts w derives =
    let reads = reads_from most (ts ++ w) (is_divided ts) (divided_longer ts w) derives in
    record { rest = w; score = reads.0; reads = reads.1 }

-- ---- what begins a text

-- tokens fit with others behind them
abbrev pub Goes : Limits → Bool → List Lexed → Type 0
Goes most divided ts = (w : List Lexed) × Derives most 0 (whole divided) (ts ++ w)

-- a text without statements
abbrev pub bare : Leaf → NumForm → Leaf → DivisionForm → ScoreForm
bare w v e d = record {
  word = w;
  version = v;
  ends = e;
  divided = d;
  seeded = no_seed;
  entries = no_entry;
  last = w;
}

-- equal lists begin with one token
first_same : (x y : Lexed) (u v : List Lexed) → x ∷ u ≡ y ∷ v → x ≡ y
first_same x y u v same = cc

-- the first three tokens of what fits
record Three (ts : List Lexed) : Type 0 where
  word : Leaf
  version : NumForm
  ends : Leaf
  rest : List Lexed
  place : ts ≡ key Formula word ∷ num version ∷ tok semicolon ends ∷ rest

three_of : (most : Limits) (divided : Bool) (ts : List Lexed) → Derives most 0 (whole divided) ts → Three ts
three_of most divided ts derives =
    let s = to_score most derives.steps divided ts derives.fits in
    record { word = s.form.word; version = s.form.version; ends = s.form.ends; rest = _; place = s.text }

-- the symbols of a text without a division fit these three and no more
plain : (most : Limits) (ts : List Lexed) (t : Three ts) → Derives most 0 (whole false)
    (key Formula t.word ∷ num t.version ∷ tok semicolon t.ends ∷ finish t.word)
plain most ts t = fits_score most (bare t.word t.version t.ends no_division) tt

-- three tokens or fewer go on without a division, whatever stood behind them
begun_1 : (most : Limits) (a : Lexed) (w : List Lexed) → Three (a ∷ w) → Goes most false (a ∷ [])
begun_1 most a w t =
    let x = num t.version ∷ tok semicolon t.ends ∷ finish t.word in
    (x, subst (λ (y : Lexed). Derives most 0 (whole false) (y ∷ x)) (sym (first_same _ _ _ _ t.place)) (plain most (a ∷ w) t))

begun_2 : (most : Limits) (a b : Lexed) (w : List Lexed) → Three (a ∷ b ∷ w) → Goes most false (a ∷ b ∷ [])
begun_2 most a b w t =
    let x = tok semicolon t.ends ∷ finish t.word in
    let first : a ≡ key Formula t.word = first_same _ _ _ _ t.place in
    let second : b ≡ num t.version = first_same _ _ _ _ (same_rest _ _ _ _ t.place) in (
      x,
      subst (λ (y : List Lexed). Derives most 0 (whole false) (y ++ x)) (sym (two_same _ _ first second))
          (plain most (a ∷ b ∷ w) t),
    )
  where
    two_same : (x y : Lexed) → a ≡ x → b ≡ y → a ∷ b ∷ [] ≡ x ∷ y ∷ []
    two_same x y first second = cc

begun_3 : (most : Limits) (a b c : Lexed) (w : List Lexed) → Three (a ∷ b ∷ c ∷ w) → Goes most false (a ∷ b ∷ c ∷ [])
begun_3 most a b c w t =
    let first : a ≡ key Formula t.word = first_same _ _ _ _ t.place in
    let behind = same_rest _ _ _ _ t.place in
    let second : b ≡ num t.version = first_same _ _ _ _ behind in
    let third : c ≡ tok semicolon t.ends = first_same _ _ _ _ (same_rest _ _ _ _ behind) in (
      finish t.word,
      subst (λ (y : List Lexed). Derives most 0 (whole false) (y ++ finish t.word))
          (sym (three_same _ _ _ first second third)) (plain most (a ∷ b ∷ c ∷ w) t),
    )
  where
    three_same : (x y z : Lexed) → a ≡ x → b ≡ y → c ≡ z → a ∷ b ∷ c ∷ [] ≡ x ∷ y ∷ z ∷ []
    three_same x y z first second third = cc

goes_begun : (most : Limits) (ts w : List Lexed) → Derives most 0 (whole (is_divided (ts ++ w))) (ts ++ w)
    → Goes most (is_divided ts) ts
goes_begun most [] w derives = let t = three_of most _ w derives in
    (key Formula t.word ∷ num t.version ∷ tok semicolon t.ends ∷ finish t.word, plain most w t)
goes_begun most (a ∷ []) w derives = begun_1 most a w (three_of most _ (a ∷ w) derives)
goes_begun most (a ∷ b ∷ []) w derives = begun_2 most a b w (three_of most _ (a ∷ b ∷ w) derives)
goes_begun most (a ∷ b ∷ c ∷ []) w derives =
    subst (λ (d : Bool). Goes most d (a ∷ b ∷ c ∷ [])) (sym (right_false (opens_divided a b c) false refl))
    (begun_3 most a b c w (three_of most _ (a ∷ b ∷ c ∷ w) derives))
goes_begun most (a ∷ b ∷ c ∷ d ∷ ts) w derives = (w, derives)

-- tokens that begin a text fit with others behind them
pub derives_begun : (most : Limits) (ts : List Lexed) → Begins most ts → Goes most (is_divided ts) ts
derives_begun most ts begins =
    goes_begun most ts begins.rest (derives_from most (ts ++ begins.rest) begins.score begins.reads)
