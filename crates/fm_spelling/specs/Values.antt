-- What statements are made of, token by token, and what it says. `XSays before x after` says that an X stands at the
-- head of
-- the tokens `before`, that it says x, and that the tokens `after` follow it. Each case is a line of the grammar. A
-- leaf is
-- the bytes and the spot of a token.
use Rattle.std.specs.Prelude.{ℕ, ◌*◌, ◌/◌, pos, ◌-ℤ◌, List, [], ◌∷◌, ◌++◌, slice_index_or, codes}
use Rattle.fm_grammar.specs.Grammar.{NumForm}
use Rattle.fm_grammar.specs.Score.{Leaf}
use Rattle.fm_grammar.specs.Signs.{tok, key, num}
use Rattle.fm_lex.specs.declared.keyword.Keyword.{Keyword}
use Rattle.fm_lex.specs.declared.keyword.Keyword.TheVariants.{Flat, By, Slope, To, Pause, Breath, Ticks, Max, Key, Pick, Min, Less, Same}
use Rattle.fm_lex.specs.declared.kind.Kind.TheVariants.{Pitch, Register, Index, Symbol}
use Rattle.fm_lex.specs.Tokens.{Lexed}
use Rattle.fm_meaning.specs.Resolve.{stretch_of}
use Rattle.fm_meaning.specs.Resolved.{DataSource, given, drawn, LengthSource, counted}
use Rattle.fm_meaning.specs.Resolved as says
use Rattle.fm_value.specs.declared.node.Node.{Node}
use Rattle.fm_value.specs.declared.node.Node.TheVariants as node
use Rattle.fm_warp.specs.declared.part.Part.{Part}
use Rattle.fm_warp.specs.declared.part.Part.TheVariants as part

-- tokens in their order, of which the last may be a fault
abbrev pub Tokens : Type 0
Tokens = List Lexed

-- a token that is a sign
abbrev pub sign : List ℕ → Leaf → Lexed
sign s l = tok (Symbol (slice_index_or s 0 0)) l

-- item { "," item }
pub data SeveralSay {A : Type 0} (ItemSays : Tokens → A → Tokens → Type 0) : Tokens → List A → Tokens → Type 0 where
  one : {before after : Tokens} {x : A} → ItemSays before x after → SeveralSay ItemSays before (x ∷ []) after
  more : {before middle after : Tokens} {x : A} {xs : List A} (c : Leaf)
      → ItemSays before x (sign (codes ",") c ∷ middle)
      → SeveralSay ItemSays middle xs after → SeveralSay ItemSays before (x ∷ xs) after

-- NUMBER
pub data NumberSays : Tokens → ℕ → Tokens → Type 0 where
  number : {after : Tokens} (n : NumForm) → NumberSays (num n ∷ after) n.value after

-- length = NUMBER "/" NUMBER | "ticks" NUMBER, in ticks, of which a whole note has so many
pub data LengthSays (whole : ℕ) : Tokens → ℕ → Tokens → Type 0 where
  share : {after : Tokens} (n m : NumForm) (s : Leaf)
      → LengthSays whole (num n ∷ sign (codes "/") s ∷ num m ∷ after) (whole * n.value / m.value) after
  ticks : {after : Tokens} (w : Leaf) (n : NumForm) → LengthSays whole (key Ticks w ∷ num n ∷ after) n.value after

-- part = "flat" length "by" NUMBER | "slope" length "by" NUMBER "to" NUMBER | "pause" length | "breath" length
pub data PartSays (whole : ℕ) : Tokens → Part → Tokens → Type 0 where
  flat : {before after : Tokens} {t : ℕ} (w b : Leaf) (n : NumForm)
      → LengthSays whole before t (key By b ∷ num n ∷ after)
      → PartSays whole (key Flat w ∷ before) (part.Flat t (stretch_of n.value)) after
  slope : {before after : Tokens} {t : ℕ} (w b o : Leaf) (n m : NumForm)
      → LengthSays whole before t (key By b ∷ num n ∷ key To o ∷ num m ∷ after)
      → PartSays whole (key Slope w ∷ before) (part.Slope t (stretch_of n.value) (stretch_of m.value)) after
  pause : {before after : Tokens} {t : ℕ} (w : Leaf) → LengthSays whole before t after
      → PartSays whole (key Pause w ∷ before) (part.Pause t) after
  breath : {before after : Tokens} {t : ℕ} (w : Leaf) → LengthSays whole before t after
      → PartSays whole (key Breath w ∷ before) (part.Breath t) after

-- "*" | "/" | "%"
pub data Scales : List ℕ → Node → Type 0 where
  times : Scales (codes "*") node.Multiply
  over : Scales (codes "/") node.Divide
  modulo : Scales (codes "%") node.Remain

-- "+" | "-"
pub data Adds : List ℕ → Node → Type 0 where
  plus : Adds (codes "+") node.Add
  minus : Adds (codes "-") node.Subtract

-- "min" | "max" | "less" | "same"
pub data Compares : Keyword → Node → Type 0 where
  least : Compares Min node.Min
  greatest : Compares Max node.Max
  below : Compares Less node.Less
  equal : Compares Same node.Same

mutual
  -- expr = term { ("+" | "-") term }, with term = factor { ("*" | "/" | "%") factor }: each operation behind its
  -- operands
  pub data ExprSays : Tokens → List Node → Tokens → Type 0 where
    expr : {before b c after : Tokens} {xs ys zs : List Node} → FactorSays before xs b → TermsSay b ys c
        → SumsSay c zs after
        → ExprSays before (xs ++ (ys ++ zs)) after

  -- factor = NUMBER | REGISTER | INDEX | "-" factor | "(" expr ")" | "pick" "(" expr ")"
  --   | ("min" | "max" | "less" | "same") "(" expr "," expr ")"
  pub data FactorSays : Tokens → List Node → Tokens → Type 0 where
    number : {after : Tokens} (n : NumForm) → FactorSays (num n ∷ after) (node.Literal n.value ∷ []) after
    register : {after : Tokens} (r : ℕ) (l : Leaf)
        → FactorSays (tok (Register r) l ∷ after) (node.Register r ∷ []) after
    index : {after : Tokens} (i : ℕ) (l : Leaf) → FactorSays (tok (Index i) l ∷ after) (node.Index i ∷ []) after
    negate : {before after : Tokens} {xs : List Node} (m : Leaf) → FactorSays before xs after
        → FactorSays (sign (codes "-") m ∷ before) (xs ++ node.Negate ∷ []) after
    group : {before after : Tokens} {xs : List Node} (o c : Leaf) → ExprSays before xs (sign (codes ")") c ∷ after)
        → FactorSays (sign (codes "(") o ∷ before) xs after
    pick : {before after : Tokens} {xs : List Node} (w o c : Leaf) → ExprSays before xs (sign (codes ")") c ∷ after)
        → FactorSays (key Pick w ∷ sign (codes "(") o ∷ before) (xs ++ node.Pick ∷ []) after
    compare : {before middle after : Tokens} {xs ys : List Node} {k : Keyword} {n : Node} (w o m c : Leaf)
        → Compares k n
        → ExprSays before xs (sign (codes ",") m ∷ middle) → ExprSays middle ys (sign (codes ")") c ∷ after)
        → FactorSays (key k w ∷ sign (codes "(") o ∷ before) (xs ++ (ys ++ n ∷ [])) after

  -- { ("*" | "/" | "%") factor }
  pub data TermsSay : Tokens → List Node → Tokens → Type 0 where
    no_term : {after : Tokens} → TermsSay after [] after
    term : {before middle after : Tokens} {xs ys : List Node} {s : List ℕ} {n : Node} (l : Leaf) → Scales s n
        → FactorSays before xs middle → TermsSay middle ys after → TermsSay (sign s l ∷ before) (xs ++ n ∷ ys) after

  -- { ("+" | "-") term }
  pub data SumsSay : Tokens → List Node → Tokens → Type 0 where
    no_sum : {after : Tokens} → SumsSay after [] after
    sum : {before b c after : Tokens} {xs ys zs : List Node} {s : List ℕ} {n : Node} (l : Leaf) → Adds s n
        → FactorSays before xs b → TermsSay b ys c → SumsSay c zs after
        → SumsSay (sign s l ∷ before) (xs ++ (ys ++ n ∷ zs)) after

-- amount = NUMBER | "-" NUMBER | "(" expr ")"
pub data AmountSays : Tokens → DataSource → Tokens → Type 0 where
  number : {after : Tokens} (n : NumForm) → AmountSays (num n ∷ after) (given (pos n.value)) after
  negative : {after : Tokens} (m : Leaf) (n : NumForm)
      → AmountSays (sign (codes "-") m ∷ num n ∷ after) (given (pos 0 -ℤ pos n.value)) after
  computed : {before after : Tokens} {xs : List Node} (o c : Leaf) → ExprSays before xs (sign (codes ")") c ∷ after)
      → AmountSays (sign (codes "(") o ∷ before) (drawn xs) after

-- duration = length | "ticks" "(" expr ")" "max" NUMBER
pub data DurationSays (whole : ℕ) : Tokens → LengthSource → Tokens → Type 0 where
  fixed : {before after : Tokens} {t : ℕ} → LengthSays whole before t after
      → DurationSays whole before (says.ticks t) after
  computed : {before after : Tokens} {xs : List Node} (w o c m : Leaf) (n : NumForm)
      → ExprSays before xs (sign (codes ")") c ∷ key Max m ∷ num n ∷ after)
      → DurationSays whole (key Ticks w ∷ sign (codes "(") o ∷ before) (counted xs n.value) after

-- pitch = PITCH | "key" amount
pub data PitchSays : Tokens → DataSource → Tokens → Type 0 where
  named : {after : Tokens} (k : ℕ) (l : Leaf) → PitchSays (tok (Pitch k) l ∷ after) (given (pos k)) after
  keyed : {before after : Tokens} {x : DataSource} (w : Leaf) → AmountSays before x after
      → PitchSays (key Key w ∷ before) x after
