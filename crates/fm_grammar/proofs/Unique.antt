-- Each form is the only one of its tokens: single tokens, and what may not come behind a form.
use Rattle.std.proofs.Common.{◌≡◌, ℕ, List, [], ◌∷◌, Ok, Err, sym, ap, ◌∙◌, true≢false, true, false}
use Rattle.fm_lex.specs.Bytes.{one_of}
use Rattle.fm_lex.specs.Tokens.{Lexed}
use Rattle.fm_lex.specs.declared.kind.Kind.{Kind}
use Rattle.fm_lex.specs.declared.kind.Kind.TheVariants.{Number, Pitch, Register, Index}
use Rattle.fm_grammar.specs.Score.{Leaf}
use Rattle.fm_grammar.specs.Grammar.{NumForm}
use Rattle.fm_grammar.specs.Signs.{tok, num}
use Rattle.fm_grammar.specs.Spelling.{num_text}
use Rattle.fm_grammar.specs.Rules.{kind_code}

-- the number of the first token's kind, 0 of a fault and of no token
abbrev pub first_code : List Lexed → ℕ
first_code [] = 0
first_code (Ok t ∷ ts) = kind_code t.kind
first_code (Err f ∷ ts) = 0

-- two forms with one text are one, and so are the rests
pub record Agree {A : Type 0} (x y : A) (u v : List Lexed) : Type 0 where
  pub forms : x ≡ y
  pub rests : u ≡ v

-- texts that begin with different tokens differ
pub differ : {P : Type 0} (a b : List Lexed) → a ≡ b → (first_code a ≡ first_code b → ⊥) → P
differ a b same apart = absurd (apart (ap first_code same))

-- ---- tokens

kind_at : Kind → List Lexed → Kind
kind_at d [] = d
kind_at d (Ok t ∷ ts) = t.kind
kind_at d (Err f ∷ ts) = d

leaf_at : Leaf → List Lexed → Leaf
leaf_at d [] = d
leaf_at d (Ok t ∷ ts) = record { text = t.text; spot = t.spot }
leaf_at d (Err f ∷ ts) = d

-- equal tokens have equal kinds
pub same_kind : (k j : Kind) (l m : Leaf) (u v : List Lexed) → tok k l ∷ u ≡ tok j m ∷ v → k ≡ j
unfolding kind_at
same_kind k j l m u v same = ap (kind_at k) same

-- and equal bytes and spots
pub same_leaf : (k j : Kind) (l m : Leaf) (u v : List Lexed) → tok k l ∷ u ≡ tok j m ∷ v → l ≡ m
unfolding leaf_at
same_leaf k j l m u v same = ap (leaf_at l) same

-- behind equal tokens the rests are equal
pub same_rest : (x y : Lexed) (u v : List Lexed) → x ∷ u ≡ y ∷ v → u ≡ v
same_rest x y u v same = cc

number_of : Kind → ℕ
number_of (Number n) = n
number_of (Register n) = n
number_of (Index n) = n
number_of (Pitch n) = n
number_of k = 0

abbrev number_form : ℕ → Leaf → NumForm
number_form v l = record { value = v; leaf = l }

num_same : (a b : ℕ) (l m : Leaf) → a ≡ b → l ≡ m → number_form a l ≡ number_form b m
num_same a b l m values leaves = ap (λ (v : ℕ). number_form v l) values ∙ ap (λ (x : Leaf). number_form b x) leaves

-- equal numbers
pub same_num : (n m : NumForm) (u v : List Lexed) → num n ∷ u ≡ num m ∷ v → n ≡ m
unfolding number_of
same_num n m u v same =
    let value : n.value ≡ m.value = ap number_of (same_kind (Number n.value) (Number m.value) n.leaf m.leaf u v same) in
    let leaf : n.leaf ≡ m.leaf = same_leaf (Number n.value) (Number m.value) n.leaf m.leaf u v same in
    num_same n.value m.value n.leaf m.leaf value leaf

-- the number of a register, an index or a pitch
pub same_register : (n m : ℕ) (l k : Leaf) (u v : List Lexed) → tok (Register n) l ∷ u ≡ tok (Register m) k ∷ v → n ≡ m
unfolding number_of
same_register n m l k u v same = ap number_of (same_kind (Register n) (Register m) l k u v same)

-- equal indices
pub same_index : (n m : ℕ) (l k : Leaf) (u v : List Lexed) → tok (Index n) l ∷ u ≡ tok (Index m) k ∷ v → n ≡ m
unfolding number_of
same_index n m l k u v same = ap number_of (same_kind (Index n) (Index m) l k u v same)

-- equal pitches
pub same_pitch : (n m : ℕ) (l k : Leaf) (u v : List Lexed) → tok (Pitch n) l ∷ u ≡ tok (Pitch m) k ∷ v → n ≡ m
unfolding number_of
same_pitch n m l k u v same = ap number_of (same_kind (Pitch n) (Pitch m) l k u v same)

-- ---- what may not come behind a form

-- the first token is none of these kinds
abbrev pub Apart : List ℕ → List Lexed → Type 0
Apart codes ts = one_of (first_code ts) codes ≡ false

-- a text that begins with none of these kinds is no text that does
pub clash : {P : Type 0} (codes : List ℕ) (u w : List Lexed) → Apart codes u → u ≡ w → one_of (first_code w) codes ≡ true → P
clash codes u w apart same is = absurd (true≢false (sym is ∙ ap (λ (x : List Lexed). one_of (first_code x) codes) (sym same) ∙ apart))

-- ---- values

-- a number
pub unique_num : (x y : NumForm) (u v : List Lexed) → num_text x u ≡ num_text y v → Agree x y u v
unique_num x y u v same = record { forms = same_num x y u v same; rests = same_rest (num x) (num y) u v same }
