-- Each value and each list is the only one of its tokens.
use Rattle.std.proofs.Common.{◌≡◌, ℕ, List, [], ◌∷◌, refl, sym, ap, arith}
use Rattle.fm_lex.specs.Tokens.{Lexed}
use Rattle.fm_lex.specs.declared.kind.Kind.TheVariants.{Pitch}
use Rattle.fm_lex.specs.declared.kind.Kind.TheVariants as kinds
use Rattle.fm_lex.specs.declared.keyword.Keyword.TheVariants.{Flat, By, Slope, To, Pause, Breath, Ticks, Max, Key}
use Rattle.fm_grammar.specs.Score.{Leaf}
use Rattle.fm_grammar.specs.Grammar.{NumForm, Mores, no_more, more, Listed, LengthForm, share, ticks, PartForm, flat, slope, pause, breath, ExprForm, AmountForm, negative, DurationForm, fixed, PitchForm, named, keyed}
use Rattle.fm_grammar.specs.Grammar as forms
use Rattle.fm_grammar.specs.Signs.{open_parenthesis, close_parenthesis, comma, slash, minus_sign, tok, key, num}
use Rattle.fm_grammar.specs.Spelling.{mores_text, listed_text, num_text, length_text, part_text, expr_text, amount_text, duration_text, pitch_text}
use Rattle.fm_grammar.specs.Rules.{kind_code}
use Rattle.fm_grammar.proofs.Unique.{Agree, differ, same_leaf, same_rest, same_num, same_pitch, Apart, clash}
use Rattle.fm_grammar.proofs.UniqueExprs.{unique_expr}

-- a number
pub unique_num : (x y : NumForm) (u v : List Lexed) → num_text x u ≡ num_text y v → Agree x y u v
unique_num x y u v same = record { forms = same_num x y u v same; rests = same_rest (num x) (num y) u v same }

-- a length
pub unique_length : (x y : LengthForm) (u v : List Lexed) → length_text x u ≡ length_text y v → Agree x y u v
unique_length (share a s b) (share c t d) u v same =
    let first : a ≡ c = same_num a c _ _ same in
    let behind = same_rest _ _ _ _ same in
    let sign : s ≡ t = same_leaf slash slash s t _ _ behind in
    let last = unique_num b d u v (same_rest _ _ _ _ behind) in
    record { forms = cc; rests = last.rests }
unique_length (ticks w n) (ticks x m) u v same =
    let word : w ≡ x = same_leaf (kinds.Keyword Ticks) (kinds.Keyword Ticks) w x _ _ same in
    let last = unique_num n m u v (same_rest _ _ _ _ same) in
    record { forms = cc; rests = last.rests }
unique_length x y u v same = differ _ _ same (λ codes. omega (arith, codes))

-- a part
pub unique_part : (x y : PartForm) (u v : List Lexed) → part_text x u ≡ part_text y v → Agree x y u v
unique_part (flat w l b s) (flat x m c t) u v same =
    let word : w ≡ x = same_leaf (kinds.Keyword Flat) (kinds.Keyword Flat) w x _ _ same in
    let lengths = unique_length l m _ _ (same_rest _ _ _ _ same) in
    let by : b ≡ c = same_leaf (kinds.Keyword By) (kinds.Keyword By) b c _ _ lengths.rests in
    let stretch = unique_num s t u v (same_rest _ _ _ _ lengths.rests) in
    record { forms = cc; rests = stretch.rests }
unique_part (slope w l b s t e) (slope x m c r q d) u v same =
    let word : w ≡ x = same_leaf (kinds.Keyword Slope) (kinds.Keyword Slope) w x _ _ same in
    let lengths = unique_length l m _ _ (same_rest _ _ _ _ same) in
    let by : b ≡ c = same_leaf (kinds.Keyword By) (kinds.Keyword By) b c _ _ lengths.rests in
    let from = unique_num s r _ _ (same_rest _ _ _ _ lengths.rests) in
    let middle : t ≡ q = same_leaf (kinds.Keyword To) (kinds.Keyword To) t q _ _ from.rests in
    let onto = unique_num e d u v (same_rest _ _ _ _ from.rests) in
    record { forms = cc; rests = onto.rests }
unique_part (pause w l) (pause x m) u v same =
    let word : w ≡ x = same_leaf (kinds.Keyword Pause) (kinds.Keyword Pause) w x _ _ same in
    let lengths = unique_length l m u v (same_rest _ _ _ _ same) in
    record { forms = cc; rests = lengths.rests }
unique_part (breath w l) (breath x m) u v same =
    let word : w ≡ x = same_leaf (kinds.Keyword Breath) (kinds.Keyword Breath) w x _ _ same in
    let lengths = unique_length l m u v (same_rest _ _ _ _ same) in
    record { forms = cc; rests = lengths.rests }
unique_part x y u v same = differ _ _ same (λ codes. omega (arith, codes))

-- an amount
pub unique_amount : (x y : AmountForm) (u v : List Lexed) → amount_text x u ≡ amount_text y v → Agree x y u v
unique_amount (forms.AmountForm.number n) (forms.AmountForm.number m) u v same =
    let value : n ≡ m = same_num n m u v same in
    record { forms = ap forms.AmountForm.number value; rests = same_rest _ _ u v same }
unique_amount (negative m n) (negative k l) u v same =
    let sign : m ≡ k = same_leaf minus_sign minus_sign m k _ _ same in
    let last = unique_num n l u v (same_rest _ _ _ _ same) in
    record { forms = cc; rests = last.rests }
unique_amount (forms.AmountForm.computed o e c) (forms.AmountForm.computed p d q) u v same =
    let opens : o ≡ p = same_leaf open_parenthesis open_parenthesis o p _ _ same in
    let inside = unique_expr e d (tok close_parenthesis c ∷ u) (tok close_parenthesis q ∷ v) refl refl (same_rest _ _ _ _ same) in
    let closes : c ≡ q = same_leaf close_parenthesis close_parenthesis c q u v inside.rests in
    record { forms = cc; rests = same_rest _ _ u v inside.rests }
unique_amount x y u v same = differ _ _ same (λ codes. omega (arith, codes))

-- two computed values with their greatest ones are one, and so are the rests
pub record OneClamped (e d : ExprForm) (c q m k : Leaf) (n l : NumForm) (u v : List Lexed) : Type 0 where
  pub values : e ≡ d
  pub closings : c ≡ q
  pub words : m ≡ k
  pub greatest_ones : n ≡ l
  pub rests : u ≡ v

-- a computed value, its greatest one, and what follows
pub unique_clamped : (e d : ExprForm) (c q m k : Leaf) (n l : NumForm) (u v : List Lexed)
    → expr_text e (tok close_parenthesis c ∷ key Max m ∷ num n ∷ u)
    ≡ expr_text d (tok close_parenthesis q ∷ key Max k ∷ num l ∷ v)
    → OneClamped e d c q m k n l u v
unique_clamped e d c q m k n l u v same =
    let inside = unique_expr e d (tok close_parenthesis c ∷ key Max m ∷ num n ∷ u)
    (tok close_parenthesis q ∷ key Max k ∷ num l ∷ v) refl refl same in
    let behind = same_rest _ _ _ _ inside.rests in
    let last = unique_num n l u v (same_rest _ _ _ _ behind) in record {
      values = inside.forms;
      closings = same_leaf close_parenthesis close_parenthesis c q _ _ inside.rests;
      words = same_leaf (kinds.Keyword Max) (kinds.Keyword Max) m k _ _ behind;
      greatest_ones = last.forms;
      rests = last.rests;
    }

-- a duration
pub unique_duration : (x y : DurationForm) (u v : List Lexed) → duration_text x u ≡ duration_text y v → Agree x y u v
unique_duration (fixed l) (fixed m) u v same =
    let lengths = unique_length l m u v same in record { forms = ap fixed lengths.forms; rests = lengths.rests }
unique_duration (forms.DurationForm.computed w o e c m n) (forms.DurationForm.computed x p d q k l) u v same =
    let word : w ≡ x = same_leaf (kinds.Keyword Ticks) (kinds.Keyword Ticks) w x _ _ same in
    let behind = same_rest _ _ _ _ same in
    let opens : o ≡ p = same_leaf open_parenthesis open_parenthesis o p _ _ behind in
    let values = unique_clamped e d c q m k n l u v (same_rest _ _ _ _ behind) in
    record { forms = cc; rests = values.rests }
unique_duration (fixed (share a s b)) (forms.DurationForm.computed x p d q k l) u v same = differ _ _ same (λ codes. omega (arith, codes))
unique_duration (forms.DurationForm.computed x p d q k l) (fixed (share a s b)) u v same = differ _ _ same (λ codes. omega (arith, codes))
unique_duration (fixed (ticks w n)) (forms.DurationForm.computed x p d q k l) u v same =
    differ _ _ (same_rest _ _ _ _ same) (λ codes. omega (arith, codes))
unique_duration (forms.DurationForm.computed x p d q k l) (fixed (ticks w n)) u v same =
    differ _ _ (same_rest _ _ _ _ same) (λ codes. omega (arith, codes))

-- a pitch
pub unique_pitch : (x y : PitchForm) (u v : List Lexed) → pitch_text x u ≡ pitch_text y v → Agree x y u v
unique_pitch (named k l) (named j m) u v same =
    let value : k ≡ j = same_pitch k j l m u v same in
    let leaf : l ≡ m = same_leaf (Pitch k) (Pitch j) l m u v same in
    record { forms = cc; rests = same_rest _ _ u v same }
unique_pitch (keyed w a) (keyed x b) u v same =
    let word : w ≡ x = same_leaf (kinds.Keyword Key) (kinds.Keyword Key) w x _ _ same in
    let values = unique_amount a b u v (same_rest _ _ _ _ same) in
    record { forms = cc; rests = values.rests }
unique_pitch x y u v same = differ _ _ same (λ codes. omega (arith, codes))

-- ---- lists

-- each item is the only one of its tokens
abbrev pub OneItem : {A : Type 0} → (A → List Lexed → List Lexed) → Type 0
OneItem {A} text = (x y : A) (u v : List Lexed) → text x u ≡ text y v → Agree x y u v

-- a comma
abbrev pub commas : List ℕ
commas = kind_code comma ∷ []

unique_mores : {A : Type 0} (text : A → List Lexed → List Lexed) → OneItem text → (xs ys : Mores A) (u v : List Lexed)
    → Apart commas u → Apart commas v → mores_text text xs u ≡ mores_text text ys v → Agree xs ys u v
unique_mores text one no_more no_more u v p q same = record { forms = refl; rests = same }
unique_mores text one no_more (more c x xs) u v p q same = clash commas u _ p same refl
unique_mores text one (more c x xs) no_more u v p q same = clash commas v _ q (sym same) refl
unique_mores text one (more c x xs) (more d y ys) u v p q same =
    let leaf : c ≡ d = same_leaf comma comma c d _ _ same in
    let first = one x y _ _ (same_rest _ _ _ _ same) in
    let later = unique_mores text one xs ys u v p q first.rests in
    record { forms = cc; rests = later.rests }

abbrev listed_form : {A : Type 0} → A → Mores A → Listed A
listed_form x xs = record { first = x; others = xs }

listed_same : {A : Type 0} (a b : A) (xs ys : Mores A) → a ≡ b → xs ≡ ys → listed_form a xs ≡ listed_form b ys
listed_same a b xs ys first others = cc

-- a list
pub unique_listed : {A : Type 0} (text : A → List Lexed → List Lexed) → OneItem text → (xs ys : Listed A) (u v : List Lexed)
    → Apart commas u → Apart commas v → listed_text text xs u ≡ listed_text text ys v → Agree xs ys u v
unique_listed text one xs ys u v p q same =
    let first = one xs.first ys.first _ _ same in
    let later = unique_mores text one xs.others ys.others u v p q first.rests in
    record { forms = listed_same xs.first ys.first xs.others ys.others first.forms later.forms; rests = later.rests }

-- a duration begins with no comma
pub duration_apart : (d : DurationForm) (u : List Lexed) → Apart commas (duration_text d u)
duration_apart (fixed (share a s b)) u = refl
duration_apart (fixed (ticks w n)) u = refl
duration_apart (forms.DurationForm.computed w o e c m n) u = refl
