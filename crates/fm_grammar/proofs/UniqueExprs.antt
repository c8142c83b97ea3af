-- Each expression is the only one of its tokens.
use Rattle.std.proofs.Common.{◌≡◌, ℕ, ◌||◌, List, [], ◌∷◌, refl, sym, ap, ◌∙◌, arith, true, false, Bool}
use Rattle.fm_lex.specs.Bytes.{one_of}
use Rattle.fm_lex.specs.Tokens.{Lexed}
use Rattle.fm_lex.specs.declared.kind.Kind.TheVariants.{Register, Index}
use Rattle.fm_lex.specs.declared.kind.Kind.TheVariants as kinds
use Rattle.fm_lex.specs.declared.keyword.Keyword.TheVariants.{Pick}
use Rattle.fm_grammar.specs.Grammar.{Scaling, times, over, modulo, Adding, plus, minus, Comparing, least, greatest, below, equal, ExprForm, expr, FactorForm, register, index, negate, group, pick, compare, TermsForm, no_term, term, SumsForm, no_sum, sum}
use Rattle.fm_grammar.specs.Grammar as forms
use Rattle.fm_grammar.specs.Signs.{open_parenthesis, close_parenthesis, comma, slash, plus_sign, minus_sign, asterisk, percent, tok}
use Rattle.fm_grammar.specs.Spelling.{scaling_kind, adding_kind, comparing_word, expr_text, factor_text, terms_text, sums_text}
use Rattle.std.specs.Prelude.{if◌then◌else◌, ◌==◌}
use Rattle.fm_grammar.specs.Rules.{kind_code, any_number, any_register, any_index}
use Rattle.fm_grammar.proofs.Unique.{first_code, Agree, same_kind, same_leaf, same_rest, same_num, same_register, same_index, Apart, clash}

-- the operators between factors
abbrev pub scalings : List ℕ
scalings = kind_code asterisk ∷ kind_code slash ∷ kind_code percent ∷ []

-- all operators between operands
abbrev pub operators : List ℕ
operators = kind_code plus_sign ∷ kind_code minus_sign ∷ scalings

scaling_in : (s : Scaling) → one_of (kind_code (scaling_kind s)) scalings ≡ true
scaling_in times = refl
scaling_in over = refl
scaling_in modulo = refl

adding_in : (a : Adding) → one_of (kind_code (adding_kind a)) operators ≡ true
adding_in plus = refl
adding_in minus = refl

same_scaling : (s r : Scaling) → scaling_kind s ≡ scaling_kind r → s ≡ r
same_scaling times times same = refl
same_scaling over over same = refl
same_scaling modulo modulo same = refl
same_scaling s r same = absurd (omega (arith, ap kind_code same))

same_adding : (a b : Adding) → adding_kind a ≡ adding_kind b → a ≡ b
same_adding plus plus same = refl
same_adding minus minus same = refl
same_adding a b same = absurd (omega (arith, ap kind_code same))

same_comparing : (c d : Comparing) → kinds.Keyword (comparing_word c) ≡ kinds.Keyword (comparing_word d) → c ≡ d
same_comparing least least same = refl
same_comparing greatest greatest same = refl
same_comparing below below same = refl
same_comparing equal equal same = refl
same_comparing c d same = absurd (omega (arith, ap kind_code same))

-- what is no operator is none between factors
no_scaling : (u : List Lexed) → Apart operators u → Apart scalings u
no_scaling u apart = or_right _ _ (or_right _ _ apart)
  where
    or_right : (a b : Bool) → (a || b) ≡ false → b ≡ false
    or_right false b none = none
    or_right true b none = cc

-- what begins behind the factors of a term
sums_apart : (ss : SumsForm) (u : List Lexed) → Apart operators u → Apart scalings (sums_text ss u)
sums_apart no_sum u apart = no_scaling u apart
sums_apart (sum plus l f ts ss) u apart = refl
sums_apart (sum minus l f ts ss) u apart = refl

-- ---- which form of a factor

abbrev tag : FactorForm → ℕ
tag (forms.FactorForm.number n) = 0
tag (register r l) = 1
tag (index i l) = 2
tag (negate m f) = 3
tag (group o e c) = 4
tag (pick w o e c) = 5
tag (compare f w o a m b c) = 6

abbrev tag_at : ℕ → ℕ
tag_at code =
    if code == kind_code any_number then 0
    else if code == kind_code any_register then 1
    else if code == kind_code any_index then 2
    else if code == kind_code minus_sign then 3
    else if code == kind_code open_parenthesis then 4
    else if code == kind_code (kinds.Keyword Pick) then 5
    else 6

tag_first : (f : FactorForm) (u : List Lexed) → tag_at (first_code (factor_text f u)) ≡ tag f
tag_first (forms.FactorForm.number n) u = refl
tag_first (register r l) u = refl
tag_first (index i l) u = refl
tag_first (negate m f) u = refl
tag_first (group o e c) u = refl
tag_first (pick w o e c) u = refl
tag_first (compare least w o a m b c) u = refl
tag_first (compare greatest w o a m b c) u = refl
tag_first (compare below w o a m b c) u = refl
tag_first (compare equal w o a m b c) u = refl

same_tag : (f g : FactorForm) (u v : List Lexed) → factor_text f u ≡ factor_text g v → tag f ≡ tag g
same_tag f g u v same =
    sym (tag_first f u) ∙ ap (λ (x : List Lexed). tag_at (first_code x)) same ∙ tag_first g v

mutual
  pub unique_expr : (x y : ExprForm) (u v : List Lexed) → Apart operators u → Apart operators v → expr_text x u ≡ expr_text y v
      → Agree x y u v
  unique_expr (expr f ts ss) (expr g rs qs) u v p q same =
      let factors = unique_factor f g _ _ same in
      let scaled = unique_terms ts rs _ _ (sums_apart ss u p) (sums_apart qs v q) factors.rests in
      let added = unique_sums ss qs u v p q scaled.rests in
      record { forms = cc; rests = added.rests }

  unique_factor : (f g : FactorForm) (u v : List Lexed) → factor_text f u ≡ factor_text g v → Agree f g u v
  unique_factor (forms.FactorForm.number n) (forms.FactorForm.number m) u v same =
      let value : n ≡ m = same_num n m u v same in
      record { forms = ap forms.FactorForm.number value; rests = same_rest _ _ u v same }
  unique_factor (register r l) (register s m) u v same =
      let value : r ≡ s = same_register r s l m u v same in
      let leaf : l ≡ m = same_leaf (Register r) (Register s) l m u v same in
      record { forms = cc; rests = same_rest _ _ u v same }
  unique_factor (index r l) (index s m) u v same =
      let value : r ≡ s = same_index r s l m u v same in
      let leaf : l ≡ m = same_leaf (Index r) (Index s) l m u v same in
      record { forms = cc; rests = same_rest _ _ u v same }
  unique_factor (negate m f) (negate k g) u v same =
      let sign : m ≡ k = same_leaf minus_sign minus_sign m k _ _ same in
      let operand = unique_factor f g u v (same_rest _ _ _ _ same) in
      record { forms = cc; rests = operand.rests }
  unique_factor (group o e c) (group p d q) u v same =
      let opens : o ≡ p = same_leaf open_parenthesis open_parenthesis o p _ _ same in
      let inside = unique_expr e d (tok close_parenthesis c ∷ u) (tok close_parenthesis q ∷ v) refl refl (same_rest _ _ _ _ same) in
      let closes : c ≡ q = same_leaf close_parenthesis close_parenthesis c q u v inside.rests in
      record { forms = cc; rests = same_rest _ _ u v inside.rests }
  unique_factor (pick w o e c) (pick x p d q) u v same =
      let word : w ≡ x = same_leaf (kinds.Keyword Pick) (kinds.Keyword Pick) w x _ _ same in
      let behind = same_rest _ _ _ _ same in
      let opens : o ≡ p = same_leaf open_parenthesis open_parenthesis o p _ _ behind in
      let inside = unique_expr e d (tok close_parenthesis c ∷ u) (tok close_parenthesis q ∷ v) refl refl (same_rest _ _ _ _ behind) in
      let closes : c ≡ q = same_leaf close_parenthesis close_parenthesis c q u v inside.rests in
      record { forms = cc; rests = same_rest _ _ u v inside.rests }
  unique_factor (compare f w o a m b c) (compare g x p d n e q) u v same =
      let which : f ≡ g =
      same_comparing f g (same_kind (kinds.Keyword (comparing_word f)) (kinds.Keyword (comparing_word g)) w x _ _ same) in
      let word : w ≡ x = same_leaf (kinds.Keyword (comparing_word f)) (kinds.Keyword (comparing_word g)) w x _ _ same in
      let behind = same_rest _ _ _ _ same in
      let opens : o ≡ p = same_leaf open_parenthesis open_parenthesis o p _ _ behind in
      let left =
      unique_expr a d (tok comma m ∷ expr_text b (tok close_parenthesis c ∷ u))
      (tok comma n ∷ expr_text e (tok close_parenthesis q ∷ v)) refl refl
      (same_rest _ _ _ _ behind) in
      let middle : m ≡ n = same_leaf comma comma m n _ _ left.rests in
      let right = unique_expr b e (tok close_parenthesis c ∷ u) (tok close_parenthesis q ∷ v) refl refl (same_rest _ _ _ _ left.rests) in
      let closes : c ≡ q = same_leaf close_parenthesis close_parenthesis c q u v right.rests in
      record { forms = cc; rests = same_rest _ _ u v right.rests }
  unique_factor f g u v same = absurd (omega (arith, same_tag f g u v same))

  unique_terms : (x y : TermsForm) (u v : List Lexed) → Apart scalings u → Apart scalings v → terms_text x u ≡ terms_text y v
      → Agree x y u v
  unique_terms no_term no_term u v p q same = record { forms = refl; rests = same }
  unique_terms no_term (term s l f ts) u v p q same = clash scalings u _ p same (scaling_in s)
  unique_terms (term s l f ts) no_term u v p q same = clash scalings v _ q (sym same) (scaling_in s)
  unique_terms (term s l f ts) (term r m g rs) u v p q same =
      let which : s ≡ r = same_scaling s r (same_kind (scaling_kind s) (scaling_kind r) l m _ _ same) in
      let leaf : l ≡ m = same_leaf (scaling_kind s) (scaling_kind r) l m _ _ same in
      let factors = unique_factor f g _ _ (same_rest _ _ _ _ same) in
      let later = unique_terms ts rs u v p q factors.rests in
      record { forms = cc; rests = later.rests }

  unique_sums : (x y : SumsForm) (u v : List Lexed) → Apart operators u → Apart operators v → sums_text x u ≡ sums_text y v
      → Agree x y u v
  unique_sums no_sum no_sum u v p q same = record { forms = refl; rests = same }
  unique_sums no_sum (sum a l f ts ss) u v p q same = clash operators u _ p same (adding_in a)
  unique_sums (sum a l f ts ss) no_sum u v p q same = clash operators v _ q (sym same) (adding_in a)
  unique_sums (sum a l f ts ss) (sum b m g rs qs) u v p q same =
      let which : a ≡ b = same_adding a b (same_kind (adding_kind a) (adding_kind b) l m _ _ same) in
      let leaf : l ≡ m = same_leaf (adding_kind a) (adding_kind b) l m _ _ same in
      let factors = unique_factor f g _ _ (same_rest _ _ _ _ same) in
      let scaled = unique_terms ts rs _ _ (sums_apart ss u p) (sums_apart qs v q) factors.rests in
      let later = unique_sums ss qs u v p q scaled.rests in
      record { forms = cc; rests = later.rests }
