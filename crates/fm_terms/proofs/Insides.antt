-- The stack inside of an expression: what is owed below, and where its symbols begin.
use Rattle.std.proofs.Common.{◌≡◌, ℕ, ◌+◌, ◌<◌, ◌≤◌, List, [], ◌∷◌, ◌++◌, Option, Some, None, Ok, Err, refl, sym, ap, ◌∙◌, subst, arith, Result}
use Rattle.std.specs.Prelude.{◌≢◌}
use Rattle.fm_lex.specs.declared.kind.Kind.{Kind}
use Rattle.fm_lex.specs.declared.kind.Kind.TheVariants.{Symbol}
use Rattle.fm_lex.specs.declared.kind.Kind.TheVariants as kinds
use Rattle.fm_lex.specs.declared.keyword.Keyword.{Keyword}
use Rattle.fm_lex.specs.declared.keyword.Keyword.TheVariants.{Pick, Min, Max, Less, Same}
use Rattle.fm_lex.specs.Tokens.{Lexeme, Lexed}
use Rattle.fm_grammar.specs.Signs.{comma, close_parenthesis, open_parenthesis, minus_sign}
use Rattle.fm_grammar.specs.Reads.{Fault, expected, too_nested}
use Rattle.fm_grammar.specs.Grammar.{Scaling, times, over, modulo, Adding, plus, minus, Comparing, least, greatest, below as below_form, equal}
use Rattle.fm_grammar.specs.Spelling.{scaling_kind, adding_kind, comparing_word}
use Rattle.fm_grammar.specs.Rules.{Sym, one, inner, factor, terms, sums, expr, two_exprs, kind_code, rules_of}
use Rattle.fm_grammar.specs.Table.{taking, fed_on, feed, want}
use Rattle.fm_terms.specs.Reader.{tail}
use Rattle.fm_terms.specs.declared.fault.ParseFault.{ParseFault}
use Rattle.fm_terms.specs.Follow.{At, Says, Owes, Counts, IsDeep, Opens}
use Rattle.fm_terms.proofs.Steps.{goes, refused, begun_inner, deep_inner, skipped_inner, deep_says}

-- ---- what is owed

pub owes_sign : (k : Kind) (below : List Sym) (owed : ℕ) → Owes below owed → Owes (inner k ∷ below) (owed + 1)
owes_sign k below owed o = record { later = o.later; small = o.small; wants = λ v. omega (arith, o.wants (v + 1)) }

pub owes_terms : (below : List Sym) (owed : ℕ) → Owes below owed → Owes (terms ∷ below) owed
owes_terms below owed o = record { later = o.later; small = o.small; wants = λ v. omega (arith, o.wants (v + 0)) }

pub owes_sums : (below : List Sym) (owed : ℕ) → Owes below owed → Owes (sums ∷ below) owed
owes_sums below owed o = record { later = o.later; small = o.small; wants = λ v. omega (arith, o.wants (v + 0)) }

pub owes_factor : (below : List Sym) (owed : ℕ) → Owes below owed → Owes (factor ∷ below) (owed + 1)
owes_factor below owed o = record { later = o.later; small = o.small; wants = λ v. omega (arith, o.wants (v + 1)) }

pub owes_as : (below : List Sym) (owed owed' : ℕ) → owed ≡ owed' → Owes below owed → Owes below owed'
owes_as below owed owed' same o = subst (Owes below) same o

-- a comma and an expression, in parentheses
pub owes_second : (below : List Sym) (owed : ℕ) → Owes below owed
    → Owes (inner comma ∷ expr (inner close_parenthesis ∷ below)) (owed + 3)
owes_second below owed o =
    owes_as _ _ (owed + 3) (omega arith) (owes_sign comma _ _ (owes_factor _ _
    (owes_terms _ _ (owes_sums _ _ (owes_sign close_parenthesis below owed o)))))

-- outside of expressions nothing is owed
pub owes_none : (k : Kind) (below : List Sym) → want 0 below ≤ 64 → Owes (one k ∷ below) 0
owes_none k below w = record { later = want 0 below; small = w; wants = λ v. omega arith }

-- ---- where the forms of a factor begin

comparing_rule : (f : Comparing) → taking (kind_code (kinds.Keyword (comparing_word f))) (rules_of factor)
    ≡ Some two_exprs
comparing_rule least = refl
comparing_rule greatest = refl
comparing_rule below_form = refl
comparing_rule equal = refl

scaling_rule : (s : Scaling) → taking (kind_code (scaling_kind s)) (rules_of terms) ≡ Some (factor ∷ terms ∷ [])
scaling_rule times = refl
scaling_rule over = refl
scaling_rule modulo = refl

adding_rule : (s : Adding) → taking (kind_code (adding_kind s)) (rules_of sums) ≡ Some (factor ∷ terms ∷ sums ∷ [])
adding_rule plus = refl
adding_rule minus = refl

module _ (t : Lexeme) (l : List Lexed) (is : l ≡ Ok t ∷ tail l) (F : Option Fault) (u owed : ℕ) (below : List Sym)
    (o : Owes below owed) where
  at_minus : t.kind ≡ Symbol 45 → u + 2 + owed ≤ 64 → At F u (factor ∷ below) l
      → At F u (inner minus_sign ∷ factor ∷ below) l
  at_minus kind h a =
      begun_inner t l is F u factor minus_sign (factor ∷ []) below refl kind refl (omega (arith, a.braces))
      (omega (arith, h, o.small, o.wants (u + 1 + 1))) a

  deep_minus : t.kind ≡ Symbol 45 → 64 < u + 2 + owed → At F u (factor ∷ below) l → F ≡ Some (too_nested t.spot)
  deep_minus kind h a =
      deep_inner t l is F u factor minus_sign (factor ∷ []) below refl kind refl (omega (arith, h, o.wants (u + 1 + 1)))
      a

  at_group : t.kind ≡ Symbol 40 → u + 3 + owed ≤ 64 → At F u (factor ∷ below) l
      → At F u (inner open_parenthesis ∷ expr (inner close_parenthesis ∷ below)) l
  at_group kind h a =
      begun_inner t l is F u factor open_parenthesis (expr (inner close_parenthesis ∷ [])) below refl kind
      refl (omega (arith, a.braces))
      (omega (arith, h, o.small, o.wants (u + 1 + 1 + 0 + 0 + 1))) a

  deep_group : t.kind ≡ Symbol 40 → 64 < u + 3 + owed → At F u (factor ∷ below) l → F ≡ Some (too_nested t.spot)
  deep_group kind h a =
      deep_inner t l is F u factor open_parenthesis (expr (inner close_parenthesis ∷ [])) below refl kind refl
      (omega (arith, h, o.wants (u + 1 + 1 + 0 + 0 + 1))) a

  at_pick : t.kind ≡ kinds.Keyword Pick → u + 4 + owed ≤ 64 → At F u (factor ∷ below) l
      → At F u (inner (kinds.Keyword Pick) ∷ inner open_parenthesis ∷ expr (inner close_parenthesis ∷ below)) l
  at_pick kind h a =
      begun_inner t l is F u factor (kinds.Keyword Pick) (inner open_parenthesis ∷ expr (inner close_parenthesis ∷ []))
      below refl kind refl
      (omega (arith, a.braces)) (omega (arith, h, o.small, o.wants (u + 1 + 1 + 1 + 0 + 0 + 1))) a

  deep_pick : t.kind ≡ kinds.Keyword Pick → 64 < u + 4 + owed → At F u (factor ∷ below) l
      → F ≡ Some (too_nested t.spot)
  deep_pick kind h a =
      deep_inner t l is F u factor (kinds.Keyword Pick) (inner open_parenthesis ∷ expr (inner close_parenthesis ∷ []))
      below refl kind refl
      (omega (arith, h, o.wants (u + 1 + 1 + 1 + 0 + 0 + 1))) a

  at_compared : (f : Comparing) → t.kind ≡ kinds.Keyword (comparing_word f) → u + 6 + owed ≤ 64
      → At F u (factor ∷ below) l
      → At F u (inner (kinds.Keyword (comparing_word f)) ∷ (two_exprs ++ below)) l
  at_compared f kind h a =
      begun_inner t l is F u factor (kinds.Keyword (comparing_word f)) two_exprs below refl kind (comparing_rule f)
      (omega (arith, a.braces)) (omega (arith, h, o.small, o.wants (u + 1 + 1 + 1 + 0 + 0 + 1 + 1 + 0 + 0 + 1))) a

  deep_compared : (f : Comparing) → t.kind ≡ kinds.Keyword (comparing_word f) → 64 < u + 6 + owed
      → At F u (factor ∷ below) l
      → F ≡ Some (too_nested t.spot)
  deep_compared f kind h a =
      deep_inner t l is F u factor (kinds.Keyword (comparing_word f)) two_exprs below refl kind (comparing_rule f)
      (omega (arith, h, o.wants (u + 1 + 1 + 1 + 0 + 0 + 1 + 1 + 0 + 0 + 1))) a

  at_scaling : (s : Scaling) → t.kind ≡ scaling_kind s → u + 2 + owed ≤ 64 → At F u (terms ∷ below) l
      → At F u (inner (scaling_kind s) ∷ factor ∷ terms ∷ below) l
  at_scaling s kind h a =
      begun_inner t l is F u terms (scaling_kind s) (factor ∷ terms ∷ []) below refl kind (scaling_rule s)
      (omega (arith, a.braces)) (omega (arith, h, o.small, o.wants (u + 1 + 1 + 0))) a

  deep_scaling : (s : Scaling) → t.kind ≡ scaling_kind s → 64 < u + 2 + owed → At F u (terms ∷ below) l
      → F ≡ Some (too_nested t.spot)
  deep_scaling s kind h a =
      deep_inner t l is F u terms (scaling_kind s) (factor ∷ terms ∷ []) below refl kind (scaling_rule s)
      (omega (arith, h, o.wants (u + 1 + 1 + 0))) a

  pub no_scaling : taking (kind_code t.kind) (rules_of terms) ≡ None → At F u (terms ∷ below) l → At F u below l
  no_scaling rule a = skipped_inner t l is F u terms below refl refl rule
      (omega (arith, a.tokens, o.wants u, o.wants (u + 0))) a

  at_adding : (s : Adding) → t.kind ≡ adding_kind s → u + 2 + owed ≤ 64 → At F u (sums ∷ below) l
      → At F u (inner (adding_kind s) ∷ factor ∷ terms ∷ sums ∷ below) l
  at_adding s kind h a =
      begun_inner t l is F u sums (adding_kind s) (factor ∷ terms ∷ sums ∷ []) below refl kind (adding_rule s)
      (omega (arith, a.braces)) (omega (arith, h, o.small, o.wants (u + 1 + 1 + 0 + 0))) a

  deep_adding : (s : Adding) → t.kind ≡ adding_kind s → 64 < u + 2 + owed → At F u (sums ∷ below) l
      → F ≡ Some (too_nested t.spot)
  deep_adding s kind h a =
      deep_inner t l is F u sums (adding_kind s) (factor ∷ terms ∷ sums ∷ []) below refl kind (adding_rule s)
      (omega (arith, h, o.wants (u + 1 + 1 + 0 + 0))) a

  pub no_adding : taking (kind_code t.kind) (rules_of sums) ≡ None → At F u (sums ∷ below) l → At F u below l
  no_adding rule a = skipped_inner t l is F u sums below refl refl rule
      (omega (arith, a.tokens, o.wants u, o.wants (u + 0))) a

-- an answer that hands a fault on
pub stopped : (F : Option Fault) (below : List Sym) (r : Result ℕ ParseFault) (e : ParseFault) (new : List Lexed)
    → r ≡ Err e → Says e F → Counts F below r new
stopped F below r e new is says = subst (λ x. Counts F below x new) (sym is) says

-- the fault of a limit stands at the token that was looked at
pub deep_here : (F : Option Fault) (needed most : ℕ) (e : ParseFault) (t : Lexeme) (l : List Lexed) → l ≡ Ok t ∷ tail l
    → IsDeep needed most e l → F ≡ Some (too_nested t.spot) → Says e F
deep_here F needed most e t l is d says =
    let same : t ≡ d.token = let both = sym is ∙ d.is in cc in
    deep_says F needed most e l d (says ∙ ap (λ x. Some (too_nested x.spot)) same)

-- the sign of an operator, by its kind
marked_scaling : (F : Option Fault) (u : ℕ) (k : Kind) (s : Scaling) (below : List Sym) {l : List Lexed}
    → k ≡ scaling_kind s
    → At F u (inner (scaling_kind s) ∷ below) l → At F u (inner k ∷ below) l
marked_scaling F u k s below {l} is a = subst (λ x. At F u (inner x ∷ below) l) (sym is) a

marked_adding : (F : Option Fault) (u : ℕ) (k : Kind) (s : Adding) (below : List Sym) {l : List Lexed}
    → k ≡ adding_kind s
    → At F u (inner (adding_kind s) ∷ below) l → At F u (inner k ∷ below) l
marked_adding F u k s below {l} is a = subst (λ x. At F u (inner x ∷ below) l) (sym is) a

-- the word of two expressions
marked_comparing : (F : Option Fault) (u : ℕ) (w : Keyword) (f : Comparing) (below : List Sym) {l : List Lexed}
    → w ≡ comparing_word f
    → At F u (inner (kinds.Keyword (comparing_word f)) ∷ below) l → At F u (inner (kinds.Keyword w) ∷ below) l
marked_comparing F u w f below {l} is a = subst (λ x. At F u (inner (kinds.Keyword x) ∷ below) l) (sym is) a

-- ---- a factor of one token

pub no_factor : (F : Option Fault) (u : ℕ) (below : List Sym) (t : Lexeme) (l : List Lexed) → l ≡ Ok t ∷ tail l
    → taking (kind_code t.kind) (rules_of factor) ≡ None → At F u (factor ∷ below) l → F ≡ Some (expected t.spot)
no_factor F u below t l is rule a = refused t l is F u (factor ∷ below) a (ap (λ o. fed_on factor u o below
    (feed u below t.kind)) rule)

pub takes_factor : (F : Option Fault) (u : ℕ) (below : List Sym) (t : Lexeme) (l : List Lexed) → l ≡ Ok t ∷ tail l
    → taking (kind_code t.kind) (rules_of factor) ≡ Some [] → At F u (factor ∷ below) l → At F (u + 1) below (tail l)
takes_factor F u below t l is rule a =
    goes t l is F u (factor ∷ below) (u + 1) below a (ap (λ o. fed_on factor u o below (feed u below t.kind)) rule)
    (omega (arith, a.braces)) a.tokens

pub no_function : (w : Keyword) → w ≢ Pick → w ≢ Min → w ≢ Max → w ≢ Less → w ≢ Same
    → taking (kind_code (kinds.Keyword w)) (rules_of factor) ≡ None
no_function Pick p n x l s = absurd (p refl)
no_function Min p n x l s = absurd (n refl)
no_function Max p n x l s = absurd (x refl)
no_function Less p n x l s = absurd (l refl)
no_function Same p n x l s = absurd (s refl)
no_function w p n x l s = refl

-- ---- where a token opens further ones

module _ (F : Option Fault) (u owed : ℕ) (below : List Sym) (o : Owes below owed) {l : List Lexed} where
  pub open_minus : At F u (factor ∷ below) l → Opens F u minus_sign (factor ∷ below) (u + 2 + owed) l
  open_minus a = λ t is kind. (
    (λ deep. deep_minus t l is F u owed below o kind deep a),
    (λ h. at_minus t l is F u owed below o kind h a),
  )

  pub open_group : At F u (factor ∷ below) l
      → Opens F u open_parenthesis (expr (inner close_parenthesis ∷ below)) (u + 3 + owed) l
  open_group a = λ t is kind. (
    (λ deep. deep_group t l is F u owed below o kind deep a),
    (λ h. at_group t l is F u owed below o kind h a),
  )

  pub open_pick : At F u (factor ∷ below) l
      → Opens F u (kinds.Keyword Pick) (inner open_parenthesis ∷ expr (inner close_parenthesis ∷ below)) (u + 4 + owed) l
  open_pick a = λ t is kind. (
    (λ deep. deep_pick t l is F u owed below o kind deep a),
    (λ h. at_pick t l is F u owed below o kind h a),
  )

  pub open_compared : (w : Keyword) (f : Comparing) → w ≡ comparing_word f → At F u (factor ∷ below) l
      → Opens F u (kinds.Keyword w) (two_exprs ++ below) (u + 6 + owed) l
  open_compared w f word a = λ t is kind. (
    (λ deep. deep_compared t l is F u owed below o f (kind ∙ ap kinds.Keyword word) deep a),
    (λ h. marked_comparing F u w f _ word (at_compared t l is F u owed below o f (kind ∙ ap kinds.Keyword word) h a)),
  )

  pub open_scaling : (k : Kind) (s : Scaling) → k ≡ scaling_kind s → At F u (terms ∷ below) l
      → Opens F u k (factor ∷ terms ∷ below) (u + 2 + owed) l
  open_scaling k s sign a = λ t is kind. (
    (λ deep. deep_scaling t l is F u owed below o s (kind ∙ sign) deep a),
    (λ h. marked_scaling F u k s _ sign (at_scaling t l is F u owed below o s (kind ∙ sign) h a)),
  )

  pub open_adding : (k : Kind) (s : Adding) → k ≡ adding_kind s → At F u (sums ∷ below) l
      → Opens F u k (factor ∷ terms ∷ sums ∷ below) (u + 2 + owed) l
  open_adding k s sign a = λ t is kind. (
    (λ deep. deep_adding t l is F u owed below o s (kind ∙ sign) deep a),
    (λ h. marked_adding F u k s _ sign (at_adding t l is F u owed below o s (kind ∙ sign) h a)),
  )
