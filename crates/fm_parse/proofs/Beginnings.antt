-- Where a statement begins.
use Rattle.std.proofs.Common.{◌≡◌, ℕ, zero, suc, ◌+◌, ◌<◌, ◌≤◌, max, inl, Bool, true, false, cond, List, [], ◌∷◌, ◌++◌, Option, Some, None, Ok, refl, sym, ap, ◌∙◌, subst, append_assoc, arith}
use Rattle.std.specs.Prelude.{◌==◌, if◌then◌else◌}
use Rattle.fm_lex.specs.declared.kind.Kind.{Kind}
use Rattle.fm_lex.specs.declared.kind.Kind.TheVariants.{Name}
use Rattle.fm_lex.specs.declared.kind.Kind.TheVariants as kinds
use Rattle.fm_lex.specs.declared.keyword.Keyword.{Keyword}
use Rattle.fm_lex.specs.declared.keyword.Keyword.TheVariants.{Note, If, Repeat, Warp, Par, Channel, Volume, Gate, Rhythm, Artic, Loud, Branch}
use Rattle.fm_lex.specs.Tokens.{Lexeme, Lexed}
use Rattle.fm_grammar.specs.Reads.{Fault, too_nested}
use Rattle.fm_grammar.specs.Signs.{open_brace, close_brace, open_bracket, close_bracket}
use Rattle.fm_grammar.specs.Rules.{Sym, one, stmts, entries, otherwise, branches, counted, any_number, lengths, numbers, expr, with_commas, kind_code, rules_of, inside}
use Rattle.fm_grammar.specs.Table.{taking, one_less, opened_by, opened, peak, need, want}
use Rattle.fm_terms.specs.Reader.{tail, first_kind}
use Rattle.fm_terms.specs.Follow.{At, IsThere}
use Rattle.fm_parse.specs.Statements.{begins, starter, stmt_rest, stmt_syms, braces_needed, IsMain}
use Rattle.fm_terms.proofs.Steps.{begun, nested, skipped}
use Rattle.fm_parse.proofs.StmtRules.{definitions, stmt_rule, no_stmt_rule}

-- ---- the symbols of statements

main_outside : (s : Sym) → IsMain s → inside s ≡ false
main_outside stmts main = refl
main_outside entries main = refl
main_outside s main = absurd main

-- no braces are opened by the statements that may come
pub opened_main : (s : Sym) (below : List Sym) → IsMain s → opened (s ∷ below) ≡ opened below
opened_main stmts below main = refl
opened_main entries below main = refl
opened_main s below main = absurd main

main_want : (s : Sym) (u : ℕ) (below : List Sym) → IsMain s → want u (s ∷ below) ≡ max u (want 0 below)
main_want stmts u below main = refl
main_want entries u below main = refl
main_want s u below main = absurd main

main_rule : (s : Sym) (w : Keyword) → IsMain s → begins w ≡ true
    → taking (kind_code (kinds.Keyword w)) (rules_of s) ≡ Some (stmt_rest w ++ s ∷ [])
main_rule stmts w main b = stmt_rule stmts [] w b
main_rule entries w main b = stmt_rule entries definitions w b
main_rule s w main b = absurd main

-- ---- the braces of a statement, before what follows it

-- a brace less, above further braces
less_over : (a n m : ℕ) → a ≤ n + m → one_less a ≤ one_less n + m
less_over zero n m h = omega arith
less_over (suc a) zero m h = omega (arith, h)
less_over (suc a) (suc n) m h = omega (arith, h)

opened_tests : (closes opens : Bool) (a n m : ℕ) → a ≤ n + m
    → cond closes (suc a) (cond opens (one_less a) a) ≤ cond closes (suc n) (cond opens (one_less n) n) + m
opened_tests true opens a n m h = omega (arith, h)
opened_tests false true a n m h = less_over a n m h
opened_tests false false a n m h = h

-- above further braces a symbol opens no more
opened_over : (s : Sym) (a n m : ℕ) → a ≤ n + m → opened_by s a ≤ opened_by s n + m
opened_over (one k) a n m h =
    opened_tests (kind_code k == kind_code close_brace) (kind_code k == kind_code open_brace) a n m h
opened_over s a n m h = h

opened_append : (xs ss : List Sym) → opened (xs ++ ss) ≤ opened xs + opened ss
opened_append [] ss = omega arith
opened_append (x ∷ xs) ss = opened_over x (opened (xs ++ ss)) (opened xs) (opened ss) (opened_append xs ss)

peak_append : (xs ss : List Sym) → opened ss + peak xs ≤ 64 → peak ss ≤ 64 → peak (xs ++ ss) ≤ 64
peak_append [] ss h p = p
peak_append (x ∷ xs) ss h p =
    both (opened (x ∷ (xs ++ ss))) (opened (x ∷ xs)) (opened_append (x ∷ xs) ss) h
    (peak_append xs ss (above (opened (x ∷ xs)) h) p)
  where
    above : (b : ℕ) → opened ss + max b (peak xs) ≤ 64 → opened ss + peak xs ≤ 64
    above b most = omega (arith, most)

    both : (a b : ℕ) → a ≤ b + opened ss → opened ss + max b (peak xs) ≤ 64 → peak (xs ++ ss) ≤ 64
        → max a (peak (xs ++ ss)) ≤ 64
    both a b less most rest = omega (arith, less, most, rest)

-- more braces are open somewhere than behind
peak_over : (xs ys : List Sym) → 64 < opened ys → 64 < peak (xs ++ ys)
peak_over [] [] h = absurd (omega (arith, h))
peak_over [] (y ∷ ys) h = above (opened (y ∷ ys)) h
  where
    above : (a : ℕ) → 64 < a → 64 < max a (peak ys)
    above a h = omega (arith, h)
peak_over (x ∷ xs) ys h = above (opened (x ∷ (xs ++ ys))) (peak (xs ++ ys)) (peak_over xs ys h)
  where
    above : (a b : ℕ) → 64 < b → 64 < max a b
    above a b h = omega (arith, h)

peak_alone : (w : Keyword) → peak (stmt_syms w) ≤ braces_needed w
peak_alone Note = omega arith
peak_alone w = omega arith

enough_braces : (w : Keyword) (ss : List Sym) → opened ss + braces_needed w ≤ 64 → peak ss ≤ 64
    → peak (stmt_syms w ++ ss) ≤ 64
enough_braces w ss h p = peak_append (stmt_syms w) ss (within (peak (stmt_syms w)) (peak_alone w)) p
  where
    within : (n : ℕ) → n ≤ braces_needed w → opened ss + n ≤ 64
    within n less = omega (arith, h, less)

-- a block that is open
abbrev opening : List Sym
opening = one open_brace ∷ stmts ∷ []

too_many_braces : (w : Keyword) (ss : List Sym) → 64 < opened ss + braces_needed w → opened ss ≤ 64
    → 64 < peak (stmt_rest w ++ ss)
too_many_braces If ss h small = peak_over (expr opening) (one close_brace ∷ otherwise ∷ ss) (omega (arith, h))
too_many_braces Repeat ss h small = peak_over (counted ∷ opening) (one close_brace ∷ ss) (omega (arith, h))
too_many_braces Warp ss h small = peak_over (one Name ∷ opening) (one close_brace ∷ ss) (omega (arith, h))
too_many_braces Par ss h small =
    peak_over (one open_brace ∷ one (kinds.Keyword Branch) ∷ opening)
    (one close_brace ∷ branches ∷ one close_brace ∷ ss) (omega (arith, h))
too_many_braces Channel ss h small = peak_over (one any_number ∷ opening) (one close_brace ∷ ss) (omega (arith, h))
too_many_braces Volume ss h small = peak_over (one any_number ∷ opening) (one close_brace ∷ ss) (omega (arith, h))
too_many_braces Gate ss h small = peak_over (one any_number ∷ opening) (one close_brace ∷ ss) (omega (arith, h))
too_many_braces Rhythm ss h small =
    peak_over (one open_bracket ∷ with_commas lengths (one close_bracket ∷ opening))
    (one close_brace ∷ ss) (omega (arith, h))
too_many_braces Artic ss h small =
    peak_over (one open_bracket ∷ with_commas numbers (one close_bracket ∷ opening))
    (one close_brace ∷ ss) (omega (arith, h))
too_many_braces Loud ss h small =
    peak_over (one open_bracket ∷ with_commas numbers (one close_bracket ∷ opening))
    (one close_brace ∷ ss) (omega (arith, h))
too_many_braces w ss h small = absurd (omega (arith, h, small))

-- ---- the tokens of its expressions

-- the count behind symbols
abbrev ending : ℕ → List Sym → ℕ
ending u [] = u
ending u (s ∷ ss) = if inside s then ending (u + need s) ss else ending 0 ss

want_append : (xs ss : List Sym) (u : ℕ) → want u xs ≤ 64 → want (ending u xs) ss ≤ 64 → want u (xs ++ ss) ≤ 64
want_append [] ss u h e = e
want_append (x ∷ xs) ss u h e = by (inside x) (u + need x) (want_append xs ss) h e
  where
    by : (b : Bool) (v : ℕ)
        → ((w : ℕ) → want w xs ≤ 64 → want (ending w xs) ss ≤ 64 → want w (xs ++ ss) ≤ 64)
        → cond b (want v xs) (max u (want 0 xs)) ≤ 64
        → want (cond b (ending v xs) (ending 0 xs)) ss ≤ 64
        → cond b (want v (xs ++ ss)) (max u (want 0 (xs ++ ss))) ≤ 64
    by true v behind h e = behind v h e
    by false v behind h e = let rest = behind 0 (omega (arith, h)) e in omega (arith, h, rest)

want_alone : (w : Keyword) (u : ℕ) → u ≤ 64 → want u (stmt_syms w) ≤ 64
want_alone Note u h = omega (arith, h)
want_alone w u h = omega (arith, h)

ending_alone : (w : Keyword) (u : ℕ) → ending u (stmt_syms w) ≡ 0
ending_alone Note u = refl
ending_alone w u = refl

enough_tokens : (w : Keyword) (u : ℕ) (ss : List Sym) → u ≤ 64 → want 0 ss ≤ 64
    → want u (stmt_syms w ++ ss) ≤ 64
enough_tokens w u ss h p =
    want_append (stmt_syms w) ss u (want_alone w u h) (subst (λ v. want v ss ≤ 64) (sym (ending_alone w u)) p)

module _ (t : Lexeme) (l : List Lexed) (is : l ≡ Ok t ∷ tail l) (F : Option Fault) (u : ℕ) (below : List Sym) where
  rest_before : (w : Keyword) (s : Sym) → (stmt_rest w ++ s ∷ []) ++ below ≡ stmt_rest w ++ (s ∷ below)
  rest_before w s = append_assoc (stmt_rest w) (s ∷ []) below

  -- a statement begins
  pub stmt_begun : (s : Sym) (w : Keyword) → IsMain s → begins w ≡ true → t.kind ≡ kinds.Keyword w
      → opened below + braces_needed w ≤ 64 → At F u (s ∷ below) l → At F u (stmt_syms w ++ (s ∷ below)) l
  stmt_begun s w main b kind h a =
      let braces = enough_braces w (s ∷ below) (omega (arith, h, opened_main s below main)) a.braces in
      let tokens = enough_tokens w u (s ∷ below) (omega (arith, a.tokens, main_want s u below main))
      (omega (arith, a.tokens, main_want s u below main, main_want s 0 below main)) in
      subst (λ x. At F u (one (kinds.Keyword w) ∷ x) l) (rest_before w s)
      (begun t l is F u s (kinds.Keyword w) (stmt_rest w ++ s ∷ []) below (main_outside s main) kind
      (main_rule s w main b)
      (subst (λ x. peak (one (kinds.Keyword w) ∷ x) ≤ 64) (sym (rest_before w s)) braces)
      (subst (λ x. want u (one (kinds.Keyword w) ∷ x) ≤ 64) (sym (rest_before w s)) tokens) a)

  -- a statement would open too many braces
  pub stmt_deep : (s : Sym) (w : Keyword) → IsMain s → begins w ≡ true → t.kind ≡ kinds.Keyword w
      → 64 < opened below + braces_needed w → opened below ≤ 64 → At F u (s ∷ below) l → F ≡ Some (too_nested t.spot)
  stmt_deep s w main b kind h small a =
      let rule = main_rule s w main b in
      let outside = main_outside s main in
      let around = opened_main s below main in
      nested t l is F u (s ∷ below) 0 (stmt_rest w ++ (s ∷ below)) a (rw (kind, rule, outside, rest_before w s) refl)
      (inl (too_many_braces w (s ∷ below) (omega (arith, h, around)) (omega (arith, small, around))))

-- the word of a statement, by the value that it has
pub at_word : (F : Option Fault) (u : ℕ) (below : List Sym) {w v : Keyword} {l : List Lexed} → w ≡ v
    → At F u (stmt_syms w ++ below) l → At F u (stmt_syms v ++ below) l
at_word F u below {w} {v} {l} is a = subst (λ x. At F u (stmt_syms x ++ below) l) is a

-- without a word of a statement none begins
no_starter_rule : (k : Kind) → starter k ≡ None → taking (kind_code k) (rules_of stmts) ≡ None
no_starter_rule k none = no_stmt_rule stmts [] k none

pub no_statement : (l : List Lexed) (there : IsThere l) (F : Option Fault) (u : ℕ) (below : List Sym)
    → starter (first_kind l) ≡ None → At F u (stmts ∷ below) l → At F 0 below l
no_statement l there F u below none a =
    let rule = no_starter_rule there.token.kind (ap starter (sym (ap first_kind there.is)) ∙ none) in
    skipped there.token l there.is F u stmts below refl refl rule a
