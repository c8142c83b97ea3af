-- What may stand behind a symbol that may be left out: no token that the symbol takes.
use Rattle.std.proofs.Common.{◌≡◌, ℕ, zero, suc, Bool, true, false, not, ◌==◌, ◌&&◌, ◌||◌, inl, inr, List, [], ◌∷◌, ◌++◌, Option, Some, None, Ok, refl, sym, subst, arith}
use Rattle.std.specs.Prelude.{if◌then◌else◌, map}
use Rattle.std.specs.List.{list_all}
use Rattle.std.proofs.Math.Bool.{or-true}
use Rattle.std.proofs.lemmas.Bool.Decides.{nat_tests}
use Rattle.fm_lex.specs.Bytes.{one_of}
use Rattle.fm_lex.specs.Tokens.{Lexeme, Lexed}
use Rattle.fm_lex.specs.declared.kind.Kind.{Kind}
use Rattle.fm_lex.specs.declared.kind.Kind.TheVariants.{End}
use Rattle.fm_lex.specs.declared.kind.Kind.TheVariants as kinds
use Rattle.fm_lex.specs.declared.keyword.Keyword.TheVariants.{Ticks}
use Rattle.fm_grammar.specs.Signs.{semicolon, close_brace, open_brace, close_parenthesis, comma, close_bracket, plus_sign, minus_sign}
use Rattle.fm_grammar.specs.Within.{Limits}
use Rattle.fm_grammar.specs.Rules.{Sym, one, inner, factor, terms, sums, length, part, amount, duration, pitch, counted, mores, stmts, otherwise, branches, entries, seeded, pitches, lengths, numbers, parts, Rule, any_number, kind_code, rules_of, may_end, whole}
use Rattle.fm_grammar.specs.Table.{taking, Stack, left_out, fed_on, feed}
use Rattle.fm_grammar.proofs.Fits.{Fits}
use Rattle.fm_grammar.proofs.Alive.{taking_in, each_rule}

-- ---- first tokens and followers

-- the kinds of the first tokens of some rules
abbrev pub firsts_of : List Rule → List ℕ
firsts_of rs = map (λ r. kind_code r.first) rs

-- the first tokens of a symbol
abbrev pub firsts : Sym → List ℕ
firsts s = firsts_of (rules_of s)

-- what may stand behind an expression
abbrev after_expr : List ℕ
after_expr =
    kind_code close_parenthesis ∷ kind_code comma ∷ kind_code semicolon ∷ kind_code open_brace ∷ []

-- what may stand behind a symbol that may be left out
abbrev pub followers : Sym → List ℕ
followers terms = kind_code plus_sign ∷ kind_code minus_sign ∷ after_expr
followers sums = after_expr
followers (mores pitches) = kind_code any_number ∷ kind_code (kinds.Keyword Ticks) ∷ kind_code semicolon ∷ []
followers (mores lengths) = kind_code close_bracket ∷ []
followers (mores numbers) = kind_code close_bracket ∷ []
followers (mores parts) = kind_code semicolon ∷ []
followers stmts = kind_code close_brace ∷ []
followers otherwise = kind_code close_brace ∷ kind_code End ∷ firsts entries
followers branches = kind_code close_brace ∷ []
followers entries = kind_code End ∷ []
followers seeded = kind_code End ∷ firsts entries
followers s = []

-- whether a token may come first from a stack
abbrev pub may_begin : List Sym → ℕ → Bool
may_begin [] code = false
may_begin (s ∷ ss) code = one_of code (firsts s) || (may_end s && may_begin ss code)

-- behind each symbol that may be left out only its followers come
abbrev pub Fine : List Sym → Type 0
Fine [] = Unit {0}
Fine (s ∷ ss) =
    ((code : ℕ) → may_end s ≡ true → may_begin ss code ≡ true → one_of code (followers s) ≡ true) × Fine ss

-- ---- no symbol takes what may stand behind it

followers_apart : (s : Sym) → may_end s ≡ true → list_all (λ code. not (one_of code (firsts s))) (followers s) ≡ true
followers_apart terms may = refl
followers_apart sums may = refl
followers_apart (mores pitches) may = refl
followers_apart (mores lengths) may = refl
followers_apart (mores numbers) may = refl
followers_apart (mores parts) may = refl
followers_apart stmts may = refl
followers_apart otherwise may = refl
followers_apart branches may = refl
followers_apart entries may = refl
followers_apart seeded may = refl
followers_apart s may = cc

true_false : true ≡ false → ⊥
true_false same = cc

and_left : (a b : Bool) → (a && b) ≡ true → a ≡ true
and_left true b both = refl
and_left false b both = cc

and_right : (a b : Bool) → (a && b) ≡ true → b ≡ true
and_right true b both = both
and_right false b both = cc

covered_if : (a b : Bool) → a ≡ true → (if a then b else true) ≡ true → b ≡ true
covered_if true b is both = both
covered_if false b is both = cc

-- what is true of each number of a list is true of one of them
each_step : (holds : ℕ → Bool) (code x : ℕ) (xs : List ℕ) (b : Bool) → (code == x) ≡ b
    → (holds x && list_all holds xs) ≡ true → one_of code (x ∷ xs) ≡ true
    → (list_all holds xs ≡ true → one_of code xs ≡ true → holds code ≡ true) → holds code ≡ true
each_step holds code x xs true same all found on =
    let is : code ≡ x = grind (arith, nat_tests) in
    let here : holds x ≡ true = grind arith in
    rw is here
each_step holds code x xs false same all found on =
    let later : one_of code xs ≡ true = rw same at found in on (grind arith) later

-- what is true of each number of a list is true of one of them
pub each_of : (holds : ℕ → Bool) (code : ℕ) (xs : List ℕ) → list_all holds xs ≡ true → one_of code xs ≡ true → holds code ≡ true
each_of holds code [] all found = cc
each_of holds code (x ∷ xs) all found = each_step holds code x xs (code == x) refl all found (each_of holds code xs)

none_step : (code : ℕ) (r : Rule) (rs : List Rule) (b : Bool) → (kind_code r.first == code) ≡ b
    → one_of code (firsts_of (r ∷ rs)) ≡ false → (one_of code (firsts_of rs) ≡ false → taking code rs ≡ None)
    → taking code (r ∷ rs) ≡ None
none_step code r rs true same apart on =
    let is : (code == kind_code r.first) ≡ true = grind (arith, nat_tests) in
    absurd (true_false (rw is at apart))
none_step code r rs false same apart on =
    let is : (code == kind_code r.first) ≡ false = grind (arith, nat_tests) in
    let later : one_of code (firsts_of rs) ≡ false = rw is at apart in
    rw same (on later)

none_taken : (code : ℕ) (rs : List Rule) → one_of code (firsts_of rs) ≡ false → taking code rs ≡ None
none_taken code [] apart = refl
none_taken code (r ∷ rs) apart = none_step code r rs (kind_code r.first == code) refl apart (none_taken code rs)

-- a symbol takes nothing that may stand behind it
pub no_rule : (s : Sym) (code : ℕ) → may_end s ≡ true → one_of code (followers s) ≡ true → taking code (rules_of s) ≡ None
no_rule s code may follows =
    let apart : not (one_of code (firsts s)) ≡ true =
    each_of (λ c. not (one_of c (firsts s))) code (followers s) (followers_apart s may) follows in
    none_taken code (rules_of s) (grind arith)

-- ---- a token that is taken begins

some_step : (code : ℕ) (next : List Sym) (r : Rule) (rs : List Rule) (b : Bool) → (kind_code r.first == code) ≡ b
    → taking code (r ∷ rs) ≡ Some next → (taking code rs ≡ Some next → one_of code (firsts_of rs) ≡ true)
    → one_of code (firsts_of (r ∷ rs)) ≡ true
some_step code next r rs true same took on =
    let is : (code == kind_code r.first) ≡ true = grind (arith, nat_tests) in rw is refl
some_step code next r rs false same took on =
    let is : (code == kind_code r.first) ≡ false = grind (arith, nat_tests) in
    let later : taking code rs ≡ Some next = rw same at took in
    rw is (on later)

-- a token that is taken is one of the first ones
pub some_taken : (code : ℕ) (next : List Sym) (rs : List Rule) → taking code rs ≡ Some next → one_of code (firsts_of rs) ≡ true
some_taken code next [] took = cc
some_taken code next (r ∷ rs) took = some_step code next r rs (kind_code r.first == code) refl took (some_taken code next rs)

-- the first token of what fits may begin
pub fits_begins : (most : Limits) (n u : ℕ) (ss : List Sym) (t : Lexeme) (w : List Lexed)
    → Fits most n u ss (Ok t ∷ w) → may_begin ss (kind_code t.kind) ≡ true
fits_begins most zero u ss t w fits = absurd fits
fits_begins most (suc n) u [] t w fits = cc
fits_begins most (suc n) u (s ∷ ss) t w (inl f) =
    let token : t ≡ f.token = cc in
    let here : one_of (kind_code t.kind) (firsts s) ≡ true = rw token (some_taken _ f.next (rules_of s) f.rule) in
    rw here refl
fits_begins most (suc n) u (s ∷ ss) t w (inr f) =
    let may = f.may in
    let on : may_begin ss (kind_code t.kind) ≡ true = fits_begins most n (left_out s u) ss t w f.fits in
    rw (may, on) (or-true (one_of (kind_code t.kind) (firsts s)))

-- ---- the rules keep it so

-- all that may begin these symbols, and behind them these kinds where the symbols may all be left out, is in a list
abbrev pub covers : Bool → List ℕ → List ℕ → List Sym → Bool
covers ends last all [] = ends && list_all (λ code. one_of code all) last
covers ends last all (y ∷ ys) =
    list_all (λ code. one_of code all) (firsts y) && (if may_end y then covers ends last all ys else true)

-- what comes behind each symbol of a rule that may be left out is among its followers
abbrev pub fine_next : Bool → List ℕ → List Sym → Bool
fine_next ends last [] = true
fine_next ends last (x ∷ xs) = (if may_end x then covers ends last (followers x) xs else true) && fine_next ends last xs

rules_fine : (s : Sym) → list_all (λ r. fine_next (may_end s) (followers s) r.next) (rules_of s) ≡ true
rules_fine (one k) = refl
rules_fine (inner k) = refl
rules_fine factor = refl
rules_fine terms = refl
rules_fine sums = refl
rules_fine length = refl
rules_fine part = refl
rules_fine amount = refl
rules_fine duration = refl
rules_fine pitch = refl
rules_fine counted = refl
rules_fine (mores pitches) = refl
rules_fine (mores lengths) = refl
rules_fine (mores numbers) = refl
rules_fine (mores parts) = refl
rules_fine stmts = refl
rules_fine otherwise = refl
rules_fine branches = refl
rules_fine entries = refl
rules_fine seeded = refl

covers_step : (ends : Bool) (last all : List ℕ) (y : Sym) (ys ss : List Sym) (code : ℕ) (here may : Bool)
    → one_of code (firsts y) ≡ here → may_end y ≡ may
    → (list_all (λ c. one_of c all) (firsts y) && (if may_end y then covers ends last all ys else true)) ≡ true
    → (one_of code (firsts y) || (may_end y && may_begin (ys ++ ss) code)) ≡ true
    → (covers ends last all ys ≡ true → may_begin (ys ++ ss) code ≡ true → one_of code all ≡ true)
    → one_of code all ≡ true
covers_step ends last all y ys ss code true may is may_is covered begins on =
    each_of (λ c. one_of c all) code (firsts y) (grind arith) is
covers_step ends last all y ys ss code false true is may_is covered begins on =
    on (and_right (list_all (λ c. one_of c all) (firsts y)) (covers ends last all ys) (rw may_is at covered)) (rw (is, may_is) at begins)
covers_step ends last all y ys ss code false false is may_is covered begins on = absurd (true_false (sym (rw (is, may_is) at begins)))

covers_begin : (ends : Bool) (last all : List ℕ) (xs ss : List Sym) (code : ℕ) → covers ends last all xs ≡ true
    → (ends ≡ true → may_begin ss code ≡ true → one_of code last ≡ true)
    → may_begin (xs ++ ss) code ≡ true → one_of code all ≡ true
covers_begin ends last all [] ss code covered behind begins =
    let is : ends ≡ true = grind arith in
    let each : list_all (λ c. one_of c all) last ≡ true = grind arith in
    each_of (λ c. one_of c all) code last each (behind is begins)
covers_begin ends last all (y ∷ ys) ss code covered behind begins =
    covers_step ends last all y ys ss code (one_of code (firsts y)) (may_end y) refl refl covered begins
    (λ on begun. covers_begin ends last all ys ss code on behind begun)

next_fine : (ends : Bool) (last : List ℕ) (xs ss : List Sym) → fine_next ends last xs ≡ true
    → ((code : ℕ) → ends ≡ true → may_begin ss code ≡ true → one_of code last ≡ true) → Fine ss → Fine (xs ++ ss)
next_fine ends last [] ss fine behind fine_ss = fine_ss
next_fine ends last (x ∷ xs) ss fine behind fine_ss = (
  (λ code may begins. covers_begin ends last (followers x) xs ss code
      (covered_if (may_end x) (covers ends last (followers x) xs) may (and_left _ (fine_next ends last xs) fine)) (behind code) begins),
  next_fine ends last xs ss (and_right (if may_end x then covers ends last (followers x) xs else true) _ fine) behind fine_ss,
)

fed_fine : (u : ℕ) (s : Sym) (ss : List Sym) (k : Kind) (st : Stack) (found : Option (List Sym)) (may : Bool)
    → taking (kind_code k) (rules_of s) ≡ found → may_end s ≡ may → Fine (s ∷ ss)
    → fed_on s u found ss (feed (left_out s u) ss k) ≡ Some st → (feed (left_out s u) ss k ≡ Some st → Fine st.syms)
    → Fine st.syms
fed_fine u s ss k st (Some next) may took is fine taken on =
    let same : next ++ ss ≡ st.syms = cc in
    let rule : fine_next (may_end s) (followers s) next ≡ true =
    each_rule (fine_next (may_end s) (followers s)) (kind_code k) next (rules_of s) (rules_fine s) (taking_in _ next (rules_of s) took) in
    subst Fine same (next_fine (may_end s) (followers s) next ss rule fine.0 fine.1)
fed_fine u s ss k st None true took is fine taken on = on (rw is at taken)
fed_fine u s ss k st None false took is fine taken on = cc

-- behind a token the followers are kept
pub feed_fine : (u : ℕ) (ss : List Sym) (k : Kind) (st : Stack) → Fine ss → feed u ss k ≡ Some st → Fine st.syms
feed_fine u [] k st fine taken = cc
feed_fine u (s ∷ ss) k st fine taken =
    fed_fine u s ss k st (taking (kind_code k) (rules_of s)) (may_end s) refl refl fine taken (feed_fine (left_out s u) ss k st fine.1)

-- behind each symbol of a whole text only its followers come
pub whole_fine : (divided : Bool) → Fine (whole divided)
whole_fine true = next_fine false [] (whole true) [] refl (λ (code : ℕ) no begins. absurd (true_false (sym no))) tt
whole_fine false = next_fine false [] (whole false) [] refl (λ (code : ℕ) no begins. absurd (true_false (sym no))) tt
