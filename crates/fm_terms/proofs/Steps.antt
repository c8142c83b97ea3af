-- One token more, on the stack of the symbols that must still come.
use Rattle.std.proofs.Common.{◌≡◌, ℕ, ◌+◌, ◌<◌, ◌≤◌, ◌⊎◌, inl, inr, Bool, true, false, cond, List, [], ◌∷◌, ◌++◌, Option, Some, None, Result, Ok, Err, refl, sym, ap, ◌∙◌, subst, arith, max}
use Rattle.std.specs.Prelude.{◌==◌, ◌≢◌, OnOk, IfErr, IsErrAnd}
use Rattle.std.proofs.lemmas.Bool.Decides.{nat_tests}
use Rattle.fm_lex.specs.declared.kind.Kind.{Kind}
use Rattle.fm_lex.specs.Tokens.{Lexeme, Lexed}
use Rattle.fm_grammar.specs.Reads.{Fault, expected, too_nested}
use Rattle.fm_grammar.specs.Within.{limits}
use Rattle.fm_grammar.specs.Rules.{rule_at, Sym, one, inner, kind_code, rules_of, may_end, inside}
use Rattle.fm_grammar.specs.Table.{Stack, taking, left_out, fed_on, feed, peak, want, goes_on, trip_on, trip}
use Rattle.fm_grammar.proofs.Tripping.{alive_goes}
use Rattle.fm_grammar.proofs.Telling.{Tells}
use Rattle.fm_terms.specs.declared.fault.ParseFault.{ParseFault}
use Rattle.fm_terms.specs.declared.fault.ParseFault.TheVariants.{Lex, Expected, TooNested, Memory}
use Rattle.fm_terms.specs.Reader.{tail, first_kind}
use Rattle.fm_terms.specs.Follow.{At, Says, Leads, IsLexical, IsThere, IsDeep}

-- ---- the test of the limits

within : (u : ℕ) (ss : List Sym) → peak ss ≤ 64 → want u ss ≤ 64 → goes_on limits (record { used = u; syms = ss })
    ≡ true
within u ss p w = alive_goes limits (record { used = u; syms = ss }) (record { peaks = p; wants = w })

past : (u : ℕ) (ss : List Sym) → (64 < peak ss) ⊎ (64 < want u ss) → goes_on limits (record { used = u; syms = ss })
    ≡ false
past u ss (inl p) = grind (arith, nat_tests)
past u ss (inr p) = grind (arith, nat_tests)

-- ---- tokens that begin with one that is known

module _ (t : Lexeme) (l : List Lexed) (is : l ≡ Ok t ∷ tail l) where
  -- the token is taken
  pub goes : (F : Option Fault) (u : ℕ) (ss : List Sym) (v : ℕ) (ss' : List Sym) → At F u ss l
      → feed u ss t.kind ≡ Some (record { used = v; syms = ss' }) → peak ss' ≤ 64 → want v ss' ≤ 64
      → At F v ss' (tail l)
  unfolding trip
  goes F u ss v ss' a e p w = record {
    trips = sym (ap (trip limits u ss) is ∙ ap (λ o. trip_on limits o t.spot (λ st. trip limits st.used
        st.syms (tail l))) e
        ∙ ap (λ c. cond c (trip limits v ss' (tail l)) (Some (too_nested t.spot))) (within v ss' p w)) ∙ a.trips;
    braces = p;
    tokens = w;
  }

  -- no text goes on with the token
  pub refused : (F : Option Fault) (u : ℕ) (ss : List Sym) → At F u ss l → feed u ss t.kind ≡ None
      → F ≡ Some (expected t.spot)
  unfolding trip
  refused F u ss a e =
      sym a.trips ∙ ap (trip limits u ss) is ∙ ap (λ o. trip_on limits o t.spot (λ st. trip limits st.used
      st.syms (tail l))) e

  -- the token needs more than the limits allow
  pub nested : (F : Option Fault) (u : ℕ) (ss : List Sym) (v : ℕ) (ss' : List Sym) → At F u ss l
      → feed u ss t.kind ≡ Some (record { used = v; syms = ss' }) → (64 < peak ss') ⊎ (64 < want v ss')
      → F ≡ Some (too_nested t.spot)
  unfolding trip
  nested F u ss v ss' a e p =
      sym a.trips ∙ ap (trip limits u ss) is ∙ ap (λ o. trip_on limits o t.spot (λ st. trip limits st.used
      st.syms (tail l))) e
      ∙ ap (λ c. cond c (trip limits v ss' (tail l)) (Some (too_nested t.spot))) (past v ss' p)

  -- two stacks that the token makes the same
  pub same_feed : (F : Option Fault) (u : ℕ) (ss : List Sym) (v : ℕ) (ss' : List Sym) → At F u ss l
      → feed u ss t.kind ≡ feed v ss' t.kind → peak ss' ≤ 64 → want v ss' ≤ 64 → At F v ss' l
  unfolding trip
  same_feed F u ss v ss' a e p w = record {
    trips = ap (trip limits v ss') is ∙ ap (λ o. trip_on limits o t.spot (λ st. trip limits st.used st.syms (tail l)))
        (sym e)
        ∙ sym (ap (trip limits u ss) is) ∙ a.trips;
    braces = p;
    tokens = w;
  }

-- ---- the lexer's fault

pub lexical_here : (F : Option Fault) (u : ℕ) (ss : List Sym) (e : ParseFault) (l : List Lexed) → At F u ss l
    → IsLexical e l → Says e F
unfolding trip
lexical_here F u ss (Lex f) l a is = sym a.trips ∙ ap (trip limits u ss) is
lexical_here F u ss (Expected s) l a is = absurd is
lexical_here F u ss (TooNested s) l a is = absurd is
lexical_here F u ss Memory l a is = absurd is

-- the answer of a call that hands a fault on
pub passed : {A : Type 0} (r : Result A ParseFault) (e : ParseFault) → IsErrAnd r (λ x. x ≡ e) → r ≡ Err e
passed (Ok x) e is = absurd is
passed (Err x) e is = ap Err is

-- what holds anyway
pub on_ok : {A : Type 0} {P : Type 0} (r : Result A ParseFault) → P → OnOk r P
on_ok (Ok x) p = p
on_ok (Err e) p = tt

-- an answer that hands a fault on
pub handed : {A : Type 0} (F : Option Fault) (u : ℕ) (ss : List Sym) (r : Result A ParseFault) (e : ParseFault)
    (new : List Lexed)
    → r ≡ Err e → Says e F → Leads F u ss r new
handed F u ss r e new is says = subst (λ x. Leads F u ss x new) (sym is) says

-- what follows a token that was taken, or the lexer's fault behind it
pub moved : (F : Option Fault) (u : ℕ) (ss : List Sym) (r : Result (Unit {0}) ParseFault) (l new : List Lexed)
    → OnOk r (new ≡ l) → IfErr r (λ e. IsLexical e l) → At F u ss l → Leads F u ss r new
moved F u ss (Ok x) l new ok err a = subst (λ y. At F u ss y) (sym ok) a
moved F u ss (Err e) l new ok err a = lexical_here F u ss e l a err

-- ---- one symbol

same_code : (c : ℕ) (next : List Sym) (k : Kind) → kind_code k ≡ c → taking c (rule_at k next ∷ []) ≡ Some next
same_code c next k is = grind (arith, nat_tests)

other_code : (c : ℕ) (next : List Sym) (k : Kind) → (kind_code k ≡ c → ⊥) → taking c (rule_at k next ∷ []) ≡ None
other_code c next k differ = grind (arith, nat_tests)

-- two kinds that the table tells apart
pub apart : (k j : Kind) → Tells k → j ≢ k → (kind_code k == kind_code j) ≡ false
apart k j tells differ = let codes : kind_code k ≢ kind_code j =
    λ same. differ (tells j same) in grind (arith, nat_tests)

module _ (t : Lexeme) (l : List Lexed) (is : l ≡ Ok t ∷ tail l) where
  -- outside of expressions the token of a kind is taken
  pub takes_one : (F : Option Fault) (u : ℕ) (k : Kind) (below : List Sym) → kind_code k ≡ kind_code t.kind
      → At F u (one k ∷ below) l
      → At F 0 below (tail l)
  takes_one F u k below same a =
      goes t l is F u (one k ∷ below) 0 below a (ap (λ o. fed_on (one k) u o below (feed 0 below t.kind))
      (same_code (kind_code t.kind) [] k same))
      (omega (arith, a.braces)) (omega (arith, a.tokens))

  -- inside of an expression too
  pub takes_inner : (F : Option Fault) (u : ℕ) (k : Kind) (below : List Sym) → kind_code k ≡ kind_code t.kind
      → At F u (inner k ∷ below) l
      → At F (u + 1) below (tail l)
  takes_inner F u k below same a =
      goes t l is F u (inner k ∷ below) (u + 1) below a (ap (λ o. fed_on (inner k) u o below (feed u below t.kind))
      (same_code (kind_code t.kind) [] k same))
      (omega (arith, a.braces)) a.tokens

  -- another token is refused
  pub refuses_one : (F : Option Fault) (u : ℕ) (k : Kind) (below : List Sym) → (kind_code k ≡ kind_code t.kind → ⊥)
      → At F u (one k ∷ below) l
      → F ≡ Some (expected t.spot)
  refuses_one F u k below differ a =
      refused t l is F u (one k ∷ below) a (ap (λ o. fed_on (one k) u o below (feed 0 below t.kind))
      (other_code (kind_code t.kind) [] k differ))

  pub refuses_inner : (F : Option Fault) (u : ℕ) (k : Kind) (below : List Sym) → (kind_code k ≡ kind_code t.kind → ⊥)
      → At F u (inner k ∷ below) l
      → F ≡ Some (expected t.spot)
  refuses_inner F u k below differ a =
      refused t l is F u (inner k ∷ below) a (ap (λ o. fed_on (inner k) u o below (feed u below t.kind))
      (other_code (kind_code t.kind) [] k differ))

  -- a symbol in place of which the token of one kind stands, before what follows it
  pub turned : (F : Option Fault) (u : ℕ) (s : Sym) (k : Kind) (next below : List Sym) → inside s ≡ false
      → may_end s ≡ false
      → taking (kind_code t.kind) (rules_of s) ≡ cond (kind_code k == kind_code t.kind) (Some next) None
      → peak (one k ∷ (next ++ below)) ≤ 64 → want u (one k ∷ (next ++ below)) ≤ 64 → At F u (s ∷ below) l
      → At F u (one k ∷ (next ++ below)) l
  turned F u s k next below out ends rule p w a =
      same_feed t l is F u (s ∷ below) u (one k ∷ (next ++ below)) a (by (kind_code k == kind_code t.kind) refl) p w
    where
      by : (b : Bool) → (kind_code k == kind_code t.kind) ≡ b → feed u (s ∷ below) t.kind ≡ feed u
          (one k ∷ (next ++ below)) t.kind
      by true same = rw (rule, same, out) refl
      by false same = rw (rule, same, ends) refl

  -- inside of an expression too
  pub turned_inner : (F : Option Fault) (u : ℕ) (s : Sym) (k : Kind) (next below : List Sym) → inside s ≡ true
      → may_end s ≡ false
      → taking (kind_code t.kind) (rules_of s) ≡ cond (kind_code k == kind_code t.kind) (Some next) None
      → peak (inner k ∷ (next ++ below)) ≤ 64 → want u (inner k ∷ (next ++ below)) ≤ 64 → At F u (s ∷ below) l
      → At F u (inner k ∷ (next ++ below)) l
  turned_inner F u s k next below out ends rule p w a =
      same_feed t l is F u (s ∷ below) u (inner k ∷ (next ++ below)) a (by (kind_code k == kind_code t.kind) refl) p w
    where
      by : (b : Bool) → (kind_code k == kind_code t.kind) ≡ b → feed u (s ∷ below) t.kind ≡ feed u
          (inner k ∷ (next ++ below)) t.kind
      by true same = rw (rule, same, out) refl
      by false same = rw (rule, same, ends) refl

  -- a symbol that the token leaves out
  pub skipped : (F : Option Fault) (u : ℕ) (s : Sym) (below : List Sym) → inside s ≡ false → may_end s ≡ true
      → taking (kind_code t.kind) (rules_of s) ≡ None → At F u (s ∷ below) l → At F 0 below l
  skipped F u s below out ends rule a =
      same_feed t l is F u (s ∷ below) 0 below a (rw (rule, ends, out) refl) (omega (arith, a.braces)) rest
    where
      rest : want 0 below ≤ 64
      rest = let w = a.tokens in let ww : max u (want 0 below) ≤ 64 = rw out at w in omega (arith, ww)

  pub skipped_inner : (F : Option Fault) (u : ℕ) (s : Sym) (below : List Sym) → inside s ≡ true → may_end s ≡ true
      → taking (kind_code t.kind) (rules_of s) ≡ None → want u below ≤ 64 → At F u (s ∷ below) l → At F u below l
  skipped_inner F u s below out ends rule w a =
      same_feed t l is F u (s ∷ below) u below a (rw (rule, ends, out) refl) (omega (arith, a.braces)) w

self_code : (k : Kind) → (kind_code k == kind_code k) ≡ true
self_code k = grind (arith, nat_tests)

module _ (t : Lexeme) (l : List Lexed) (is : l ≡ Ok t ∷ tail l) where
  -- a symbol that begins with a token of the kind
  pub begun : (F : Option Fault) (u : ℕ) (s : Sym) (k : Kind) (next below : List Sym) → inside s ≡ false → t.kind ≡ k
      → taking (kind_code k) (rules_of s) ≡ Some next → peak (one k ∷ (next ++ below)) ≤ 64
      → want u (one k ∷ (next ++ below)) ≤ 64
      → At F u (s ∷ below) l → At F u (one k ∷ (next ++ below)) l
  begun F u s k next below out kind rule p w a =
      let own = self_code k in
      same_feed t l is F u (s ∷ below) u (one k ∷ (next ++ below)) a (rw (kind, rule, own, out) refl) p w

  -- inside of an expression
  pub begun_inner : (F : Option Fault) (u : ℕ) (s : Sym) (k : Kind) (next below : List Sym)
      → inside s ≡ true → t.kind ≡ k
      → taking (kind_code k) (rules_of s) ≡ Some next → peak (inner k ∷ (next ++ below)) ≤ 64
      → want u (inner k ∷ (next ++ below)) ≤ 64
      → At F u (s ∷ below) l → At F u (inner k ∷ (next ++ below)) l
  begun_inner F u s k next below out kind rule p w a =
      let own = self_code k in
      same_feed t l is F u (s ∷ below) u (inner k ∷ (next ++ below)) a (rw (kind, rule, own, out) refl) p w

  -- where the expression would be too long
  pub deep_inner : (F : Option Fault) (u : ℕ) (s : Sym) (k : Kind) (next below : List Sym)
      → inside s ≡ true → t.kind ≡ k
      → taking (kind_code k) (rules_of s) ≡ Some next → 64 < want (u + 1) (next ++ below) → At F u (s ∷ below) l
      → F ≡ Some (too_nested t.spot)
  deep_inner F u s k next below out kind rule w a =
      nested t l is F u (s ∷ below) (u + 1) (next ++ below) a (rw (kind, rule, out) refl) (inr w)

-- a fault of a limit
pub deep_says : (F : Option Fault) (needed most : ℕ) (e : ParseFault) (l : List Lexed) (d : IsDeep needed most e l)
    → F ≡ Some (too_nested d.token.spot) → Says e F
deep_says F needed most e l d says = subst (λ x. Says x F) (sym d.fault) says

-- the kind of the first token
pub kind_there : (t : Lexeme) (l : List Lexed) (k : Kind) → l ≡ Ok t ∷ tail l → first_kind l ≡ k → t.kind ≡ k
kind_there t l k is same = sym (ap first_kind is) ∙ same

-- memory ran out
pub no_memory : (F : Option Fault) (e : ParseFault) → e ≡ Memory → Says e F
no_memory F e is = subst (λ x. Says x F) (sym is) tt

same_fed : (s : Sym) (below : List Sym) (u : ℕ) (found : Option (List Sym)) (behind : Option Stack) → inside s ≡ false
    → fed_on s 0 found below behind ≡ fed_on s u found below behind
same_fed s below u None behind out = refl
same_fed s below u (Some next) behind out = rw out refl

-- outside of expressions nothing is left of the count
pub outer_zero : (F : Option Fault) (u : ℕ) (s : Sym) (below : List Sym) (l : List Lexed) → inside s ≡ false
    → At F u (s ∷ below) l
    → At F 0 (s ∷ below) l
unfolding trip
outer_zero F u s below [] out a = record { trips = a.trips; braces = a.braces; tokens = rest }
  where
    rest : want 0 (s ∷ below) ≤ 64
    rest = let w = a.tokens in let ww : max u (want 0 below) ≤ 64 = rw out at w in rw out (omega (arith, ww))
outer_zero F u s below (Err f ∷ l) out a = record { trips = a.trips; braces = a.braces; tokens = rest }
  where
    rest : want 0 (s ∷ below) ≤ 64
    rest = let w = a.tokens in let ww : max u (want 0 below) ≤ 64 = rw out at w in rw out (omega (arith, ww))
outer_zero F u s below (Ok t ∷ l) out a = record {
  trips = ap (λ o. trip_on limits o t.spot (λ st. trip limits st.used st.syms l)) same ∙ a.trips;
  braces = a.braces;
  tokens = rest;
}
  where
    rest : want 0 (s ∷ below) ≤ 64
    rest = let w = a.tokens in let ww : max u (want 0 below) ≤ 64 = rw out at w in rw out (omega (arith, ww))

    same : feed 0 (s ∷ below) t.kind ≡ feed u (s ∷ below) t.kind
    same =
        same_fed s below u (taking (kind_code t.kind) (rules_of s)) (feed (left_out s 0) below t.kind) out
        ∙ ap (λ v. fed_on s u (taking (kind_code t.kind) (rules_of s)) below (feed v below t.kind)) (rw out refl)

-- the count may be written otherwise
pub recount : (F : Option Fault) (u v : ℕ) (ss : List Sym) (l : List Lexed) → u ≡ v → At F u ss l → At F v ss l
recount F u v ss l same a = subst (λ x. At F x ss l) same a

-- a token that comes first
pub there_from : (t : Lexeme) (later : List Lexed) (l : List Lexed) → l ≡ Ok t ∷ later → IsThere l
there_from t later l is = record { token = t; is = is ∙ ap (λ y. Ok t ∷ tail y) (sym is) }
