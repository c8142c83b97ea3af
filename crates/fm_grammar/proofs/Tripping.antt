-- The first refusal of the table is the first token with which nothing goes on.
use Rattle.std.proofs.Common.{◌≡◌, ℕ, zero, suc, ◌+◌, Bool, true, false, inl, inr, List, [], ◌∷◌, ◌++◌, Option, Some, None, Ok, Err, refl, sym, ap, ◌∙◌, subst, arith, true≢false}
use Rattle.std.proofs.lemmas.Bool.Decides.{nat_tests}
use Rattle.fm_lex.specs.Tokens.{Lexeme, Lexed}
use Rattle.fm_lex.specs.declared.token.LexFault.{LexFault}
use Rattle.fm_grammar.specs.Within.{Limits, limits}
use Rattle.fm_grammar.specs.Reads.{Fault, lexical, expected, too_nested}
use Rattle.fm_grammar.specs.Rules.{Sym}
use Rattle.fm_grammar.specs.Table.{Stack, left_out, feed, peak, want, goes_on, trip_on, trip}
use Rattle.fm_grammar.proofs.Fits.{Fits, Derives, wider}
use Rattle.fm_grammar.proofs.Alive.{IsAlive, alive as is_alive}
use Rattle.fm_grammar.proofs.Least.{filled}
use Rattle.fm_grammar.proofs.Followers.{Fine, feed_fine}
use Rattle.fm_grammar.proofs.Feeding.{fed, taken}

-- ---- the test of the limits

-- a stack within the limits passes the test
pub alive_goes : (most : Limits) (st : Stack) → IsAlive most st.used st.syms → goes_on most st ≡ true
alive_goes most st alive = let peaks = alive.peaks in let wants = alive.wants in grind (arith, nat_tests)

-- and one that passes the test is within them
pub goes_alive : (most : Limits) (st : Stack) → goes_on most st ≡ true → IsAlive most st.used st.syms
goes_alive most st goes = record { peaks = grind (arith, nat_tests); wants = grind (arith, nat_tests) }

-- ---- a fault of the tokens fits nowhere

no_fault_fits : (most : Limits) (n u : ℕ) (ss : List Sym) (f : LexFault) (w : List Lexed) → Fits most n u ss (Err f ∷ w) → ⊥
no_fault_fits most zero u ss f w fits = fits
no_fault_fits most (suc n) u [] f w fits = cc
no_fault_fits most (suc n) u (s ∷ ss) f w (inl t) = cc
no_fault_fits most (suc n) u (s ∷ ss) f w (inr l) = no_fault_fits most n (left_out s u) ss f w l.fits

-- ---- what the first refusal says

-- why the stack refuses a token behind others
abbrev pub Why : ℕ → List Sym → List Lexed → Lexed → Fault → Type 0
Why u ss before (Err f) (lexical g) = f ≡ g
Why u ss before (Ok t) (expected spot) =
    (spot ≡ t.spot) × ((most : Limits) (w : List Lexed) → Derives most u ss (before ++ Ok t ∷ w) → ⊥)
Why u ss before (Ok t) (too_nested spot) =
    (spot ≡ t.spot) × ((most : Limits) × (w : List Lexed) × Derives most u ss (before ++ Ok t ∷ w))
Why u ss before at f = ⊥

-- the stack refuses the tokens with this fault
pub record Tripped (u : ℕ) (ss : List Sym) (ts : List Lexed) (f : Fault) : Type 0 where
  pub before : List Lexed
  pub at : Lexed
  pub after : List Lexed
  pub place : ts ≡ before ++ at ∷ after
  pub rest : List Lexed
  pub goes : Derives limits u ss (before ++ rest)
  pub stops : (w : List Lexed) → Derives limits u ss (before ++ at ∷ w) → ⊥
  pub why : Why u ss before at f

-- the stack behind a token is the one that the table has
same_stack : (u : ℕ) (ss : List Sym) (t : Lexeme) (a b : Stack) → feed u ss t.kind ≡ Some a → feed u ss t.kind ≡ Some b → a ≡ b
same_stack u ss t a b left right = cc

-- what fits behind a token that is taken
behind : (most : Limits) (u : ℕ) (ss : List Sym) (t : Lexeme) (st : Stack) (w : List Lexed) → Fine ss
    → feed u ss t.kind ≡ Some st → Derives most u ss (Ok t ∷ w) → Derives most st.used st.syms w
behind most u ss t st w fine took derives =
    let after = taken most derives.steps u ss t w fine derives.fits in
    subst (λ (x : Stack). Derives most x.used x.syms w) (same_stack u ss t after.stack st after.is_fed took) after.derives

trips_here : (u : ℕ) (ss : List Sym) (at : Lexed) (ts : List Lexed) (f : Fault) → IsAlive limits u ss
    → ((w : List Lexed) → Derives limits u ss (at ∷ w) → ⊥) → Why u ss [] at f → Tripped u ss (at ∷ ts) f
trips_here u ss at ts f alive stops why =
    let some = filled limits ss u alive in record {
      before = [];
      at = at;
      after = ts;
      place = refl;
      rest = some.tokens;
      goes = some.derives;
      stops = stops;
      why = why;
    }

-- limits that keep all of two
abbrev both : Limits → Limits → Limits
both a b = record { braces = a.braces + b.braces; tokens = a.tokens + b.tokens }

-- the reason, one token more in front
why_later : (u : ℕ) (ss : List Sym) (t : Lexeme) (st : Stack) (before : List Lexed) (at : Lexed) (f : Fault) → Fine ss
    → IsAlive limits u ss → feed u ss t.kind ≡ Some st → Why st.used st.syms before at f → Why u ss (Ok t ∷ before) at f
why_later u ss t st before (Err e) (lexical g) fine alive took why = why
why_later u ss t st before (Ok r) (expected spot) fine alive took why =
    (why.0, λ most w derives. why.1 most w (behind most u ss t st (before ++ Ok r ∷ w) fine took derives))
why_later u ss t st before (Ok r) (too_nested spot) fine alive took (same, (most, w, derives)) =
    let wide = both most limits in
    let larger : Derives wide st.used st.syms (before ++ Ok r ∷ w) = record {
      steps = derives.steps;
      fits = wider most wide (omega arith) (omega arith) derives.steps st.used st.syms (before ++ Ok r ∷ w) derives.fits;
    } in
    let here : IsAlive wide u ss = record { peaks = omega (arith, alive.peaks); wants = omega (arith, alive.wants) } in
    (same, (wide, w, fed wide ss u t (before ++ Ok r ∷ w) st here took larger))
why_later u ss t st before at f fine alive took why = absurd why

trips_later : (u : ℕ) (ss : List Sym) (t : Lexeme) (ts : List Lexed) (st : Stack) (f : Fault) → Fine ss
    → IsAlive limits u ss → feed u ss t.kind ≡ Some st → Tripped st.used st.syms ts f → Tripped u ss (Ok t ∷ ts) f
trips_later u ss t ts st f fine alive took later = record {
  before = Ok t ∷ later.before;
  at = later.at;
  after = later.after;
  place = ap (λ (l : List Lexed). Ok t ∷ l) later.place;
  rest = later.rest;
  goes = fed limits ss u t (later.before ++ later.rest) st alive took later.goes;
  stops = λ w derives. later.stops w (behind limits u ss t st (later.before ++ later.at ∷ w) fine took derives);
  why = why_later u ss t st later.before later.at f fine alive took later.why;
}

-- a stack that passes the limits fits within others
too_nested_here : (u : ℕ) (ss : List Sym) (t : Lexeme) (st : Stack) → IsAlive limits u ss → feed u ss t.kind ≡ Some st
    → (most : Limits) × (w : List Lexed) × Derives most u ss (Ok t ∷ w)
too_nested_here u ss t st alive took =
    let wide : Limits = record { braces = peak ss + peak st.syms; tokens = want u ss + want st.used st.syms } in
    let some = filled wide st.syms st.used (record { peaks = omega arith; wants = omega arith }) in
    (wide, some.tokens, fed wide ss u t some.tokens st (record { peaks = omega arith; wants = omega arith }) took some.derives)

none_some : {P : Type 0} (f : Fault) → None ≡ Some f → P
none_some f same = cc

-- the token is refused, or the stack behind it is
token_trips : (u : ℕ) (ss : List Sym) (t : Lexeme) (ts : List Lexed) (f : Fault) (found : Option Stack) → Fine ss
    → IsAlive limits u ss → feed u ss t.kind ≡ found
    → trip_on limits found t.spot (λ st. trip limits st.used st.syms ts) ≡ Some f
    → ((st : Stack) → Fine st.syms → IsAlive limits st.used st.syms → trip limits st.used st.syms ts ≡ Some f
    → Tripped st.used st.syms ts f)
    → Tripped u ss (Ok t ∷ ts) f
token_trips u ss t ts f None fine alive took trips on =
    let same : expected t.spot ≡ f = cc in
    let refused : (most : Limits) (w : List Lexed) → Derives most u ss (Ok t ∷ w) → ⊥ =
    λ most w derives. (let after = taken most derives.steps u ss t w fine derives.fits in
    none_stack after.stack (sym took ∙ after.is_fed)) in
    subst (λ (g : Fault). Tripped u ss (Ok t ∷ ts) g) same
    (trips_here u ss (Ok t) ts (expected t.spot) alive (refused limits) (refl, refused))
  where
    none_stack : (st : Stack) → None ≡ Some st → ⊥
    none_stack st same = cc
token_trips u ss t ts f (Some st) fine alive took trips on = on_limits (goes_on limits st) refl
  where
    on_limits : (b : Bool) → goes_on limits st ≡ b → Tripped u ss (Ok t ∷ ts) f
    on_limits true goes =
        let later : trip limits st.used st.syms ts ≡ Some f = rw goes at trips in
        trips_later u ss t ts st f fine alive took (on st (feed_fine u ss t.kind st fine took) (goes_alive limits st goes) later)
    on_limits false stops =
        let same : Some (too_nested t.spot) ≡ Some f = rw stops at trips in
        let is : too_nested t.spot ≡ f = cc in
        let refused : (w : List Lexed) → Derives limits u ss (Ok t ∷ w) → ⊥ =
        λ w derives. (let on = behind limits u ss t st w fine took derives in
        let goes : goes_on limits st ≡ true = alive_goes limits st (is_alive limits st.used st.syms w on) in
        true≢false (sym goes ∙ stops)) in
        subst (λ (g : Fault). Tripped u ss (Ok t ∷ ts) g) is
        (trips_here u ss (Ok t) ts (too_nested t.spot) alive refused (refl, too_nested_here u ss t st alive took))

-- the first refusal of the table is where the stack refuses
pub tripped : (ts : List Lexed) (u : ℕ) (ss : List Sym) (f : Fault) → Fine ss → IsAlive limits u ss
    → trip limits u ss ts ≡ Some f → Tripped u ss ts f
unfolding trip
tripped [] u ss f fine alive trips = none_some f trips
tripped (Ok t ∷ ts) u ss f fine alive trips =
    token_trips u ss t ts f (feed u ss t.kind) fine alive refl trips
    (λ st fine_st alive_st on. tripped ts st.used st.syms f fine_st alive_st on)
tripped (Err e ∷ ts) u ss f fine alive trips =
    let same : lexical e ≡ f = cc in
    subst (λ (g : Fault). Tripped u ss (Err e ∷ ts) g) same
    (trips_here u ss (Err e) ts (lexical e) alive (λ w derives. no_fault_fits limits derives.steps u ss e w derives.fits) refl)

-- ---- what goes on is not refused

-- what fits is not refused
pub accepted : (ts : List Lexed) (u : ℕ) (ss : List Sym) (w : List Lexed) → Fine ss → Derives limits u ss (ts ++ w)
    → trip limits u ss ts ≡ None
unfolding trip
accepted [] u ss w fine derives = refl
accepted (Ok t ∷ ts) u ss w fine derives =
    let after = taken limits derives.steps u ss t (ts ++ w) fine derives.fits in
    let goes : goes_on limits after.stack ≡ true =
    alive_goes limits after.stack (is_alive limits after.stack.used after.stack.syms (ts ++ w) after.derives) in
    let is_fed = after.is_fed in
    rw (is_fed, goes) (accepted ts after.stack.used after.stack.syms w (feed_fine u ss t.kind after.stack fine is_fed) after.derives)
accepted (Err e ∷ ts) u ss w fine derives = absurd (no_fault_fits limits derives.steps u ss e (ts ++ w) derives.fits)

some_none : {P : Type 0} (f : Fault) → Some f ≡ None → P
some_none f same = cc

-- and what is not refused goes on
goes_token : (u : ℕ) (ss : List Sym) (t : Lexeme) (ts : List Lexed) (found : Option Stack) → Fine ss
    → IsAlive limits u ss → feed u ss t.kind ≡ found
    → trip_on limits found t.spot (λ st. trip limits st.used st.syms ts) ≡ None
    → ((st : Stack) → Fine st.syms → IsAlive limits st.used st.syms → trip limits st.used st.syms ts ≡ None
    → (w : List Lexed) × Derives limits st.used st.syms (ts ++ w))
    → (w : List Lexed) × Derives limits u ss (Ok t ∷ (ts ++ w))
goes_token u ss t ts None fine alive took none on = some_none (expected t.spot) none
goes_token u ss t ts (Some st) fine alive took none on = on_limits (goes_on limits st) refl
  where
    on_limits : (b : Bool) → goes_on limits st ≡ b → (w : List Lexed) × Derives limits u ss (Ok t ∷ (ts ++ w))
    on_limits true goes =
        let later = on st (feed_fine u ss t.kind st fine took) (goes_alive limits st goes) (rw goes at none) in
        (later.0, fed limits ss u t (ts ++ later.0) st alive took later.1)
    on_limits false stops = some_none (too_nested t.spot) (rw stops at none)

-- what is not refused goes on
pub goes_from : (ts : List Lexed) (u : ℕ) (ss : List Sym) → Fine ss → IsAlive limits u ss → trip limits u ss ts ≡ None
    → (w : List Lexed) × Derives limits u ss (ts ++ w)
unfolding trip
goes_from [] u ss fine alive none = let some = filled limits ss u alive in (some.tokens, some.derives)
goes_from (Ok t ∷ ts) u ss fine alive none =
    goes_token u ss t ts (feed u ss t.kind) fine alive refl none
    (λ st fine_st alive_st on. goes_from ts st.used st.syms fine_st alive_st on)
goes_from (Err e ∷ ts) u ss fine alive none = cc
