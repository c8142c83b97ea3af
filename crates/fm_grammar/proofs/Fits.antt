-- Derivations by the table: what a stack takes, token by token, within the limits.
use Rattle.std.proofs.Common.{◌≡◌, ℕ, zero, suc, ◌≤◌, true, ◌⊎◌, inl, inr, List, [], ◌∷◌, ◌++◌, Some, Ok, refl, arith}
use Rattle.fm_lex.specs.Tokens.{Lexeme, Lexed}
use Rattle.fm_grammar.specs.Within.{Limits}
use Rattle.fm_grammar.specs.Rules.{Sym, kind_code, rules_of, may_end}
use Rattle.fm_grammar.specs.Table.{taking, after_token, left_out, opened}

-- the first symbol takes the token
pub record Take (most : Limits) (u : ℕ) (s : Sym) (ss : List Sym) (ts : List Lexed)
    (Next : ℕ → List Sym → List Lexed → Type 0) : Type 0 where
  pub opens : opened (s ∷ ss) ≤ most.braces
  pub counts : u ≤ most.tokens
  pub token : Lexeme
  pub rest : List Lexed
  pub place : ts ≡ Ok token ∷ rest
  pub next : List Sym
  pub rule : taking (kind_code token.kind) (rules_of s) ≡ Some next
  pub fits : Next (after_token s u) (next ++ ss) rest

-- the first symbol is left out
pub record Leave (most : Limits) (u : ℕ) (s : Sym) (ss : List Sym) (ts : List Lexed)
    (Next : ℕ → List Sym → List Lexed → Type 0) : Type 0 where
  pub opens : opened (s ∷ ss) ≤ most.braces
  pub counts : u ≤ most.tokens
  pub may : may_end s ≡ true
  pub fits : Next (left_out s u) ss ts

-- in fewer than n steps the stack takes exactly the tokens, where u tokens of the open expression were read
abbrev pub Fits : Limits → ℕ → ℕ → List Sym → List Lexed → Type 0
Fits most zero u ss ts = ⊥
Fits most (suc n) u [] ts = (ts ≡ []) × (u ≤ most.tokens)
Fits most (suc n) u (s ∷ ss) ts = Take most u s ss ts (Fits most n) ⊎ Leave most u s ss ts (Fits most n)

-- in some number of steps
pub record Derives (most : Limits) (u : ℕ) (ss : List Sym) (ts : List Lexed) : Type 0 where
  pub steps : ℕ
  pub fits : Fits most steps u ss ts

-- ---- one step more

-- a derivation in fewer steps is one in more
pub more_steps : (most : Limits) (n u : ℕ) (ss : List Sym) (ts : List Lexed)
    → Fits most n u ss ts → Fits most (suc n) u ss ts
more_steps most zero u ss ts fits = absurd fits
more_steps most (suc n) u [] ts fits = fits
more_steps most (suc n) u (s ∷ ss) ts (inl t) = inl (record {
  opens = t.opens;
  counts = t.counts;
  token = t.token;
  rest = t.rest;
  place = t.place;
  next = t.next;
  rule = t.rule;
  fits = more_steps most n (after_token s u) (t.next ++ ss) t.rest t.fits;
})
more_steps most (suc n) u (s ∷ ss) ts (inr l) = inr (record {
  opens = l.opens;
  counts = l.counts;
  may = l.may;
  fits = more_steps most n (left_out s u) ss ts l.fits;
})

-- ---- what a derivation keeps

-- no more tokens of an expression were read than the limit
pub fits_counts : (most : Limits) (n u : ℕ) (ss : List Sym) (ts : List Lexed) → Fits most n u ss ts → u ≤ most.tokens
fits_counts most zero u ss ts fits = absurd fits
fits_counts most (suc n) u [] ts fits = fits.1
fits_counts most (suc n) u (s ∷ ss) ts (inl t) = t.counts
fits_counts most (suc n) u (s ∷ ss) ts (inr l) = l.counts

-- no more braces are open than the limit
pub fits_opens : (most : Limits) (n u : ℕ) (ss : List Sym) (ts : List Lexed) → Fits most n u ss ts → opened ss ≤ most.braces
fits_opens most zero u ss ts fits = absurd fits
fits_opens most (suc n) u [] ts fits = omega arith
fits_opens most (suc n) u (s ∷ ss) ts (inl t) = t.opens
fits_opens most (suc n) u (s ∷ ss) ts (inr l) = l.opens

-- ---- larger limits

-- what keeps limits keeps larger ones
pub wider : (most wide : Limits) → most.braces ≤ wide.braces → most.tokens ≤ wide.tokens
    → (n u : ℕ) (ss : List Sym) (ts : List Lexed) → Fits most n u ss ts → Fits wide n u ss ts
wider most wide braces tokens zero u ss ts fits = absurd fits
wider most wide braces tokens (suc n) u [] ts fits = (fits.0, omega (arith, fits.1))
wider most wide braces tokens (suc n) u (s ∷ ss) ts (inl t) = inl (record {
  opens = omega (arith, t.opens);
  counts = omega (arith, t.counts);
  token = t.token;
  rest = t.rest;
  place = t.place;
  next = t.next;
  rule = t.rule;
  fits = wider most wide braces tokens n (after_token s u) (t.next ++ ss) t.rest t.fits;
})
wider most wide braces tokens (suc n) u (s ∷ ss) ts (inr l) = inr (record {
  opens = omega (arith, l.opens);
  counts = omega (arith, l.counts);
  may = l.may;
  fits = wider most wide braces tokens n (left_out s u) ss ts l.fits;
})

-- ---- building derivations

-- a token that the first symbol takes, before what fits then
pub takes : (most : Limits) (u : ℕ) (s : Sym) (ss : List Sym) (t : Lexeme) (rest : List Lexed) (next : List Sym)
    → opened (s ∷ ss) ≤ most.braces → u ≤ most.tokens → taking (kind_code t.kind) (rules_of s) ≡ Some next
    → Derives most (after_token s u) (next ++ ss) rest → Derives most u (s ∷ ss) (Ok t ∷ rest)
takes most u s ss t rest next opens counts rule on = record {
  steps = suc on.steps;
  fits = inl (record {
    opens = opens;
    counts = counts;
    token = t;
    rest = rest;
    place = refl;
    next = next;
    rule = rule;
    fits = on.fits;
  });
}

-- a first symbol that is left out
pub leaves : (most : Limits) (u : ℕ) (s : Sym) (ss : List Sym) (ts : List Lexed)
    → opened (s ∷ ss) ≤ most.braces → u ≤ most.tokens → may_end s ≡ true
    → Derives most (left_out s u) ss ts → Derives most u (s ∷ ss) ts
leaves most u s ss ts opens counts may on = record {
  steps = suc on.steps;
  fits = inr (record {
    opens = opens;
    counts = counts;
    may = may;
    fits = on.fits;
  });
}
