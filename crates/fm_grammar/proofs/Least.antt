-- Something fits each stack within the limits.
use Rattle.std.proofs.Common.{◌≡◌, ℕ, ◌+◌, ◌≤◌, true, false, ◌==◌, List, [], ◌∷◌, ◌++◌, Some, Ok, refl, arith}
use Rattle.std.proofs.lemmas.Bool.Decides.{nat_tests}
use Rattle.fm_lex.specs.Tokens.{Lexeme, Lexed}
use Rattle.fm_lex.specs.declared.kind.Kind.{Kind}
use Rattle.fm_lex.specs.declared.kind.Kind.TheVariants as kinds
use Rattle.fm_lex.specs.declared.keyword.Keyword.TheVariants.{Ticks, Pause}
use Rattle.fm_grammar.specs.Signs.{slash}
use Rattle.fm_grammar.specs.Within.{Limits}
use Rattle.fm_grammar.specs.Rules.{Sym, one, inner, factor, terms, sums, length, part, amount, duration, pitch, counted, mores, stmts, otherwise, branches, entries, seeded, any_number, any_pitch, kind_code, rules_of, may_end, inside}
use Rattle.fm_grammar.specs.Table.{taking, after_token, left_out, opened, need, want}
use Rattle.fm_grammar.proofs.Fits.{Derives, takes, leaves}
use Rattle.fm_grammar.proofs.Alive.{want_least, opened_peak, IsAlive}

-- a token of a kind that stands nowhere
abbrev some : Kind → Lexeme
some k = record { kind = k; text = []; spot = record { line = 1; column = 1 } }

-- tokens that fit a stack
pub record Filled (most : Limits) (u : ℕ) (ss : List Sym) : Type 0 where
  pub tokens : List Lexed
  pub derives : Derives most u ss tokens

-- the first symbol takes a token of its first rule
filled_take : (most : Limits) (u : ℕ) (s : Sym) (ss next : List Sym) (k : Kind) → IsAlive most u (s ∷ ss)
    → taking (kind_code k) (rules_of s) ≡ Some next → Filled most (after_token s u) (next ++ ss) → Filled most u (s ∷ ss)
filled_take most u s ss next k alive rule on = record {
  tokens = Ok (some k) ∷ on.tokens;
  derives =
      takes most u s ss (some k) on.tokens next (omega (arith, alive.peaks))
      (omega (arith, alive.wants, want_least (s ∷ ss) u)) rule on.derives;
}

-- or is left out
filled_leave : (most : Limits) (u : ℕ) (s : Sym) (ss : List Sym) → IsAlive most u (s ∷ ss) → may_end s ≡ true
    → Filled most (left_out s u) ss → Filled most u (s ∷ ss)
filled_leave most u s ss alive may on = record {
  tokens = on.tokens;
  derives = leaves most u s ss on.tokens (omega (arith, alive.peaks)) (omega (arith, alive.wants, want_least (s ∷ ss) u)) may on.derives;
}

-- what stands below an outer symbol is within the limits
below : (most : Limits) (u : ℕ) (s : Sym) (ss : List Sym) → inside s ≡ false → IsAlive most u (s ∷ ss) → IsAlive most 0 ss
below most u s ss outer alive =
    let wants = rw outer at alive.wants in
    record { peaks = omega (arith, alive.peaks); wants = omega (arith, wants) }

own_token : (k : Kind) → taking (kind_code k) (rules_of (one k)) ≡ Some []
own_token k = let same : (kind_code k == kind_code k) ≡ true = grind (arith, nat_tests) in rw same refl

-- a symbol that needs no open brace, before a stack
outer_alive : (most : Limits) (s : Sym) (ss : List Sym) → inside s ≡ false → opened (s ∷ ss) ≡ opened ss → IsAlive most 0 ss
    → IsAlive most 0 (s ∷ ss)
outer_alive most s ss outer same alive =
    let wants : want 0 (s ∷ ss) ≤ most.tokens = (let on = alive.wants in rw outer (omega arith)) in
    record { peaks = omega (arith, alive.peaks, opened_peak ss); wants = wants }

filled_one : (most : Limits) (u : ℕ) (k : Kind) (ss : List Sym) → IsAlive most u (one k ∷ ss) → Filled most 0 ss
    → Filled most u (one k ∷ ss)
filled_one most u k ss alive on = filled_take most u (one k) ss [] k alive (own_token k) on

-- the tokens of a length
filled_length : (most : Limits) (u : ℕ) (ss : List Sym) → IsAlive most u (length ∷ ss) → Filled most 0 ss → Filled most u (length ∷ ss)
filled_length most u ss alive on =
    filled_take most u length ss (one any_number ∷ []) (kinds.Keyword Ticks) alive refl
    (filled_one most 0 any_number ss (outer_alive most (one any_number) ss refl refl (below most u length ss refl alive)) on)

-- of a part
filled_part : (most : Limits) (u : ℕ) (ss : List Sym) → IsAlive most u (part ∷ ss) → Filled most 0 ss → Filled most u (part ∷ ss)
filled_part most u ss alive on =
    filled_take most u part ss (length ∷ []) (kinds.Keyword Pause) alive refl
    (filled_length most 0 ss (outer_alive most length ss refl refl (below most u part ss refl alive)) on)

-- of a duration
filled_duration : (most : Limits) (u : ℕ) (ss : List Sym) → IsAlive most u (duration ∷ ss) → Filled most 0 ss
    → Filled most u (duration ∷ ss)
filled_duration most u ss alive on =
    let here = below most u duration ss refl alive in
    let count = outer_alive most (one any_number) ss refl refl here in
    filled_take most u duration ss (one slash ∷ one any_number ∷ []) any_number alive refl
    (filled_one most 0 slash (one any_number ∷ ss) (outer_alive most (one slash) (one any_number ∷ ss) refl refl count)
    (filled_one most 0 any_number ss count on))

-- one token of an expression further on
inner_alive : (most : Limits) (u : ℕ) (s : Sym) (ss : List Sym) → inside s ≡ true → IsAlive most u (s ∷ ss) → IsAlive most (u + need s) ss
inner_alive most u s ss is alive = let wants = rw is at alive.wants in record { peaks = omega (arith, alive.peaks); wants = wants }

-- some tokens fit each stack within the limits
pub filled : (most : Limits) (ss : List Sym) (u : ℕ) → IsAlive most u ss → Filled most u ss
filled most [] u alive = record { tokens = []; derives = record { steps = 1; fits = (refl, alive.wants) } }
filled most (one k ∷ ss) u alive = filled_one most u k ss alive (filled most ss 0 (below most u (one k) ss refl alive))
filled most (inner k ∷ ss) u alive =
    filled_take most u (inner k) ss [] k alive (own_token k) (filled most ss (u + 1) (inner_alive most u (inner k) ss refl alive))
filled most (factor ∷ ss) u alive =
    filled_take most u factor ss [] any_number alive refl (filled most ss (u + 1) (inner_alive most u factor ss refl alive))
filled most (terms ∷ ss) u alive =
    let same : u + 0 ≡ u = omega arith in
    filled_leave most u terms ss alive refl (filled most ss u (rw same at (inner_alive most u terms ss refl alive)))
filled most (sums ∷ ss) u alive =
    let same : u + 0 ≡ u = omega arith in
    filled_leave most u sums ss alive refl (filled most ss u (rw same at (inner_alive most u sums ss refl alive)))
filled most (length ∷ ss) u alive = filled_length most u ss alive (filled most ss 0 (below most u length ss refl alive))
filled most (part ∷ ss) u alive = filled_part most u ss alive (filled most ss 0 (below most u part ss refl alive))
filled most (amount ∷ ss) u alive =
    filled_take most u amount ss [] any_number alive refl (filled most ss 0 (below most u amount ss refl alive))
filled most (duration ∷ ss) u alive = filled_duration most u ss alive (filled most ss 0 (below most u duration ss refl alive))
filled most (pitch ∷ ss) u alive =
    filled_take most u pitch ss [] any_pitch alive refl (filled most ss 0 (below most u pitch ss refl alive))
filled most (counted ∷ ss) u alive =
    filled_take most u counted ss [] any_number alive refl (filled most ss 0 (below most u counted ss refl alive))
filled most (mores i ∷ ss) u alive = filled_leave most u (mores i) ss alive refl (filled most ss 0 (below most u (mores i) ss refl alive))
filled most (stmts ∷ ss) u alive = filled_leave most u stmts ss alive refl (filled most ss 0 (below most u stmts ss refl alive))
filled most (otherwise ∷ ss) u alive =
    filled_leave most u otherwise ss alive refl (filled most ss 0 (below most u otherwise ss refl alive))
filled most (branches ∷ ss) u alive = filled_leave most u branches ss alive refl (filled most ss 0 (below most u branches ss refl alive))
filled most (entries ∷ ss) u alive = filled_leave most u entries ss alive refl (filled most ss 0 (below most u entries ss refl alive))
filled most (seeded ∷ ss) u alive = filled_leave most u seeded ss alive refl (filled most ss 0 (below most u seeded ss refl alive))
