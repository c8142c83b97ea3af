-- The end of a text can be taken only as the last token.
use Rattle.std.proofs.Common.{◌≡◌, ℕ, zero, suc, Bool, true, false, not, ◌==◌, ◌||◌, inl, inr, List, [], ◌∷◌, ◌++◌, Some, Ok, refl, sym, ap, ◌∙◌, subst, arith, true≢false}
use Rattle.std.specs.List.{list_all}
use Rattle.fm_lex.specs.Bytes.{one_of}
use Rattle.fm_lex.specs.Tokens.{Lexeme, Lexed}
use Rattle.fm_lex.specs.declared.kind.Kind.TheVariants.{End}
use Rattle.fm_grammar.specs.Within.{Limits}
use Rattle.fm_grammar.specs.Rules.{Sym, one, inner, factor, terms, sums, length, part, amount, duration, pitch, counted, mores, stmts, otherwise, branches, entries, seeded, pitches, lengths, numbers, parts, kind_code, rules_of, may_end}
use Rattle.fm_grammar.specs.Table.{taking, after_token, left_out}
use Rattle.fm_grammar.proofs.Fits.{Fits}
use Rattle.fm_grammar.proofs.Alive.{In, taking_in, each_rule}
use Rattle.fm_grammar.proofs.Followers.{firsts, some_taken}

-- a symbol that never takes the end
abbrev no_end : Sym → Bool
no_end (one k) = not (kind_code End == kind_code k)
no_end (inner k) = not (kind_code End == kind_code k)
no_end s = true

-- the end stands below, and nowhere else
abbrev pub EndsBelow : List Sym → Type 0
EndsBelow [] = ⊥
EndsBelow (s ∷ []) = s ≡ one End
EndsBelow (s ∷ r ∷ ss) = (no_end s ≡ true) × EndsBelow (r ∷ ss)

-- the rules have no end among them
rules_end : (s : Sym) → no_end s ≡ true → list_all (λ r. list_all no_end r.next) (rules_of s) ≡ true
rules_end (one k) is = refl
rules_end (inner k) is = refl
rules_end factor is = refl
rules_end terms is = refl
rules_end sums is = refl
rules_end length is = refl
rules_end part is = refl
rules_end amount is = refl
rules_end duration is = refl
rules_end pitch is = refl
rules_end counted is = refl
rules_end (mores pitches) is = refl
rules_end (mores lengths) is = refl
rules_end (mores numbers) is = refl
rules_end (mores parts) is = refl
rules_end stmts is = refl
rules_end otherwise is = refl
rules_end branches is = refl
rules_end entries is = refl
rules_end seeded is = refl

not_or : (b : Bool) → not b ≡ true → (b || false) ≡ false
not_or true is = cc
not_or false is = refl

-- and none takes it
no_end_first : (s : Sym) → no_end s ≡ true → one_of (kind_code End) (firsts s) ≡ false
no_end_first (one k) is = not_or (kind_code End == kind_code k) is
no_end_first (inner k) is = not_or (kind_code End == kind_code k) is
no_end_first factor is = refl
no_end_first terms is = refl
no_end_first sums is = refl
no_end_first length is = refl
no_end_first part is = refl
no_end_first amount is = refl
no_end_first duration is = refl
no_end_first pitch is = refl
no_end_first counted is = refl
no_end_first (mores i) is = refl
no_end_first stmts is = refl
no_end_first otherwise is = refl
no_end_first branches is = refl
no_end_first entries is = refl
no_end_first seeded is = refl

next_below : (next ss : List Sym) → list_all no_end next ≡ true → EndsBelow ss → EndsBelow (next ++ ss)
next_below [] ss all below = below
next_below (s ∷ []) [] all below = absurd below
next_below (s ∷ []) (r ∷ ss) all below = (grind arith, below)
next_below (s ∷ r ∷ next) ss all below = (grind arith, next_below (r ∷ next) ss (grind arith) below)

nothing_fits : (most : Limits) (n u : ℕ) (ts : List Lexed) → Fits most n u [] ts → ts ≡ []
nothing_fits most zero u ts fits = absurd fits
nothing_fits most (suc n) u ts fits = fits.0

single_last : (before : List Lexed) (x y : Lexed) (w : List Lexed) → before ++ x ∷ w ≡ y ∷ [] → w ≡ []
single_last [] x y w same = cc
single_last (b ∷ []) x y w same = cc
single_last (b ∷ c ∷ before) x y w same = cc

-- where only the end may come, it comes alone
end_alone : (most : Limits) (n u : ℕ) (s : Sym) (before : List Lexed) (t : Lexeme) (w : List Lexed) → s ≡ one End
    → Fits most (suc n) u (s ∷ []) (before ++ Ok t ∷ w) → w ≡ []
end_alone most n u s before t w same (inl f) = by (taking_in (kind_code f.token.kind) f.next (rules_of (one End)) rule)
  where
    rule : taking (kind_code f.token.kind) (rules_of (one End)) ≡ Some f.next
    rule = subst (λ (x : Sym). taking (kind_code f.token.kind) (rules_of x) ≡ Some f.next) same f.rule

    by : In (kind_code f.token.kind) f.next (rules_of (one End)) → w ≡ []
    by (inl (code, next)) =
        let none : f.next ++ [] ≡ [] = rw (← next) refl in
        let left : f.rest ≡ [] = nothing_fits most n (after_token s u) f.rest
        (subst (λ (x : List Sym). Fits most n (after_token s u) x f.rest) none f.fits) in
        single_last before (Ok t) (Ok f.token) w (f.place ∙ ap (λ (x : List Lexed). Ok f.token ∷ x) left)
    by (inr none) = absurd none
end_alone most n u s before t w same (inr l) =
    let no : may_end (one End) ≡ true = subst (λ (x : Sym). may_end x ≡ true) same l.may in cc

-- no other symbol takes it
end_refused : (s : Sym) (code : ℕ) (next : List Sym) → no_end s ≡ true → code ≡ kind_code End → taking code (rules_of s) ≡ Some next → ⊥
end_refused s code next is same took =
    let begins : one_of code (firsts s) ≡ true = some_taken code next (rules_of s) took in
    let none : one_of code (firsts s) ≡ false = rw same (no_end_first s is) in
    true≢false (sym begins ∙ none)

-- behind a token that is the end nothing comes
pub end_last : (most : Limits) (n u : ℕ) (ss : List Sym) (before : List Lexed) (t : Lexeme) (w : List Lexed) → EndsBelow ss
    → kind_code t.kind ≡ kind_code End → Fits most n u ss (before ++ Ok t ∷ w) → w ≡ []
end_last most zero u ss before t w below is fits = absurd fits
end_last most (suc n) u [] before t w below is fits = absurd below
end_last most (suc n) u (s ∷ []) before t w below is fits = end_alone most n u s before t w below fits
end_last most (suc n) u (s ∷ r ∷ ss) [] t w below is (inl f) =
    let token : f.token ≡ t = cc in
    absurd (end_refused s (kind_code f.token.kind) f.next below.0 (ap (λ (x : Lexeme). kind_code x.kind) token ∙ is) f.rule)
end_last most (suc n) u (s ∷ r ∷ ss) (b ∷ before) t w below is (inl f) =
    let later : before ++ Ok t ∷ w ≡ f.rest = cc in
    let next : list_all no_end f.next ≡ true =
    each_rule (list_all no_end) (kind_code f.token.kind) f.next (rules_of s) (rules_end s below.0)
    (taking_in _ f.next (rules_of s) f.rule) in
    end_last most n (after_token s u) (f.next ++ r ∷ ss) before t w (next_below f.next (r ∷ ss) next below.1) is
    (subst (λ (x : List Lexed). Fits most n (after_token s u) (f.next ++ r ∷ ss) x) (sym later) f.fits)
end_last most (suc n) u (s ∷ r ∷ ss) before t w below is (inr f) = end_last most n (left_out s u) (r ∷ ss) before t w below.1 is f.fits
