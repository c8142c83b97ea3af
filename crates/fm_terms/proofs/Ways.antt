-- Which way a symbol goes at the next token.
use Rattle.std.proofs.Common.{◌≡◌, ℕ, ◌<◌, List, [], ◌∷◌, ◌++◌, Option, refl, sym, ap, ◌∙◌, arith}
use Rattle.std.specs.Prelude.{◌≢◌, ◌==◌, false}
use Rattle.fm_lex.specs.declared.kind.Kind.{Kind}
use Rattle.fm_lex.specs.declared.kind.Kind.TheVariants as kinds
use Rattle.fm_lex.specs.declared.keyword.Keyword.TheVariants.{Ticks, Key, Flat, By, Slope, To, Pause, Breath, Else, Branch, Seed}
use Rattle.fm_lex.specs.Tokens.{Lexed}
use Rattle.fm_grammar.specs.Signs.{comma, slash, minus_sign, open_parenthesis, close_parenthesis, semicolon}
use Rattle.fm_grammar.specs.Reads.{Fault}
use Rattle.fm_grammar.specs.Rules.{Item, item, pitches, Sym, one, kind_code, any_number, any_pitch, length, part, amount, duration, pitch, counted, mores, otherwise, branches, seeded, expr, block, with_commas, with_most}
use Rattle.fm_grammar.specs.Table.{opened}
use Rattle.fm_grammar.proofs.Telling.{Tells, tells_keyword, tells_symbol}
use Rattle.fm_terms.specs.Reader.{first_kind}
use Rattle.fm_terms.specs.Follow.{At, IsThere}
use Rattle.fm_terms.specs.Stretches.{stretch_syms}
use Rattle.fm_terms.proofs.Steps.{begun, turned, skipped, apart}

module _ (l : List Lexed) (there : IsThere l) where
  is_kind : (k : Kind) → first_kind l ≡ k → there.token.kind ≡ k
  is_kind k same = sym (ap first_kind there.is) ∙ same

  not_kind : (k : Kind) → Tells k → first_kind l ≢ k → (kind_code k == kind_code there.token.kind) ≡ false
  not_kind k tells differ = apart k there.token.kind tells (λ same. differ (ap first_kind there.is ∙ same))

  pub ticks_length : (F : Option Fault) (u : ℕ) (below : List Sym) → first_kind l ≡ kinds.Keyword Ticks
      → At F u (length ∷ below) l
      → At F u (one (kinds.Keyword Ticks) ∷ ((one any_number ∷ []) ++ below)) l
  ticks_length F u below same a =
      begun there.token l there.is F u length (kinds.Keyword Ticks) (one any_number ∷ []) below refl
      (is_kind (kinds.Keyword Ticks) same) refl (omega (arith, a.braces)) (omega (arith, a.tokens)) a

  pub minus_amount : (F : Option Fault) (u : ℕ) (below : List Sym) → first_kind l ≡ minus_sign
      → At F u (amount ∷ below) l
      → At F u (one minus_sign ∷ ((one any_number ∷ []) ++ below)) l
  minus_amount F u below same a =
      begun there.token l there.is F u amount minus_sign (one any_number ∷ []) below refl
      (is_kind minus_sign same) refl (omega (arith, a.braces)) (omega (arith, a.tokens)) a

  pub enclosed_amount : (F : Option Fault) (u : ℕ) (below : List Sym) → first_kind l ≡ open_parenthesis
      → At F u (amount ∷ below) l
      → At F u (one open_parenthesis ∷ ((expr (one close_parenthesis ∷ [])) ++ below)) l
  enclosed_amount F u below same a =
      begun there.token l there.is F u amount open_parenthesis (expr (one close_parenthesis ∷ [])) below refl
      (is_kind open_parenthesis same) refl (omega (arith, a.braces)) (omega (arith, a.tokens)) a

  pub drawn_count : (F : Option Fault) (u : ℕ) (below : List Sym) → first_kind l ≡ open_parenthesis
      → At F u (counted ∷ below) l
      → At F u (one open_parenthesis ∷ ((with_most []) ++ below)) l
  drawn_count F u below same a =
      begun there.token l there.is F u counted open_parenthesis (with_most []) below refl
      (is_kind open_parenthesis same) refl (omega (arith, a.braces)) (omega (arith, a.tokens)) a

  pub timed_duration : (F : Option Fault) (u : ℕ) (below : List Sym) → first_kind l ≡ kinds.Keyword Ticks
      → At F u (duration ∷ below) l
      → At F u (one (kinds.Keyword Ticks) ∷ ((counted ∷ []) ++ below)) l
  timed_duration F u below same a =
      begun there.token l there.is F u duration (kinds.Keyword Ticks) (counted ∷ []) below refl
      (is_kind (kinds.Keyword Ticks) same) refl (omega (arith, a.braces)) (omega (arith, a.tokens)) a

  pub key_pitch : (F : Option Fault) (u : ℕ) (below : List Sym) → first_kind l ≡ kinds.Keyword Key
      → At F u (pitch ∷ below) l
      → At F u (one (kinds.Keyword Key) ∷ ((amount ∷ []) ++ below)) l
  key_pitch F u below same a =
      begun there.token l there.is F u pitch (kinds.Keyword Key) (amount ∷ []) below refl
      (is_kind (kinds.Keyword Key) same) refl (omega (arith, a.braces)) (omega (arith, a.tokens)) a

  pub flat_part : (F : Option Fault) (u : ℕ) (below : List Sym) → first_kind l ≡ kinds.Keyword Flat
      → At F u (part ∷ below) l
      → At F u (one (kinds.Keyword Flat) ∷ length ∷ stretch_syms By below) l
  flat_part F u below same a =
      begun there.token l there.is F u part (kinds.Keyword Flat) (length ∷ stretch_syms By []) below refl
      (is_kind (kinds.Keyword Flat) same) refl (omega (arith, a.braces)) (omega (arith, a.tokens)) a

  pub slope_part : (F : Option Fault) (u : ℕ) (below : List Sym) → first_kind l ≡ kinds.Keyword Slope
      → At F u (part ∷ below) l
      → At F u (one (kinds.Keyword Slope) ∷ length ∷ stretch_syms By (stretch_syms To below)) l
  slope_part F u below same a =
      begun there.token l there.is F u part (kinds.Keyword Slope)
      (length ∷ stretch_syms By (stretch_syms To [])) below refl (is_kind (kinds.Keyword Slope) same) refl
      (omega (arith, a.braces)) (omega (arith, a.tokens)) a

  pub pause_part : (F : Option Fault) (u : ℕ) (below : List Sym) → first_kind l ≡ kinds.Keyword Pause
      → At F u (part ∷ below) l
      → At F u (one (kinds.Keyword Pause) ∷ ((length ∷ []) ++ below)) l
  pause_part F u below same a =
      begun there.token l there.is F u part (kinds.Keyword Pause) (length ∷ []) below refl
      (is_kind (kinds.Keyword Pause) same) refl (omega (arith, a.braces)) (omega (arith, a.tokens)) a

  pub share_length : (F : Option Fault) (u : ℕ) (below : List Sym) → first_kind l ≢ kinds.Keyword Ticks
      → At F u (length ∷ below) l
      → At F u (one any_number ∷ ((one slash ∷ one any_number ∷ []) ++ below)) l
  share_length F u below no0 a =
      let e0 = not_kind (kinds.Keyword Ticks) (tells_keyword Ticks) no0 in
      turned there.token l there.is F u length any_number (one slash ∷ one any_number ∷ []) below refl refl
      (rw e0 refl) (omega (arith, a.braces)) (omega (arith, a.tokens)) a

  pub literal_amount : (F : Option Fault) (u : ℕ) (below : List Sym) → first_kind l ≢ minus_sign
      → first_kind l ≢ open_parenthesis → At F u (amount ∷ below) l
      → At F u (one any_number ∷ below) l
  literal_amount F u below no0 no1 a =
      let e0 = not_kind minus_sign (tells_symbol 45) no0 in
      let e1 = not_kind open_parenthesis (tells_symbol 40) no1 in
      turned there.token l there.is F u amount any_number [] below refl refl (rw (e0, e1) refl)
      (omega (arith, a.braces)) (omega (arith, a.tokens)) a

  pub fixed_count : (F : Option Fault) (u : ℕ) (below : List Sym) → first_kind l ≢ open_parenthesis
      → At F u (counted ∷ below) l
      → At F u (one any_number ∷ below) l
  fixed_count F u below no0 a =
      let e0 = not_kind (open_parenthesis) (tells_symbol 40) no0 in
      turned there.token l there.is F u counted any_number [] below refl refl (rw e0 refl)
      (omega (arith, a.braces)) (omega (arith, a.tokens)) a

  pub shared_duration : (F : Option Fault) (u : ℕ) (below : List Sym) → first_kind l ≢ kinds.Keyword Ticks
      → At F u (duration ∷ below) l
      → At F u (one any_number ∷ ((one slash ∷ one any_number ∷ []) ++ below)) l
  shared_duration F u below no0 a =
      let e0 = not_kind (kinds.Keyword Ticks) (tells_keyword Ticks) no0 in
      turned there.token l there.is F u duration any_number (one slash ∷ one any_number ∷ []) below refl refl
      (rw e0 refl) (omega (arith, a.braces)) (omega (arith, a.tokens)) a

  pub named_pitch : (F : Option Fault) (u : ℕ) (below : List Sym) → first_kind l ≢ kinds.Keyword Key
      → At F u (pitch ∷ below) l
      → At F u (one any_pitch ∷ below) l
  named_pitch F u below no0 a =
      let e0 = not_kind (kinds.Keyword Key) (tells_keyword Key) no0 in
      turned there.token l there.is F u pitch any_pitch [] below refl refl (rw e0 refl)
      (omega (arith, a.braces)) (omega (arith, a.tokens)) a

  pub breath_part : (F : Option Fault) (u : ℕ) (below : List Sym) → first_kind l ≢ kinds.Keyword Flat
      → first_kind l ≢ kinds.Keyword Slope → first_kind l ≢ kinds.Keyword Pause → At F u (part ∷ below) l
      → At F u (one (kinds.Keyword Breath) ∷ ((length ∷ []) ++ below)) l
  breath_part F u below no0 no1 no2 a =
      let e0 = not_kind (kinds.Keyword Flat) (tells_keyword Flat) no0 in
      let e1 = not_kind (kinds.Keyword Slope) (tells_keyword Slope) no1 in
      let e2 = not_kind (kinds.Keyword Pause) (tells_keyword Pause) no2 in
      turned there.token l there.is F u part (kinds.Keyword Breath) (length ∷ []) below refl refl
      (rw (e0, e1, e2) refl) (omega (arith, a.braces)) (omega (arith, a.tokens)) a

  pub one_more : (F : Option Fault) (u : ℕ) (i : Item) (below : List Sym) → first_kind l ≡ comma
      → At F u (mores i ∷ below) l
      → At F u (one comma ∷ item i ∷ mores i ∷ below) l
  one_more F u i below same a = at_item i a
    where
      at_item : (j : Item) → At F u (mores j ∷ below) l → At F u (one comma ∷ item j ∷ mores j ∷ below) l
      at_item pitches b =
          begun there.token l there.is F u (mores pitches) comma (with_commas pitches []) below refl
          (is_kind comma same) refl (omega (arith, b.braces)) (omega (arith, b.tokens)) b
      at_item j b =
          begun there.token l there.is F u (mores j) comma (with_commas j []) below refl
          (is_kind comma same) refl (omega (arith, b.braces)) (omega (arith, b.tokens)) b

  pub no_more : (F : Option Fault) (u : ℕ) (i : Item) (below : List Sym) → first_kind l ≢ comma
      → At F u (mores i ∷ below) l → At F 0 below l
  no_more F u i below differ a =
      let e = not_kind comma (tells_symbol 44) differ in
      skipped there.token l there.is F u (mores i) below refl refl (rw e refl) a

  pub at_else : (F : Option Fault) (u : ℕ) (below : List Sym) → first_kind l ≡ kinds.Keyword Else
      → opened below < 64 → At F u (otherwise ∷ below) l
      → At F u (one (kinds.Keyword Else) ∷ ((block []) ++ below)) l
  at_else F u below same h a =
      begun there.token l there.is F u otherwise (kinds.Keyword Else) (block []) below refl
      (is_kind (kinds.Keyword Else) same) refl
      (omega (arith, h, a.braces)) (omega (arith, a.tokens)) a

  pub without_else : (F : Option Fault) (u : ℕ) (below : List Sym) → first_kind l ≢ kinds.Keyword Else
      → At F u (otherwise ∷ below) l → At F 0 below l
  without_else F u below differ a =
      let e = not_kind (kinds.Keyword Else) (tells_keyword Else) differ in
      skipped there.token l there.is F u otherwise below refl refl (rw e refl) a

  pub at_branch : (F : Option Fault) (u : ℕ) (below : List Sym) → first_kind l ≡ kinds.Keyword Branch
      → opened below < 64 → At F u (branches ∷ below) l
      → At F u (one (kinds.Keyword Branch) ∷ ((block (branches ∷ [])) ++ below)) l
  at_branch F u below same h a =
      begun there.token l there.is F u branches (kinds.Keyword Branch) (block (branches ∷ [])) below refl
      (is_kind (kinds.Keyword Branch) same) refl
      (omega (arith, h, a.braces)) (omega (arith, a.tokens)) a

  pub without_branch : (F : Option Fault) (u : ℕ) (below : List Sym) → first_kind l ≢ kinds.Keyword Branch
      → At F u (branches ∷ below) l → At F 0 below l
  without_branch F u below differ a =
      let e = not_kind (kinds.Keyword Branch) (tells_keyword Branch) differ in
      skipped there.token l there.is F u branches below refl refl (rw e refl) a

  pub at_seed : (F : Option Fault) (u : ℕ) (below : List Sym) → first_kind l ≡ kinds.Keyword Seed
      → At F u (seeded ∷ below) l
      → At F u (one (kinds.Keyword Seed) ∷ one any_number ∷ one semicolon ∷ below) l
  at_seed F u below same a =
      begun there.token l there.is F u seeded (kinds.Keyword Seed) (one any_number ∷ one semicolon ∷ []) below
      refl (is_kind (kinds.Keyword Seed) same) refl
      (omega (arith, a.braces)) (omega (arith, a.tokens)) a

  pub without_seed : (F : Option Fault) (u : ℕ) (below : List Sym) → first_kind l ≢ kinds.Keyword Seed
      → At F u (seeded ∷ below) l → At F 0 below l
  without_seed F u below differ a =
      let e = not_kind (kinds.Keyword Seed) (tells_keyword Seed) differ in
      skipped there.token l there.is F u seeded below refl refl (rw e refl) a
