-- What fits the symbols of a block is the tokens of one; what a statement's words want.
use Rattle.std.proofs.Common.{◌≡◌, ℕ, zero, suc, inl, inr, List, [], ◌∷◌, refl, ap, ◌∙◌}
use Rattle.fm_lex.specs.Tokens.{Lexed}
use Rattle.fm_lex.specs.declared.kind.Kind.TheVariants.{Register}
use Rattle.fm_lex.specs.declared.keyword.Keyword.TheVariants.{Repeat}
use Rattle.fm_grammar.specs.Score.{Leaf}
use Rattle.fm_grammar.specs.Grammar.{BlockForm, block, StmtForm, repeat, again}
use Rattle.fm_grammar.specs.Signs.{open_brace, close_brace, tok, key}
use Rattle.fm_grammar.specs.Spelling.{stmts_text, block_text, else_text, branches_text, stmt_text}
use Rattle.fm_grammar.specs.Within.{Limits, StmtsWithin, BlockWithin, ElseWithin, BranchesWithin, StmtWithin}
use Rattle.fm_grammar.specs.Rules.{Sym, one, any_register, kind_code, rules_of}
use Rattle.fm_grammar.specs.Table.{opened}
use Rattle.fm_grammar.specs.Rules as table
use Rattle.fm_grammar.proofs.Fits.{Fits, more_steps, fits_opens}
use Rattle.fm_grammar.proofs.Alive.{In}
use Rattle.fm_grammar.proofs.Telling.{tells_symbol, register_kind, leaf_of}
use Rattle.fm_grammar.proofs.ToForms.{Ruled, ruled, at_rule, with_token, Split, Free, to_sign}
use Rattle.fm_grammar.proofs.ToCounts.{CountForm, plain, clamped, count_text, CountWithin}

-- what is known of derivations of so many steps
pub record Known (most : Limits) (n : ℕ) : Type 0 where
  pub stmts : (u : ℕ) (ss : List Sym) (ts : List Lexed) → Fits most n u (table.stmts ∷ ss) ts
      → Split most n ss ts stmts_text (StmtsWithin most (opened ss))
  pub elses : (u : ℕ) (ss : List Sym) (ts : List Lexed) → Fits most n u (table.otherwise ∷ ss) ts
      → Split most n ss ts else_text (ElseWithin most (opened ss))
  pub branches : (u : ℕ) (ss : List Sym) (ts : List Lexed) → Fits most n u (table.branches ∷ ss) ts
      → Split most n ss ts branches_text (BranchesWithin most (opened ss))

-- a block
pub block_split : (most : Limits) (n : ℕ) → Known most n → (u : ℕ) (ss : List Sym) (ts : List Lexed) → Fits most n u (table.block ss) ts
    → Split most n ss ts block_text (BlockWithin most (opened ss))
block_split most n known u ss ts fits =
    let o = to_sign most open_brace (tells_symbol 123) n u (table.stmts ∷ one close_brace ∷ ss) ts fits in
    let c = known.stmts 0 (one close_brace ∷ ss) o.rest o.fits in
    let e = to_sign most close_brace (tells_symbol 125) n 0 ss c.rest c.fits in record {
      form = block o.form c.form e.form;
      rest = e.rest;
      place = o.place ∙ ap (λ (x : List Lexed). tok open_brace o.form ∷ x)
          (c.place ∙ ap (λ (x : List Lexed). stmts_text c.form x) e.place);
      within = (fits_opens most n 0 (one close_brace ∷ ss) c.rest c.fits, c.within);
      fits = e.fits;
    }

-- ---- statements

-- the tokens of a statement behind its word
abbrev pub Stmt : Limits → ℕ → Sym → List Sym → List Lexed → Type 0
Stmt most n next ss ts = Split most n (next ∷ ss) ts stmt_text (StmtWithin most (opened (next ∷ ss)))

-- any register
pub to_register : (most : Limits) (n u : ℕ) (ss : List Sym) (ts : List Lexed)
    → Fits most n u (one any_register ∷ ss) ts → Split most n ss ts (λ (r : ℕ × Leaf) next. tok (Register r.0) r.1 ∷ next) Free
to_register most zero u ss ts fits = absurd fits
to_register most (suc n) u ss ts fits = by (ruled most n u (one any_register) ss ts refl fits)
  where
    by : Ruled most n 0 (one any_register) ss ts → Split most (suc n) ss ts (λ (r : ℕ × Leaf) next. tok (Register r.0) r.1 ∷ next) Free
    by r = known_rule r.rule
      where
        known_rule : In (kind_code r.token.kind) r.next (rules_of (one any_register))
            → Split most (suc n) ss ts (λ (r : ℕ × Leaf) next. tok (Register r.0) r.1 ∷ next) Free
        known_rule (inl (code, same)) =
            let kind = register_kind r.token.kind code in record {
              form = (kind.0, leaf_of r.token);
              rest = r.rest;
              place = with_token ts r.rest r.rest r.token (Register kind.0) r.place kind.1 refl;
              within = tt;
              fits = more_steps most n 0 ss r.rest (at_rule most n 0 [] r.next ss r.rest same r.fits);
            }
        known_rule (inr none) = absurd none

-- a loop by its count
abbrev pub repeat_form : Leaf → CountForm → BlockForm → StmtForm
repeat_form w (plain n) b = repeat w n b
repeat_form w (clamped o e c m n) b = again w o e c m n b

-- its tokens
pub repeat_place : (w : Leaf) (c : CountForm) (b : BlockForm) (next : List Lexed)
    → key Repeat w ∷ count_text c (block_text b next) ≡ stmt_text (repeat_form w c b) next
repeat_place w (plain n) b next = refl
repeat_place w (clamped o e c m n) b next = refl

-- and its limits
pub repeat_within : (most : Limits) (depth : ℕ) (w : Leaf) (c : CountForm) (b : BlockForm) → CountWithin most.tokens c
    → BlockWithin most depth b
    → StmtWithin most depth (repeat_form w c b)
repeat_within most depth w (plain n) b small deep = deep
repeat_within most depth w (clamped o e c m n) b small deep = (small, deep)
