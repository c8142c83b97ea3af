-- What fits the symbols of sequences of statements is the tokens of one.
use Rattle.std.proofs.Common.{ℕ, zero, suc, ◌⊎◌, inl, inr, List, [], ◌∷◌, refl, ap, ◌∙◌}
use Rattle.fm_lex.specs.Tokens.{Lexed}
use Rattle.fm_lex.specs.declared.kind.Kind.TheVariants as kinds
use Rattle.fm_lex.specs.declared.keyword.Keyword.TheVariants.{Else, Branch}
use Rattle.fm_grammar.specs.Grammar.{no_stmt, stmt, no_else, otherwise, no_branch, branch}
use Rattle.fm_grammar.specs.Spelling.{stmts_text, block_text, else_text, branches_text, stmt_text}
use Rattle.fm_grammar.specs.Within.{Limits, StmtsWithin, ElseWithin, BranchesWithin}
use Rattle.fm_grammar.specs.Rules.{Sym, kind_code, rules_of}
use Rattle.fm_grammar.specs.Table.{opened}
use Rattle.fm_grammar.specs.Rules as table
use Rattle.fm_grammar.proofs.Fits.{Fits, more_steps}
use Rattle.fm_grammar.proofs.Alive.{In}
use Rattle.fm_grammar.proofs.Telling.{tells_keyword, leaf_of}
use Rattle.fm_grammar.proofs.ToForms.{Ruled, ruled_take, at_rule, with_token, Split}
use Rattle.fm_grammar.proofs.ToBlocks.{Known, block_split, Stmt}
use Rattle.fm_grammar.proofs.ToStatements.{stmt_case}

-- ---- sequences, one step more

stmts_step : (most : Limits) (n : ℕ) → Known most n → (u : ℕ) (ss : List Sym) (ts : List Lexed)
    → Fits most (suc n) u (table.stmts ∷ ss) ts
    → Split most (suc n) ss ts stmts_text (StmtsWithin most (opened ss))
stmts_step most n known u ss ts (inr l) = record {
  form = no_stmt;
  rest = ts;
  place = refl;
  within = tt;
  fits = more_steps most n 0 ss ts l.fits;
}
stmts_step most n known u ss ts (inl t) =
    let r = ruled_take most n u table.stmts ss ts t in
    by (kind_code r.token.kind) r.next (stmt_case most n known table.stmts [] ss ts r.rest r.token r.next r.place r.fits r.rule)
  where
    by : (code : ℕ) (rhs : List Sym) → Stmt most n table.stmts ss ts ⊎ In code rhs []
        → Split most (suc n) ss ts stmts_text (StmtsWithin most (opened ss))
    by code rhs (inl s) =
        let c = known.stmts 0 ss s.rest s.fits in record {
          form = stmt s.form c.form;
          rest = c.rest;
          place = s.place ∙ ap (λ (x : List Lexed). stmt_text s.form x) c.place;
          within = (s.within, c.within);
          fits = more_steps most n 0 ss c.rest c.fits;
        }
    by code rhs (inr none) = absurd none

elses_step : (most : Limits) (n : ℕ) → Known most n → (u : ℕ) (ss : List Sym) (ts : List Lexed)
    → Fits most (suc n) u (table.otherwise ∷ ss) ts
    → Split most (suc n) ss ts else_text (ElseWithin most (opened ss))
elses_step most n known u ss ts (inr l) = record {
  form = no_else;
  rest = ts;
  place = refl;
  within = tt;
  fits = more_steps most n 0 ss ts l.fits;
}
elses_step most n known u ss ts (inl t) = by (ruled_take most n u table.otherwise ss ts t)
  where
    by : Ruled most n 0 table.otherwise ss ts → Split most (suc n) ss ts else_text (ElseWithin most (opened ss))
    by r = known_rule r.rule
      where
        known_rule : In (kind_code r.token.kind) r.next (rules_of table.otherwise)
            → Split most (suc n) ss ts else_text (ElseWithin most (opened ss))
        known_rule (inl (code, same)) =
            let b = block_split most n known 0 ss r.rest (at_rule most n 0 (table.block []) r.next ss r.rest same r.fits) in record {
              form = otherwise (leaf_of r.token) b.form;
              rest = b.rest;
              place = with_token ts r.rest (block_text b.form b.rest) r.token (kinds.Keyword Else) r.place
                  (tells_keyword Else r.token.kind code) b.place;
              within = b.within;
              fits = more_steps most n 0 ss b.rest b.fits;
            }
        known_rule (inr none) = absurd none

branches_step : (most : Limits) (n : ℕ) → Known most n → (u : ℕ) (ss : List Sym) (ts : List Lexed)
    → Fits most (suc n) u (table.branches ∷ ss) ts
    → Split most (suc n) ss ts branches_text (BranchesWithin most (opened ss))
branches_step most n known u ss ts (inr l) = record {
  form = no_branch;
  rest = ts;
  place = refl;
  within = tt;
  fits = more_steps most n 0 ss ts l.fits;
}
branches_step most n known u ss ts (inl t) = by (ruled_take most n u table.branches ss ts t)
  where
    by : Ruled most n 0 table.branches ss ts → Split most (suc n) ss ts branches_text (BranchesWithin most (opened ss))
    by r = known_rule r.rule
      where
        known_rule : In (kind_code r.token.kind) r.next (rules_of table.branches)
            → Split most (suc n) ss ts branches_text (BranchesWithin most (opened ss))
        known_rule (inl (code, same)) =
            let b = block_split most n known 0 (table.branches ∷ ss) r.rest
            (at_rule most n 0 (table.block (table.branches ∷ [])) r.next ss r.rest same r.fits) in
            let bs = known.branches 0 ss b.rest b.fits in record {
              form = branch (leaf_of r.token) b.form bs.form;
              rest = bs.rest;
              place = with_token ts r.rest _ r.token (kinds.Keyword Branch) r.place (tells_keyword Branch r.token.kind code)
                  (b.place ∙ ap (λ (x : List Lexed). block_text b.form x) bs.place);
              within = (b.within, bs.within);
              fits = more_steps most n 0 ss bs.rest bs.fits;
            }
        known_rule (inr none) = absurd none

-- sequences of statements, second blocks and branches
pub known : (most : Limits) (n : ℕ) → Known most n
known most zero = record {
  stmts = λ u ss ts none. absurd none;
  elses = λ u ss ts none. absurd none;
  branches = λ u ss ts none. absurd none;
}
known most (suc n) = let so_far = known most n in record {
  stmts = stmts_step most n so_far;
  elses = elses_step most n so_far;
  branches = branches_step most n so_far;
}
