-- What fits the symbols of a statement is the tokens of one.
use Rattle.std.proofs.Common.{◌≡◌, ℕ, ◌⊎◌, inl, inr, List, [], ◌∷◌, ◌++◌, Ok, ap, ◌∙◌}
use Rattle.fm_lex.specs.Tokens.{Lexeme, Lexed}
use Rattle.fm_lex.specs.declared.kind.Kind.TheVariants.{Name, Register}
use Rattle.fm_lex.specs.declared.kind.Kind.TheVariants as kinds
use Rattle.fm_lex.specs.declared.keyword.Keyword.TheVariants.{Note, Play, Rest, Skip, Control, Program, Bend, Set, If, Repeat, Do, Par, Branch, Warp, Channel, Volume, Gate, Rhythm, Artic, Loud}
use Rattle.fm_grammar.specs.Grammar.{program, bend, channel, volume, gate, artic, loud, note, play, rest, skip, control, send, set, choice, call, warp, par, scope, rhythm, cycling}
use Rattle.fm_grammar.specs.Signs.{semicolon, open_brace, close_brace, open_bracket, close_bracket, equals, tok, key, num}
use Rattle.fm_grammar.specs.Spelling.{listed_text, num_text, length_text, expr_text, amount_text, duration_text, pitch_text, block_text, branches_text}
use Rattle.fm_grammar.specs.Within.{Limits}
use Rattle.fm_grammar.specs.Rules.{Sym, one, Rule, any_number, any_register, kind_code}
use Rattle.fm_grammar.specs.Table.{opened}
use Rattle.fm_grammar.specs.Rules as table
use Rattle.fm_grammar.proofs.Fits.{Fits, fits_opens}
use Rattle.fm_grammar.proofs.Alive.{In}
use Rattle.fm_grammar.proofs.Telling.{tells_keyword, tells_symbol, tells_name, leaf_of}
use Rattle.fm_grammar.proofs.ToForms.{at_rule, with_token, to_sign, to_num}
use Rattle.fm_grammar.proofs.ToExprs.{to_expr}
use Rattle.fm_grammar.proofs.ToCounts.{count_text, to_count}
use Rattle.fm_grammar.proofs.ToValues.{to_amount, to_duration}
use Rattle.fm_grammar.proofs.ToLists.{to_pitches, to_lengths, to_numbers}
use Rattle.fm_grammar.proofs.ToBlocks.{Known, block_split, Stmt, to_register, repeat_form, repeat_place, repeat_within}

-- a statement by the rule of its word, or a rule of no statement
pub stmt_case : (most : Limits) (n : ℕ) → Known most n
    → (next : Sym) (further : List Rule) (ss : List Sym) (ts later : List Lexed) (t : Lexeme) (rhs : List Sym)
    → ts ≡ Ok t ∷ later → Fits most n 0 (rhs ++ ss) later → In (kind_code t.kind) rhs (table.stmt_rules next further)
    → Stmt most n next ss ts ⊎ In (kind_code t.kind) rhs further
stmt_case most n known next further ss ts later t rhs place fits (inl (code, same)) =
    let ps = to_pitches most n 0 (table.duration ∷ one semicolon ∷ next ∷ ss) later
    (at_rule most n 0 (table.with_commas table.pitches (table.duration ∷ one semicolon ∷ next ∷ [])) rhs ss later same fits) in
    let d = to_duration most n 0 (one semicolon ∷ next ∷ ss) ps.rest ps.fits in
    let e = to_sign most semicolon (tells_symbol 59) n 0 (next ∷ ss) d.rest d.fits in
    inl (record {
      form = note (leaf_of t) ps.form d.form e.form;
      rest = e.rest;
      place = with_token ts later _ t (kinds.Keyword Note) place (tells_keyword Note t.kind code)
          (ps.place ∙ ap (λ (x : List Lexed). listed_text pitch_text ps.form x)
          (d.place ∙ ap (λ (x : List Lexed). duration_text d.form x) e.place));
      within = (ps.within, d.within);
      fits = e.fits;
    })
stmt_case most n known next further ss ts later t rhs place fits (inr (inl (code, same))) =
    let ps = to_pitches most n 0 (one semicolon ∷ next ∷ ss) later
    (at_rule most n 0 (table.with_commas table.pitches (one semicolon ∷ next ∷ [])) rhs ss later same fits) in
    let e = to_sign most semicolon (tells_symbol 59) n 0 (next ∷ ss) ps.rest ps.fits in
    inl (record {
      form = play (leaf_of t) ps.form e.form;
      rest = e.rest;
      place = with_token ts later _ t (kinds.Keyword Play) place (tells_keyword Play t.kind code)
          (ps.place ∙ ap (λ (x : List Lexed). listed_text pitch_text ps.form x) e.place);
      within = ps.within;
      fits = e.fits;
    })
stmt_case most n known next further ss ts later t rhs place fits (inr (inr (inl (code, same)))) =
    let d = to_duration most n 0 (one semicolon ∷ next ∷ ss) later
    (at_rule most n 0 (table.duration ∷ one semicolon ∷ next ∷ []) rhs ss later same fits) in
    let e = to_sign most semicolon (tells_symbol 59) n 0 (next ∷ ss) d.rest d.fits in
    inl (record {
      form = rest (leaf_of t) d.form e.form;
      rest = e.rest;
      place = with_token ts later _ t (kinds.Keyword Rest) place (tells_keyword Rest t.kind code)
          (d.place ∙ ap (λ (x : List Lexed). duration_text d.form x) e.place);
      within = d.within;
      fits = e.fits;
    })
stmt_case most n known next further ss ts later t rhs place fits (inr (inr (inr (inl (code, same))))) =
    let e = to_sign most semicolon (tells_symbol 59) n 0 (next ∷ ss) later
    (at_rule most n 0 (one semicolon ∷ next ∷ []) rhs ss later same fits) in
    inl (record {
      form = skip (leaf_of t) e.form;
      rest = e.rest;
      place = with_token ts later _ t (kinds.Keyword Skip) place (tells_keyword Skip t.kind code) e.place;
      within = tt;
      fits = e.fits;
    })
stmt_case most n known next further ss ts later t rhs place fits (inr (inr (inr (inr (inl (code, same)))))) =
    let c = to_num most n 0 (table.amount ∷ one semicolon ∷ next ∷ ss) later
    (at_rule most n 0 (one any_number ∷ table.amount ∷ one semicolon ∷ next ∷ []) rhs ss later same fits) in
    let a = to_amount most n 0 (one semicolon ∷ next ∷ ss) c.rest c.fits in
    let e = to_sign most semicolon (tells_symbol 59) n 0 (next ∷ ss) a.rest a.fits in
    inl (record {
      form = control (leaf_of t) c.form a.form e.form;
      rest = e.rest;
      place = with_token ts later _ t (kinds.Keyword Control) place (tells_keyword Control t.kind code)
          (c.place ∙ ap (λ (x : List Lexed). num c.form ∷ x) (a.place ∙ ap (λ (x : List Lexed). amount_text a.form x) e.place));
      within = a.within;
      fits = e.fits;
    })
stmt_case most n known next further ss ts later t rhs place fits (inr (inr (inr (inr (inr (inl (code, same))))))) =
    let a = to_amount most n 0 (one semicolon ∷ next ∷ ss) later
    (at_rule most n 0 (table.amount ∷ one semicolon ∷ next ∷ []) rhs ss later same fits) in
    let e = to_sign most semicolon (tells_symbol 59) n 0 (next ∷ ss) a.rest a.fits in
    inl (record {
      form = send program (leaf_of t) a.form e.form;
      rest = e.rest;
      place = with_token ts later _ t (kinds.Keyword Program) place (tells_keyword Program t.kind code)
          (a.place ∙ ap (λ (x : List Lexed). amount_text a.form x) e.place);
      within = a.within;
      fits = e.fits;
    })
stmt_case most n known next further ss ts later t rhs place fits (inr (inr (inr (inr (inr (inr (inl (code, same)))))))) =
    let a = to_amount most n 0 (one semicolon ∷ next ∷ ss) later
    (at_rule most n 0 (table.amount ∷ one semicolon ∷ next ∷ []) rhs ss later same fits) in
    let e = to_sign most semicolon (tells_symbol 59) n 0 (next ∷ ss) a.rest a.fits in
    inl (record {
      form = send bend (leaf_of t) a.form e.form;
      rest = e.rest;
      place = with_token ts later _ t (kinds.Keyword Bend) place (tells_keyword Bend t.kind code)
          (a.place ∙ ap (λ (x : List Lexed). amount_text a.form x) e.place);
      within = a.within;
      fits = e.fits;
    })
stmt_case most n known next further ss ts later t rhs place fits (inr (inr (inr (inr (inr (inr (inr (inl (code, same))))))))) =
    let r = to_register most n 0 (one equals ∷ table.expr (one semicolon ∷ next ∷ ss)) later
    (at_rule most n 0 (one any_register ∷ one equals ∷ table.expr (one semicolon ∷ next ∷ [])) rhs ss later same fits) in
    let q = to_sign most equals (tells_symbol 61) n 0 (table.expr (one semicolon ∷ next ∷ ss)) r.rest r.fits in
    let v = to_expr most n (one semicolon ∷ next ∷ ss) q.rest q.fits in
    let e = to_sign most semicolon (tells_symbol 59) n v.count (next ∷ ss) v.rest v.fits in
    inl (record {
      form = set (leaf_of t) r.form.0 r.form.1 q.form v.form e.form;
      rest = e.rest;
      place = with_token ts later _ t (kinds.Keyword Set) place (tells_keyword Set t.kind code)
          (r.place ∙ ap (λ (x : List Lexed). tok (Register r.form.0) r.form.1 ∷ x)
          (q.place ∙ ap (λ (x : List Lexed). tok equals q.form ∷ x) (v.place ∙ ap (λ (x : List Lexed). expr_text v.form x) e.place)));
      within = v.within;
      fits = e.fits;
    })
stmt_case most n known next further ss ts later t rhs place fits (inr (inr (inr (inr (inr (inr (inr (inr (inl (code, same)))))))))) =
    let v = to_expr most n (table.block (table.otherwise ∷ next ∷ ss)) later
    (at_rule most n 0 (table.expr (table.block (table.otherwise ∷ next ∷ []))) rhs ss later same fits) in
    let b = block_split most n known v.count (table.otherwise ∷ next ∷ ss) v.rest v.fits in
    let o = known.elses 0 (next ∷ ss) b.rest b.fits in
    inl (record {
      form = choice (leaf_of t) v.form b.form o.form;
      rest = o.rest;
      place = with_token ts later _ t (kinds.Keyword If) place (tells_keyword If t.kind code)
          (v.place ∙ ap (λ (x : List Lexed). expr_text v.form x) (b.place ∙ ap (λ (x : List Lexed). block_text b.form x) o.place));
      within = (v.within, b.within, o.within);
      fits = o.fits;
    })
stmt_case most n known next further ss ts later t rhs place fits
    (inr (inr (inr (inr (inr (inr (inr (inr (inr (inl (code, same))))))))))) =
    let c = to_count most n 0 (table.block (next ∷ ss)) later
    (at_rule most n 0 (table.counted ∷ table.block (next ∷ [])) rhs ss later same fits) in
    let b = block_split most n known 0 (next ∷ ss) c.rest c.fits in
    inl (record {
      form = repeat_form (leaf_of t) c.form b.form;
      rest = b.rest;
      place = with_token ts later _ t (kinds.Keyword Repeat) place (tells_keyword Repeat t.kind code)
          (c.place ∙ ap (λ (x : List Lexed). count_text c.form x) b.place) ∙ repeat_place (leaf_of t) c.form b.form b.rest;
      within = repeat_within most (opened (next ∷ ss)) (leaf_of t) c.form b.form c.within b.within;
      fits = b.fits;
    })
stmt_case most n known next further ss ts later t rhs place fits
    (inr (inr (inr (inr (inr (inr (inr (inr (inr (inr (inl (code, same)))))))))))) =
    let m = to_sign most Name tells_name n 0 (one semicolon ∷ next ∷ ss) later
    (at_rule most n 0 (one Name ∷ one semicolon ∷ next ∷ []) rhs ss later same fits) in
    let e = to_sign most semicolon (tells_symbol 59) n 0 (next ∷ ss) m.rest m.fits in
    inl (record {
      form = call (leaf_of t) m.form e.form;
      rest = e.rest;
      place = with_token ts later _ t (kinds.Keyword Do) place (tells_keyword Do t.kind code)
          (m.place ∙ ap (λ (x : List Lexed). tok Name m.form ∷ x) e.place);
      within = tt;
      fits = e.fits;
    })
stmt_case most n known next further ss ts later t rhs place fits
    (inr (inr (inr (inr (inr (inr (inr (inr (inr (inr (inr (inl (code, same))))))))))))) =
    let m = to_sign most Name tells_name n 0 (table.block (next ∷ ss)) later
    (at_rule most n 0 (one Name ∷ table.block (next ∷ [])) rhs ss later same fits) in
    let b = block_split most n known 0 (next ∷ ss) m.rest m.fits in
    inl (record {
      form = warp (leaf_of t) m.form b.form;
      rest = b.rest;
      place = with_token ts later _ t (kinds.Keyword Warp) place (tells_keyword Warp t.kind code)
          (m.place ∙ ap (λ (x : List Lexed). tok Name m.form ∷ x) b.place);
      within = b.within;
      fits = b.fits;
    })
stmt_case most n known next further ss ts later t rhs place fits
    (inr (inr (inr (inr (inr (inr (inr (inr (inr (inr (inr (inr (inl (code, same)))))))))))))) =
    let o = to_sign most open_brace (tells_symbol 123) n 0
    (one (kinds.Keyword Branch) ∷ table.block (table.branches ∷ one close_brace ∷ next ∷ ss)) later
    (at_rule most n 0 (one open_brace ∷ one (kinds.Keyword Branch) ∷ table.block (table.branches ∷ one close_brace ∷ next ∷ [])) rhs
    ss later same fits) in
    let f = to_sign most (kinds.Keyword Branch) (tells_keyword Branch) n 0
    (table.block (table.branches ∷ one close_brace ∷ next ∷ ss)) o.rest o.fits in
    let b = block_split most n known 0 (table.branches ∷ one close_brace ∷ next ∷ ss) f.rest f.fits in
    let bs = known.branches 0 (one close_brace ∷ next ∷ ss) b.rest b.fits in
    let e = to_sign most close_brace (tells_symbol 125) n 0 (next ∷ ss) bs.rest bs.fits in
    inl (record {
      form = par (leaf_of t) o.form f.form b.form bs.form e.form;
      rest = e.rest;
      place = with_token ts later _ t (kinds.Keyword Par) place (tells_keyword Par t.kind code)
          (o.place ∙ ap (λ (x : List Lexed). tok open_brace o.form ∷ x)
          (f.place ∙ ap (λ (x : List Lexed). key Branch f.form ∷ x)
          (b.place ∙ ap (λ (x : List Lexed). block_text b.form x)
          (bs.place ∙ ap (λ (x : List Lexed). branches_text bs.form x) e.place))));
      within = (fits_opens most n 0 (one close_brace ∷ next ∷ ss) bs.rest bs.fits, b.within, bs.within);
      fits = e.fits;
    })
stmt_case most n known next further ss ts later t rhs place fits
    (inr (inr (inr (inr (inr (inr (inr (inr (inr (inr (inr (inr (inr (inl (code, same))))))))))))))) =
    let c = to_num most n 0 (table.block (next ∷ ss)) later
    (at_rule most n 0 (one any_number ∷ table.block (next ∷ [])) rhs ss later same fits) in
    let b = block_split most n known 0 (next ∷ ss) c.rest c.fits in
    inl (record {
      form = scope channel (leaf_of t) c.form b.form;
      rest = b.rest;
      place = with_token ts later _ t (kinds.Keyword Channel) place (tells_keyword Channel t.kind code)
          (c.place ∙ ap (λ (x : List Lexed). num c.form ∷ x) b.place);
      within = b.within;
      fits = b.fits;
    })
stmt_case most n known next further ss ts later t rhs place fits
    (inr (inr (inr (inr (inr (inr (inr (inr (inr (inr (inr (inr (inr (inr (inl (code, same)))))))))))))))) =
    let c = to_num most n 0 (table.block (next ∷ ss)) later
    (at_rule most n 0 (one any_number ∷ table.block (next ∷ [])) rhs ss later same fits) in
    let b = block_split most n known 0 (next ∷ ss) c.rest c.fits in
    inl (record {
      form = scope volume (leaf_of t) c.form b.form;
      rest = b.rest;
      place = with_token ts later _ t (kinds.Keyword Volume) place (tells_keyword Volume t.kind code)
          (c.place ∙ ap (λ (x : List Lexed). num c.form ∷ x) b.place);
      within = b.within;
      fits = b.fits;
    })
stmt_case most n known next further ss ts later t rhs place fits
    (inr (inr (inr (inr (inr (inr (inr (inr (inr (inr (inr (inr (inr (inr (inr (inl (code, same))))))))))))))))) =
    let c = to_num most n 0 (table.block (next ∷ ss)) later
    (at_rule most n 0 (one any_number ∷ table.block (next ∷ [])) rhs ss later same fits) in
    let b = block_split most n known 0 (next ∷ ss) c.rest c.fits in
    inl (record {
      form = scope gate (leaf_of t) c.form b.form;
      rest = b.rest;
      place = with_token ts later _ t (kinds.Keyword Gate) place (tells_keyword Gate t.kind code)
          (c.place ∙ ap (λ (x : List Lexed). num c.form ∷ x) b.place);
      within = b.within;
      fits = b.fits;
    })
stmt_case most n known next further ss ts later t rhs place fits
    (inr (inr (inr (inr (inr (inr (inr (inr (inr (inr (inr (inr (inr (inr (inr (inr (inl (code, same)))))))))))))))))) =
    let o = to_sign most open_bracket (tells_symbol 91) n 0
    (table.with_commas table.lengths (one close_bracket ∷ table.block (next ∷ ss))) later
    (at_rule most n 0 (one open_bracket ∷ table.with_commas table.lengths (one close_bracket ∷ table.block (next ∷ []))) rhs ss later
    same fits) in
    let l = to_lengths most n 0 (one close_bracket ∷ table.block (next ∷ ss)) o.rest o.fits in
    let c = to_sign most close_bracket (tells_symbol 93) n 0 (table.block (next ∷ ss)) l.rest l.fits in
    let b = block_split most n known 0 (next ∷ ss) c.rest c.fits in
    inl (record {
      form = rhythm (leaf_of t) o.form l.form c.form b.form;
      rest = b.rest;
      place = with_token ts later _ t (kinds.Keyword Rhythm) place (tells_keyword Rhythm t.kind code)
          (o.place ∙ ap (λ (x : List Lexed). tok open_bracket o.form ∷ x)
          (l.place ∙ ap (λ (x : List Lexed). listed_text length_text l.form x)
          (c.place ∙ ap (λ (x : List Lexed). tok close_bracket c.form ∷ x) b.place)));
      within = b.within;
      fits = b.fits;
    })
stmt_case most n known next further ss ts later t rhs place fits
    (inr (inr (inr (inr (inr (inr (inr (inr (inr (inr (inr (inr (inr (inr (inr (inr (inr (inl (code, same))))))))))))))))))) =
    let o = to_sign most open_bracket (tells_symbol 91) n 0
    (table.with_commas table.numbers (one close_bracket ∷ table.block (next ∷ ss))) later
    (at_rule most n 0 (one open_bracket ∷ table.with_commas table.numbers (one close_bracket ∷ table.block (next ∷ []))) rhs ss later
    same fits) in
    let l = to_numbers most n 0 (one close_bracket ∷ table.block (next ∷ ss)) o.rest o.fits in
    let c = to_sign most close_bracket (tells_symbol 93) n 0 (table.block (next ∷ ss)) l.rest l.fits in
    let b = block_split most n known 0 (next ∷ ss) c.rest c.fits in
    inl (record {
      form = cycling artic (leaf_of t) o.form l.form c.form b.form;
      rest = b.rest;
      place = with_token ts later _ t (kinds.Keyword Artic) place (tells_keyword Artic t.kind code)
          (o.place ∙ ap (λ (x : List Lexed). tok open_bracket o.form ∷ x)
          (l.place ∙ ap (λ (x : List Lexed). listed_text num_text l.form x)
          (c.place ∙ ap (λ (x : List Lexed). tok close_bracket c.form ∷ x) b.place)));
      within = b.within;
      fits = b.fits;
    })
stmt_case most n known next further ss ts later t rhs place fits
    (inr (inr (inr (inr (inr (inr (inr (inr (inr (inr (inr (inr (inr (inr (inr (inr (inr (inr (inl (code, same)))))))))))))))))))) =
    let o = to_sign most open_bracket (tells_symbol 91) n 0
    (table.with_commas table.numbers (one close_bracket ∷ table.block (next ∷ ss))) later
    (at_rule most n 0 (one open_bracket ∷ table.with_commas table.numbers (one close_bracket ∷ table.block (next ∷ []))) rhs ss later
    same fits) in
    let l = to_numbers most n 0 (one close_bracket ∷ table.block (next ∷ ss)) o.rest o.fits in
    let c = to_sign most close_bracket (tells_symbol 93) n 0 (table.block (next ∷ ss)) l.rest l.fits in
    let b = block_split most n known 0 (next ∷ ss) c.rest c.fits in
    inl (record {
      form = cycling loud (leaf_of t) o.form l.form c.form b.form;
      rest = b.rest;
      place = with_token ts later _ t (kinds.Keyword Loud) place (tells_keyword Loud t.kind code)
          (o.place ∙ ap (λ (x : List Lexed). tok open_bracket o.form ∷ x)
          (l.place ∙ ap (λ (x : List Lexed). listed_text num_text l.form x)
          (c.place ∙ ap (λ (x : List Lexed). tok close_bracket c.form ∷ x) b.place)));
      within = b.within;
      fits = b.fits;
    })
stmt_case most n known next further ss ts later t rhs place fits
    (inr (inr (inr (inr (inr (inr (inr (inr (inr (inr (inr (inr (inr (inr (inr (inr (inr (inr (inr others))))))))))))))))))) = inr others
