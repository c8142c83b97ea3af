-- What fits the symbols of values is the tokens of one.
use Rattle.std.proofs.Common.{◌≡◌, ℕ, zero, suc, inl, inr, List, [], ◌∷◌, ◌++◌, Ok, refl, ap, ◌∙◌}
use Rattle.fm_lex.specs.Tokens.{Lexeme, Lexed}
use Rattle.fm_lex.specs.declared.kind.Kind.TheVariants.{Number, Pitch}
use Rattle.fm_lex.specs.declared.kind.Kind.TheVariants as kinds
use Rattle.fm_lex.specs.declared.keyword.Keyword.TheVariants.{Flat, By, Slope, To, Pause, Breath, Ticks, Key}
use Rattle.fm_grammar.specs.Score.{Leaf}
use Rattle.fm_grammar.specs.Grammar.{share, ticks, flat, slope, pause, breath, expr, AmountForm, negative, DurationForm, fixed, named, keyed, rest}
use Rattle.fm_grammar.specs.Grammar as forms
use Rattle.fm_grammar.specs.Signs.{open_parenthesis, close_parenthesis, slash, minus_sign, tok, key, num}
use Rattle.fm_grammar.specs.Spelling.{length_text, part_text, expr_text, amount_text, duration_text, pitch_text}
use Rattle.fm_grammar.specs.Within.{Limits, AmountWithin, DurationWithin, PitchWithin}
use Rattle.fm_grammar.specs.Rules.{Sym, one, any_number, kind_code, rules_of}
use Rattle.fm_grammar.specs.Rules as table
use Rattle.fm_grammar.proofs.Fits.{Fits}
use Rattle.fm_grammar.proofs.Alive.{In}
use Rattle.fm_grammar.proofs.Telling.{tells_keyword, tells_symbol, number_kind, pitch_kind, leaf_of}
use Rattle.fm_grammar.proofs.ToForms.{ruled, at_rule, with_token, Split, Free, to_sign, num_form, to_num}
use Rattle.fm_grammar.proofs.ToExprs.{to_expr}
use Rattle.fm_grammar.proofs.ToCounts.{more_of, CountForm, plain, clamped, count_text, CountWithin, to_count}

-- ---- values

amount_case : (most : Limits) (n : ℕ) (ss : List Sym) (ts later : List Lexed) (t : Lexeme) (next : List Sym) → ts ≡ Ok t ∷ later
    → Fits most n 0 (next ++ ss) later → In (kind_code t.kind) next (rules_of table.amount)
    → Split most (suc n) ss ts amount_text (AmountWithin most.tokens)
amount_case most n ss ts later t next place fits (inl (code, same)) =
    let kind = number_kind t.kind code in record {
      form = forms.AmountForm.number (num_form kind.0 t);
      rest = later;
      place = with_token ts later later t (Number kind.0) place kind.1 refl;
      within = tt;
      fits = more_of most n ss later (at_rule most n 0 [] next ss later same fits);
    }
amount_case most n ss ts later t next place fits (inr (inl (code, same))) =
    let v = to_num most n 0 ss later (at_rule most n 0 (one any_number ∷ []) next ss later same fits) in record {
      form = negative (leaf_of t) v.form;
      rest = v.rest;
      place = with_token ts later (num v.form ∷ v.rest) t minus_sign place (tells_symbol 45 t.kind code) v.place;
      within = tt;
      fits = more_of most n ss v.rest v.fits;
    }
amount_case most n ss ts later t next place fits (inr (inr (inl (code, same)))) =
    let e = to_expr most n (one close_parenthesis ∷ ss) later
    (at_rule most n 0 (table.expr (one close_parenthesis ∷ [])) next ss later same fits) in
    let c = to_sign most close_parenthesis (tells_symbol 41) n e.count ss e.rest e.fits in record {
      form = forms.AmountForm.computed (leaf_of t) e.form c.form;
      rest = c.rest;
      place = with_token ts later _ t open_parenthesis place (tells_symbol 40 t.kind code)
          (e.place ∙ ap (λ (x : List Lexed). expr_text e.form x) c.place);
      within = e.within;
      fits = more_of most n ss c.rest c.fits;
    }
amount_case most n ss ts later t next place fits (inr (inr (inr none))) = absurd none

-- an amount
pub to_amount : (most : Limits) (n u : ℕ) (ss : List Sym) (ts : List Lexed) → Fits most n u (table.amount ∷ ss) ts
    → Split most n ss ts amount_text (AmountWithin most.tokens)
to_amount most zero u ss ts fits = absurd fits
to_amount most (suc n) u ss ts fits =
    let r = ruled most n u table.amount ss ts refl fits in amount_case most n ss ts r.rest r.token r.next r.place r.fits r.rule

length_case : (most : Limits) (n : ℕ) (ss : List Sym) (ts later : List Lexed) (t : Lexeme) (next : List Sym) → ts ≡ Ok t ∷ later
    → Fits most n 0 (next ++ ss) later → In (kind_code t.kind) next (rules_of table.length)
    → Split most (suc n) ss ts length_text Free
length_case most n ss ts later t next place fits (inl (code, same)) =
    let kind = number_kind t.kind code in
    let s = to_sign most slash (tells_symbol 47) n 0 (one any_number ∷ ss) later
    (at_rule most n 0 (one slash ∷ one any_number ∷ []) next ss later same fits) in
    let v = to_num most n 0 ss s.rest s.fits in record {
      form = share (num_form kind.0 t) s.form v.form;
      rest = v.rest;
      place = with_token ts later _ t (Number kind.0) place kind.1 (s.place ∙ ap (λ (x : List Lexed). tok slash s.form ∷ x) v.place);
      within = tt;
      fits = more_of most n ss v.rest v.fits;
    }
length_case most n ss ts later t next place fits (inr (inl (code, same))) =
    let v = to_num most n 0 ss later (at_rule most n 0 (one any_number ∷ []) next ss later same fits) in record {
      form = ticks (leaf_of t) v.form;
      rest = v.rest;
      place = with_token ts later (num v.form ∷ v.rest) t (kinds.Keyword Ticks) place (tells_keyword Ticks t.kind code) v.place;
      within = tt;
      fits = more_of most n ss v.rest v.fits;
    }
length_case most n ss ts later t next place fits (inr (inr none)) = absurd none

-- a length
pub to_length : (most : Limits) (n u : ℕ) (ss : List Sym) (ts : List Lexed) → Fits most n u (table.length ∷ ss) ts
    → Split most n ss ts length_text Free
to_length most zero u ss ts fits = absurd fits
to_length most (suc n) u ss ts fits =
    let r = ruled most n u table.length ss ts refl fits in length_case most n ss ts r.rest r.token r.next r.place r.fits r.rule

-- the duration of a word and a count
ticks_duration : Leaf → CountForm → DurationForm
ticks_duration w (plain n) = fixed (ticks w n)
ticks_duration w (clamped o e c m n) = forms.DurationForm.computed w o e c m n

ticks_place : (w : Leaf) (c : CountForm) (next : List Lexed) → key Ticks w ∷ count_text c next ≡ duration_text (ticks_duration w c) next
unfolding ticks_duration
ticks_place w (plain n) next = refl
ticks_place w (clamped o e c m n) next = refl

ticks_within : (most : ℕ) (w : Leaf) (c : CountForm) → CountWithin most c → DurationWithin most (ticks_duration w c)
unfolding ticks_duration
ticks_within most w (plain n) small = tt
ticks_within most w (clamped o e c m n) small = small

duration_case : (most : Limits) (n : ℕ) (ss : List Sym) (ts later : List Lexed) (t : Lexeme) (next : List Sym) → ts ≡ Ok t ∷ later
    → Fits most n 0 (next ++ ss) later → In (kind_code t.kind) next (rules_of table.duration)
    → Split most (suc n) ss ts duration_text (DurationWithin most.tokens)
duration_case most n ss ts later t next place fits (inl (code, same)) =
    let kind = number_kind t.kind code in
    let s = to_sign most slash (tells_symbol 47) n 0 (one any_number ∷ ss) later
    (at_rule most n 0 (one slash ∷ one any_number ∷ []) next ss later same fits) in
    let v = to_num most n 0 ss s.rest s.fits in record {
      form = fixed (share (num_form kind.0 t) s.form v.form);
      rest = v.rest;
      place = with_token ts later _ t (Number kind.0) place kind.1 (s.place ∙ ap (λ (x : List Lexed). tok slash s.form ∷ x) v.place);
      within = tt;
      fits = more_of most n ss v.rest v.fits;
    }
duration_case most n ss ts later t next place fits (inr (inl (code, same))) =
    let c = to_count most n 0 ss later (at_rule most n 0 (table.counted ∷ []) next ss later same fits) in record {
      form = ticks_duration (leaf_of t) c.form;
      rest = c.rest;
      place = with_token ts later (count_text c.form c.rest) t (kinds.Keyword Ticks) place (tells_keyword Ticks t.kind code) c.place
          ∙ ticks_place (leaf_of t) c.form c.rest;
      within = ticks_within most.tokens (leaf_of t) c.form c.within;
      fits = more_of most n ss c.rest c.fits;
    }
duration_case most n ss ts later t next place fits (inr (inr none)) = absurd none

-- a duration
pub to_duration : (most : Limits) (n u : ℕ) (ss : List Sym) (ts : List Lexed) → Fits most n u (table.duration ∷ ss) ts
    → Split most n ss ts duration_text (DurationWithin most.tokens)
to_duration most zero u ss ts fits = absurd fits
to_duration most (suc n) u ss ts fits =
    let r = ruled most n u table.duration ss ts refl fits in duration_case most n ss ts r.rest r.token r.next r.place r.fits r.rule

pitch_case : (most : Limits) (n : ℕ) (ss : List Sym) (ts later : List Lexed) (t : Lexeme) (next : List Sym) → ts ≡ Ok t ∷ later
    → Fits most n 0 (next ++ ss) later → In (kind_code t.kind) next (rules_of table.pitch)
    → Split most (suc n) ss ts pitch_text (PitchWithin most.tokens)
pitch_case most n ss ts later t next place fits (inl (code, same)) =
    let kind = pitch_kind t.kind code in record {
      form = named kind.0 (leaf_of t);
      rest = later;
      place = with_token ts later later t (Pitch kind.0) place kind.1 refl;
      within = tt;
      fits = more_of most n ss later (at_rule most n 0 [] next ss later same fits);
    }
pitch_case most n ss ts later t next place fits (inr (inl (code, same))) =
    let a = to_amount most n 0 ss later (at_rule most n 0 (table.amount ∷ []) next ss later same fits) in record {
      form = keyed (leaf_of t) a.form;
      rest = a.rest;
      place = with_token ts later (amount_text a.form a.rest) t (kinds.Keyword Key) place (tells_keyword Key t.kind code) a.place;
      within = a.within;
      fits = more_of most n ss a.rest a.fits;
    }
pitch_case most n ss ts later t next place fits (inr (inr none)) = absurd none

-- a pitch
pub to_pitch : (most : Limits) (n u : ℕ) (ss : List Sym) (ts : List Lexed) → Fits most n u (table.pitch ∷ ss) ts
    → Split most n ss ts pitch_text (PitchWithin most.tokens)
to_pitch most zero u ss ts fits = absurd fits
to_pitch most (suc n) u ss ts fits =
    let r = ruled most n u table.pitch ss ts refl fits in pitch_case most n ss ts r.rest r.token r.next r.place r.fits r.rule

part_case : (most : Limits) (n : ℕ) (ss : List Sym) (ts later : List Lexed) (t : Lexeme) (next : List Sym) → ts ≡ Ok t ∷ later
    → Fits most n 0 (next ++ ss) later → In (kind_code t.kind) next (rules_of table.part)
    → Split most (suc n) ss ts part_text Free
part_case most n ss ts later t next place fits (inl (code, same)) =
    let l = to_length most n 0 (one (kinds.Keyword By) ∷ one any_number ∷ ss) later
    (at_rule most n 0 (table.length ∷ one (kinds.Keyword By) ∷ one any_number ∷ []) next ss later same fits) in
    let b = to_sign most (kinds.Keyword By) (tells_keyword By) n 0 (one any_number ∷ ss) l.rest l.fits in
    let v = to_num most n 0 ss b.rest b.fits in record {
      form = flat (leaf_of t) l.form b.form v.form;
      rest = v.rest;
      place = with_token ts later _ t (kinds.Keyword Flat) place (tells_keyword Flat t.kind code)
          (l.place ∙ ap (λ (x : List Lexed). length_text l.form x) (b.place ∙ ap (λ (x : List Lexed). key By b.form ∷ x) v.place));
      within = tt;
      fits = more_of most n ss v.rest v.fits;
    }
part_case most n ss ts later t next place fits (inr (inl (code, same))) =
    let ends = one (kinds.Keyword To) ∷ one any_number ∷ ss in
    let l = to_length most n 0 (one (kinds.Keyword By) ∷ one any_number ∷ ends) later
    (at_rule most n 0 (table.length ∷ one (kinds.Keyword By) ∷ one any_number ∷ one (kinds.Keyword To) ∷ one any_number ∷ []) next ss
    later same fits) in
    let b = to_sign most (kinds.Keyword By) (tells_keyword By) n 0 (one any_number ∷ ends) l.rest l.fits in
    let v = to_num most n 0 ends b.rest b.fits in
    let o = to_sign most (kinds.Keyword To) (tells_keyword To) n 0 (one any_number ∷ ss) v.rest v.fits in
    let e = to_num most n 0 ss o.rest o.fits in record {
      form = slope (leaf_of t) l.form b.form v.form o.form e.form;
      rest = e.rest;
      place = with_token ts later _ t (kinds.Keyword Slope) place (tells_keyword Slope t.kind code)
          (l.place ∙ ap (λ (x : List Lexed). length_text l.form x) (b.place ∙ ap (λ (x : List Lexed). key By b.form ∷ x)
          (v.place ∙ ap (λ (x : List Lexed). num v.form ∷ x) (o.place ∙ ap (λ (x : List Lexed). key To o.form ∷ x) e.place))));
      within = tt;
      fits = more_of most n ss e.rest e.fits;
    }
part_case most n ss ts later t next place fits (inr (inr (inl (code, same)))) =
    let l = to_length most n 0 ss later (at_rule most n 0 (table.length ∷ []) next ss later same fits) in record {
      form = pause (leaf_of t) l.form;
      rest = l.rest;
      place = with_token ts later (length_text l.form l.rest) t (kinds.Keyword Pause) place (tells_keyword Pause t.kind code) l.place;
      within = tt;
      fits = more_of most n ss l.rest l.fits;
    }
part_case most n ss ts later t next place fits (inr (inr (inr (inl (code, same))))) =
    let l = to_length most n 0 ss later (at_rule most n 0 (table.length ∷ []) next ss later same fits) in record {
      form = breath (leaf_of t) l.form;
      rest = l.rest;
      place = with_token ts later (length_text l.form l.rest) t (kinds.Keyword Breath) place (tells_keyword Breath t.kind code) l.place;
      within = tt;
      fits = more_of most n ss l.rest l.fits;
    }
part_case most n ss ts later t next place fits (inr (inr (inr (inr none)))) = absurd none

-- a part of a shape
pub to_part : (most : Limits) (n u : ℕ) (ss : List Sym) (ts : List Lexed) → Fits most n u (table.part ∷ ss) ts
    → Split most n ss ts part_text Free
to_part most zero u ss ts fits = absurd fits
to_part most (suc n) u ss ts fits =
    let r = ruled most n u table.part ss ts refl fits in part_case most n ss ts r.rest r.token r.next r.place r.fits r.rule
