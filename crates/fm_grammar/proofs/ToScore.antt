-- What fits the symbols of a whole text is the tokens of a score.
use Rattle.std.proofs.Common.{◌≡◌, ℕ, zero, suc, ◌⊎◌, inl, inr, Bool, true, false, List, [], ◌∷◌, ◌++◌, Ok, refl, ap, ◌∙◌}
use Rattle.fm_lex.specs.Tokens.{Lexeme, Lexed}
use Rattle.fm_lex.specs.declared.kind.Kind.TheVariants.{Name, End}
use Rattle.fm_lex.specs.declared.kind.Kind.TheVariants as kinds
use Rattle.fm_lex.specs.declared.keyword.Keyword.TheVariants.{Formula, Seed, Shape, Phrase}
use Rattle.fm_grammar.specs.Grammar.{shape, phrase, plays, no_entry, entry, no_seed, seed, DivisionForm, no_division, division, ScoreForm}
use Rattle.fm_grammar.specs.Signs.{semicolon, equals, tok, key, num}
use Rattle.fm_grammar.specs.Spelling.{listed_text, part_text, entry_text, entries_text, seed_text, division_text, score_text}
use Rattle.fm_grammar.specs.Within.{Limits, EntryWithin, EntriesWithin}
use Rattle.fm_grammar.specs.Rules.{Sym, one, Rule, any_number, kind_code, rules_of}
use Rattle.fm_grammar.specs.Rules as table
use Rattle.fm_grammar.proofs.Fits.{Fits, more_steps}
use Rattle.fm_grammar.proofs.Alive.{In}
use Rattle.fm_grammar.proofs.Telling.{tells_keyword, tells_symbol, tells_name, tells_end, leaf_of}
use Rattle.fm_grammar.proofs.ToForms.{Ruled, ruled_take, at_rule, with_token, Split, Free, to_sign, to_num}
use Rattle.fm_grammar.proofs.ToLists.{to_parts}
use Rattle.fm_grammar.proofs.ToBlocks.{Stmt, block_split}
use Rattle.fm_grammar.proofs.ToStatements.{stmt_case}
use Rattle.fm_grammar.proofs.ToSequences.{known}
use Rattle.fm_grammar.proofs.FromStatements.{states_division}

-- the end behind the entries
abbrev ends : List Sym
ends = one End ∷ []

-- the rules of an entry that is no statement
abbrev definitions : List Rule
definitions =
    table.rule_at (kinds.Keyword Shape) (one Name ∷ one equals ∷ table.with_commas table.parts (one semicolon ∷ table.entries ∷ []))
    ∷ table.rule_at (kinds.Keyword Phrase) (one Name ∷ table.block (table.entries ∷ [])) ∷ []

-- the tokens of entries
abbrev Entries : Limits → ℕ → List Lexed → Type 0
Entries most n ts = Split most n ends ts entries_text (EntriesWithin most)

-- the tokens of an entry
abbrev Entry : Limits → ℕ → List Lexed → Type 0
Entry most n ts = Split most n (table.entries ∷ ends) ts entry_text (EntryWithin most)

entry_case : (most : Limits) (n : ℕ) (ts later : List Lexed) (t : Lexeme) (rhs : List Sym) → ts ≡ Ok t ∷ later
    → Fits most n 0 (rhs ++ ends) later
    → Stmt most n table.entries ends ts ⊎ In (kind_code t.kind) rhs definitions → Entry most n ts
entry_case most n ts later t rhs place fits (inl s) = record {
  form = plays s.form;
  rest = s.rest;
  place = s.place;
  within = s.within;
  fits = s.fits;
}
entry_case most n ts later t rhs place fits (inr (inl (code, same))) =
    let after = table.with_commas table.parts (one semicolon ∷ table.entries ∷ ends) in
    let m = to_sign most Name tells_name n 0 (one equals ∷ after) later
    (at_rule most n 0 (one Name ∷ one equals ∷ table.with_commas table.parts (one semicolon ∷ table.entries ∷ [])) rhs ends later same
    fits) in
    let q = to_sign most equals (tells_symbol 61) n 0 after m.rest m.fits in
    let ps = to_parts most n 0 (one semicolon ∷ table.entries ∷ ends) q.rest q.fits in
    let e = to_sign most semicolon (tells_symbol 59) n 0 (table.entries ∷ ends) ps.rest ps.fits in record {
      form = shape (leaf_of t) m.form q.form ps.form e.form;
      rest = e.rest;
      place = with_token ts later _ t (kinds.Keyword Shape) place (tells_keyword Shape t.kind code)
          (m.place ∙ ap (λ (x : List Lexed). tok Name m.form ∷ x) (q.place ∙ ap (λ (x : List Lexed). tok equals q.form ∷ x)
          (ps.place ∙ ap (λ (x : List Lexed). listed_text part_text ps.form x) e.place)));
      within = tt;
      fits = e.fits;
    }
entry_case most n ts later t rhs place fits (inr (inr (inl (code, same)))) =
    let m = to_sign most Name tells_name n 0 (table.block (table.entries ∷ ends)) later
    (at_rule most n 0 (one Name ∷ table.block (table.entries ∷ [])) rhs ends later same fits) in
    let b = block_split most n (known most n) 0 (table.entries ∷ ends) m.rest m.fits in record {
      form = phrase (leaf_of t) m.form b.form;
      rest = b.rest;
      place = with_token ts later _ t (kinds.Keyword Phrase) place (tells_keyword Phrase t.kind code)
          (m.place ∙ ap (λ (x : List Lexed). tok Name m.form ∷ x) b.place);
      within = b.within;
      fits = b.fits;
    }
entry_case most n ts later t rhs place fits (inr (inr (inr none))) = absurd none

to_entries : (most : Limits) (n u : ℕ) (ts : List Lexed) → Fits most n u (table.entries ∷ ends) ts → Entries most n ts
to_entries most zero u ts fits = absurd fits
to_entries most (suc n) u ts (inr l) = record {
  form = no_entry;
  rest = ts;
  place = refl;
  within = tt;
  fits = more_steps most n 0 ends ts l.fits;
}
to_entries most (suc n) u ts (inl t) =
    by (ruled_take most n u table.entries ends ts t) (λ later fits. to_entries most n 0 later fits)
  where
    by : Ruled most n 0 table.entries ends ts
        → ((later : List Lexed) → Fits most n 0 (table.entries ∷ ends) later → Entries most n later) → Entries most (suc n) ts
    by r on =
        let e = entry_case most n ts r.rest r.token r.next r.place r.fits
        (stmt_case most n (known most n) table.entries definitions ends ts r.rest r.token r.next r.place r.fits r.rule) in
        let es = on e.rest e.fits in record {
          form = entry e.form es.form;
          rest = es.rest;
          place = e.place ∙ ap (λ (x : List Lexed). entry_text e.form x) es.place;
          within = (e.within, es.within);
          fits = more_steps most n 0 ends es.rest es.fits;
        }

to_seed : (most : Limits) (n u : ℕ) (ss : List Sym) (ts : List Lexed) → Fits most n u (table.seeded ∷ ss) ts
    → Split most n ss ts seed_text Free
to_seed most zero u ss ts fits = absurd fits
to_seed most (suc n) u ss ts (inr l) = record {
  form = no_seed;
  rest = ts;
  place = refl;
  within = tt;
  fits = more_steps most n 0 ss ts l.fits;
}
to_seed most (suc n) u ss ts (inl t) = by (ruled_take most n u table.seeded ss ts t)
  where
    by : Ruled most n 0 table.seeded ss ts → Split most (suc n) ss ts seed_text Free
    by r = known_rule r.rule
      where
        known_rule : In (kind_code r.token.kind) r.next (rules_of table.seeded) → Split most (suc n) ss ts seed_text Free
        known_rule (inl (code, same)) =
            let v = to_num most n 0 (one semicolon ∷ ss) r.rest
            (at_rule most n 0 (one any_number ∷ one semicolon ∷ []) r.next ss r.rest same r.fits) in
            let e = to_sign most semicolon (tells_symbol 59) n 0 ss v.rest v.fits in record {
              form = seed (leaf_of r.token) v.form e.form;
              rest = e.rest;
              place = with_token ts r.rest _ r.token (kinds.Keyword Seed) r.place (tells_keyword Seed r.token.kind code)
                  (v.place ∙ ap (λ (x : List Lexed). num v.form ∷ x) e.place);
              within = tt;
              fits = more_steps most n 0 ss e.rest e.fits;
            }
        known_rule (inr none) = absurd none

-- the tokens behind the version are those of a division, where the symbols have one, and a rest that fits what is behind
record Behind (most : Limits) (n : ℕ) (divided : Bool) (ts : List Lexed) : Type 0 where
  form : DivisionForm
  states : states_division form ≡ divided
  rest : List Lexed
  place : ts ≡ division_text form rest
  fits : Fits most n 0 table.undivided rest

to_division : (most : Limits) (n : ℕ) (divided : Bool) (ts : List Lexed) → Fits most n 0 (table.behind_version divided) ts
    → Behind most n divided ts
to_division most n false ts fits = record { form = no_division; states = refl; rest = ts; place = refl; fits = fits }
to_division most n true ts fits =
    let w = to_sign most Name tells_name n 0 (one any_number ∷ one semicolon ∷ table.undivided) ts fits in
    let v = to_num most n 0 (one semicolon ∷ table.undivided) w.rest w.fits in
    let e = to_sign most semicolon (tells_symbol 59) n 0 table.undivided v.rest v.fits in record {
      form = division w.form v.form e.form;
      states = refl;
      rest = e.rest;
      place = w.place ∙ ap (λ (x : List Lexed). tok Name w.form ∷ x)
          (v.place ∙ ap (λ (x : List Lexed). num v.form ∷ x) e.place);
      fits = e.fits;
    }

-- the tokens are those of a score within the limits, with a division where its symbols have one
pub record IsScore (most : Limits) (divided : Bool) (ts : List Lexed) : Type 0 where
  pub form : ScoreForm
  pub states : states_division form.divided ≡ divided
  pub text : ts ≡ score_text form
  pub within : EntriesWithin most form.entries

nothing_left : (most : Limits) (n : ℕ) (ts : List Lexed) → Fits most n 0 [] ts → ts ≡ []
nothing_left most zero ts fits = absurd fits
nothing_left most (suc n) ts fits = fits.0

-- what fits the symbols of a whole text is the tokens of a score
pub to_score : (most : Limits) (n : ℕ) (divided : Bool) (ts : List Lexed) → Fits most n 0 (table.whole divided) ts
    → IsScore most divided ts
to_score most n divided ts fits =
    let w = to_sign most (kinds.Keyword Formula) (tells_keyword Formula) n 0
    (one any_number ∷ one semicolon ∷ table.behind_version divided) ts fits in
    let v = to_num most n 0 (one semicolon ∷ table.behind_version divided) w.rest w.fits in
    let e = to_sign most semicolon (tells_symbol 59) n 0 (table.behind_version divided) v.rest v.fits in
    let d = to_division most n divided e.rest e.fits in
    let s = to_seed most n 0 (table.entries ∷ ends) d.rest d.fits in
    let es = to_entries most n 0 s.rest s.fits in
    let l = to_sign most End tells_end n 0 [] es.rest es.fits in
    let none = nothing_left most n l.rest l.fits in
    let entries_place = es.place ∙ ap (λ (x : List Lexed). entries_text es.form x)
    (l.place ∙ ap (λ (x : List Lexed). tok End l.form ∷ x) none) in record {
      form = record {
        word = w.form;
        version = v.form;
        ends = e.form;
        divided = d.form;
        seeded = s.form;
        entries = es.form;
        last = l.form;
      };
      states = d.states;
      text = w.place ∙ ap (λ (x : List Lexed). key Formula w.form ∷ x) (v.place ∙ ap (λ (x : List Lexed). num v.form ∷ x)
          (e.place ∙ ap (λ (x : List Lexed). tok semicolon e.form ∷ x)
          (d.place ∙ ap (λ (x : List Lexed). division_text d.form x)
          (s.place ∙ ap (λ (x : List Lexed). seed_text s.form x) entries_place))));
      within = es.within;
    }
