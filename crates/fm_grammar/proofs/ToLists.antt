-- What fits the symbols of lists is the tokens of one.
use Rattle.std.proofs.Common.{ℕ, zero, suc, inl, inr, List, [], ◌∷◌, refl, ap, ◌∙◌}
use Rattle.fm_lex.specs.Tokens.{Lexed}
use Rattle.fm_grammar.specs.Grammar.{no_more, more}
use Rattle.fm_grammar.specs.Signs.{comma}
use Rattle.fm_grammar.specs.Spelling.{mores_text, listed_text, num_text, length_text, part_text, pitch_text}
use Rattle.fm_grammar.specs.Within.{Limits, PitchWithin, MoresWithin, ListedWithin}
use Rattle.fm_grammar.specs.Rules.{Sym, Item, kind_code, rules_of}
use Rattle.fm_grammar.specs.Rules as table
use Rattle.fm_grammar.proofs.Fits.{Fits}
use Rattle.fm_grammar.proofs.Alive.{In}
use Rattle.fm_grammar.proofs.Telling.{tells_symbol, leaf_of}
use Rattle.fm_grammar.proofs.ToForms.{Ruled, ruled_take, at_rule, with_token, Split, Free, to_num}
use Rattle.fm_grammar.proofs.ToCounts.{more_of}
use Rattle.fm_grammar.proofs.ToValues.{to_pitch, to_length, to_part}

-- ---- lists

-- what fits the symbol of an item is the tokens of an item
abbrev pub ToItem : Limits → Item → {A : Type 0} → (A → List Lexed → List Lexed) → (A → Type 0) → Type 0
ToItem most i {A} text Within = (n u : ℕ) (ss : List Sym) (ts : List Lexed) → Fits most n u (table.item i ∷ ss) ts
    → Split most n ss ts text Within

to_mores : {A : Type 0} (most : Limits) (i : Item) (text : A → List Lexed → List Lexed) (Within : A → Type 0) → ToItem most i text Within
    → (n u : ℕ) (ss : List Sym) (ts : List Lexed) → Fits most n u (table.mores i ∷ ss) ts
    → Split most n ss ts (mores_text text) (MoresWithin Within)
to_mores most i text Within to_item zero u ss ts fits = absurd fits
to_mores most i text Within to_item (suc n) u ss ts (inr l) = record {
  form = no_more;
  rest = ts;
  place = refl;
  within = tt;
  fits = more_of most n ss ts l.fits;
}
to_mores {A} most i text Within to_item (suc n) u ss ts (inl t) =
    by (ruled_take most n u (table.mores i) ss ts t) (λ later. to_mores most i text Within to_item n 0 ss later)
  where
    by : Ruled most n 0 (table.mores i) ss ts
        → ((later : List Lexed) → Fits most n 0 (table.mores i ∷ ss) later → Split most n ss later (mores_text text) (MoresWithin Within))
        → Split most (suc n) ss ts (mores_text text) (MoresWithin Within)
    by r on = comma_case r.rule
      where
        comma_case : In (kind_code r.token.kind) r.next (rules_of (table.mores i))
            → Split most (suc n) ss ts (mores_text text) (MoresWithin Within)
        comma_case (inl (code, same)) =
            let x = to_item n 0 (table.mores i ∷ ss) r.rest (at_rule most n 0 (table.with_commas i []) r.next ss r.rest same r.fits) in
            let xs = on x.rest x.fits in record {
              form = more (leaf_of r.token) x.form xs.form;
              rest = xs.rest;
              place = with_token ts r.rest _ r.token comma r.place (tells_symbol 44 r.token.kind code)
                  (x.place ∙ ap (λ (y : List Lexed). text x.form y) xs.place);
              within = (x.within, xs.within);
              fits = more_of most n ss xs.rest xs.fits;
            }
        comma_case (inr none) = absurd none

to_listed : {A : Type 0} (most : Limits) (i : Item) (text : A → List Lexed → List Lexed) (Within : A → Type 0) → ToItem most i text Within
    → (n u : ℕ) (ss : List Sym) (ts : List Lexed) → Fits most n u (table.with_commas i ss) ts
    → Split most n ss ts (listed_text text) (ListedWithin Within)
to_listed most i text Within to_item n u ss ts fits =
    let x = to_item n u (table.mores i ∷ ss) ts fits in
    let xs = to_mores most i text Within to_item n 0 ss x.rest x.fits in record {
      form = record { first = x.form; others = xs.form };
      rest = xs.rest;
      place = x.place ∙ ap (λ (y : List Lexed). text x.form y) xs.place;
      within = (x.within, xs.within);
      fits = xs.fits;
    }

-- a list of pitches
pub to_pitches : (most : Limits) (n u : ℕ) (ss : List Sym) (ts : List Lexed) → Fits most n u (table.with_commas table.pitches ss) ts
    → Split most n ss ts (listed_text pitch_text) (ListedWithin (PitchWithin most.tokens))
to_pitches most n u ss ts fits = to_listed most table.pitches pitch_text (PitchWithin most.tokens) (to_pitch most) n u ss ts fits

-- a list of lengths
pub to_lengths : (most : Limits) (n u : ℕ) (ss : List Sym) (ts : List Lexed) → Fits most n u (table.with_commas table.lengths ss) ts
    → Split most n ss ts (listed_text length_text) (ListedWithin Free)
to_lengths most n u ss ts fits = to_listed most table.lengths length_text Free (to_length most) n u ss ts fits

-- a list of numbers
pub to_numbers : (most : Limits) (n u : ℕ) (ss : List Sym) (ts : List Lexed) → Fits most n u (table.with_commas table.numbers ss) ts
    → Split most n ss ts (listed_text num_text) (ListedWithin Free)
to_numbers most n u ss ts fits = to_listed most table.numbers num_text Free (to_num most) n u ss ts fits

-- a list of parts
pub to_parts : (most : Limits) (n u : ℕ) (ss : List Sym) (ts : List Lexed) → Fits most n u (table.with_commas table.parts ss) ts
    → Split most n ss ts (listed_text part_text) (ListedWithin Free)
to_parts most n u ss ts fits = to_listed most table.parts part_text Free (to_part most) n u ss ts fits
