-- The whole text of a large score as a form of the grammar.
use Rattle.std.proofs.Common.{◌≡◌, ◌∙◌, ◌^◌, ◌<◌, ℕ, arith, List, [], ◌∷◌, ◌++◌, refl, ap, codes}
use Rattle.std.specs.Fmt.{decimal}
use Rattle.fm_lex.specs.Bytes.{first_spot}
use Rattle.fm_lex.specs.declared.keyword.Keyword.TheVariants.{Formula, Seed, Shape, Flat, By, Slope, To, Pause, Breath, Par}
use Rattle.fm_lex.specs.declared.kind.Kind.TheVariants.{End, Name}
use Rattle.fm_lex.specs.Tokens.{Lexed, between, tokens, walk}
use Rattle.fm_grammar.specs.Grammar.{ScoreForm, EntryForm, EntriesForm, entry, no_entry, no_division, seed, shape, plays, par, branch, flat, slope, pause, breath, share, more, no_more}
use Rattle.fm_grammar.specs.Grammar as forms
use Rattle.fm_grammar.specs.Signs.{close_brace, comma, equals, key, num, open_brace, semicolon, slash, tok}
use Rattle.fm_grammar.specs.Spelling.{branches_text, score_text}
use Rattle.fm_large.proofs.NumberTokens.{number_token, spelt}
use Rattle.fm_large.proofs.Text.{branches_written, channels, whole_text}
use Rattle.fm_large.proofs.Forms.{AllShort, at, behind, branch_form, branches_form, branches_read, digits, leaf, on, written}

-- ---- its form

-- a length
abbrev share_at : ℕ → ℕ → ℕ → List ℕ → ℕ → ℕ → List ℕ → forms.LengthForm
share_at line k a letters over b others = share (digits line k a letters) (leaf line over (codes "/")) (digits line (on 1 over) b others)

-- the first shape
abbrev pub shape_a : ℕ → EntryForm
shape_a stretch =
    let k = behind 32 stretch in
    let j = behind (on 27 k) stretch in
    shape (leaf 3 1 (codes "shape")) (leaf 3 7 (codes "a")) (leaf 3 9 (codes "="))
    (record {
      first = slope (leaf 3 11 (codes "slope")) (share_at 3 17 1 (codes "1") 18 1 (codes "1")) (leaf 3 21 (codes "by"))
          (digits 3 24 1000 (codes "1000"))
          (leaf 3 29 (codes "to")) (written 3 32 stretch);
      others = more (leaf 3 k (codes ",")) (breath (leaf 3 (on 2 k) (codes "breath"))
          (share_at 3 (on 9 k) 1 (codes "1") (on 10 k) 16 (codes "16")))
          (more (leaf 3 (on 13 k) (codes ",")) (flat (leaf 3 (on 15 k) (codes "flat"))
          (share_at 3 (on 20 k) 2 (codes "2") (on 21 k) 1 (codes "1")) (leaf 3 (on 24 k) (codes "by"))
          (written 3 (on 27 k) stretch)) no_more);
    }) (leaf 3 j (codes ";"))

-- the second
abbrev pub shape_b : EntryForm
shape_b = shape (leaf 4 1 (codes "shape")) (leaf 4 7 (codes "b")) (leaf 4 9 (codes "="))
    (record {
      first = pause (leaf 4 11 (codes "pause")) (share_at 4 17 1 (codes "1") 18 8 (codes "8"));
      others = more (leaf 4 20 (codes ",")) (flat (leaf 4 22 (codes "flat")) (share_at 4 27 4 (codes "4") 28 1 (codes "1"))
          (leaf 4 31 (codes "by"))
          (digits 4 34 1500 (codes "1500"))) no_more;
    }) (leaf 4 38 (codes ";"))

-- the fork
abbrev pub fork_form : ℕ → forms.StmtForm
fork_form notes = par (leaf 5 1 (codes "par")) (leaf 5 5 (codes "{")) (leaf 6 1 (codes "branch")) (branch_form 6 notes 0)
    (branches_form 7 notes channels) (leaf 22 1 (codes "}"))

-- all of it
abbrev pub whole_form : ℕ → ℕ → ℕ → ScoreForm
whole_form number stretch notes = record {
  word = leaf 1 1 (codes "formula");
  version = digits 1 9 1 (codes "1");
  ends = leaf 1 10 (codes ";");
  divided = no_division;
  seeded = seed (leaf 2 1 (codes "seed")) (written 2 6 number) (leaf 2 (behind 6 number) (codes ";"));
  entries = entry (shape_a stretch) (entry shape_b (entry (plays (fork_form notes)) no_entry));
  last = leaf 23 1 [];
}

-- ---- the one is read as the other

version_read : (xs : List ℕ) → walk between first_spot (codes "formula 1;" ++ 10 ∷ (codes "seed " ++ xs))
    ≡ key Formula (leaf 1 1 (codes "formula")) ∷ num (digits 1 9 1 (codes "1")) ∷ tok semicolon (leaf 1 10 (codes ";"))
    ∷ key Seed (leaf 2 1 (codes "seed")) ∷ walk between (at 2 6) xs
unfolding walk
version_read xs = refl

slope_read : (k : ℕ) (xs : List ℕ) → walk between (at 2 k) (codes ";" ++ 10 ∷ (codes "shape a = slope 1/1 by 1000 to " ++ xs))
    ≡ tok semicolon (leaf 2 k (codes ";")) ∷ key Shape (leaf 3 1 (codes "shape")) ∷ tok Name (leaf 3 7 (codes "a"))
    ∷ tok equals (leaf 3 9 (codes "=")) ∷ key Slope (leaf 3 11 (codes "slope"))
    ∷ num (digits 3 17 1 (codes "1")) ∷ tok slash (leaf 3 18 (codes "/")) ∷ num (digits 3 19 1 (codes "1"))
    ∷ key By (leaf 3 21 (codes "by")) ∷ num (digits 3 24 1000 (codes "1000"))
    ∷ key To (leaf 3 29 (codes "to")) ∷ walk between (at 3 32) xs
unfolding walk
slope_read k xs = refl

breath_read : (k : ℕ) (xs : List ℕ) → walk between (at 3 k) (codes ", breath 1/16, flat 2/1 by " ++ xs)
    ≡ tok comma (leaf 3 k (codes ",")) ∷ key Breath (leaf 3 (on 2 k) (codes "breath")) ∷ num (digits 3 (on 9 k) 1 (codes "1"))
    ∷ tok slash (leaf 3 (on 10 k) (codes "/")) ∷ num (digits 3 (on 11 k) 16 (codes "16"))
    ∷ tok comma (leaf 3 (on 13 k) (codes ",")) ∷ key Flat (leaf 3 (on 15 k) (codes "flat")) ∷ num (digits 3 (on 20 k) 2 (codes "2"))
    ∷ tok slash (leaf 3 (on 21 k) (codes "/")) ∷ num (digits 3 (on 22 k) 1 (codes "1"))
    ∷ key By (leaf 3 (on 24 k) (codes "by")) ∷ walk between (at 3 (on 27 k)) xs
unfolding walk
breath_read k xs = refl

fork_read : (k : ℕ) (xs : List ℕ) → walk between (at 3 k) (codes ";" ++ 10
    ∷ (codes "shape b = pause 1/8, flat 4/1 by 1500;" ++ 10 ∷ (codes "par {" ++ 10 ∷ xs)))
    ≡ tok semicolon (leaf 3 k (codes ";")) ∷ key Shape (leaf 4 1 (codes "shape")) ∷ tok Name (leaf 4 7 (codes "b"))
    ∷ tok equals (leaf 4 9 (codes "=")) ∷ key Pause (leaf 4 11 (codes "pause"))
    ∷ num (digits 4 17 1 (codes "1")) ∷ tok slash (leaf 4 18 (codes "/")) ∷ num (digits 4 19 8 (codes "8"))
    ∷ tok comma (leaf 4 20 (codes ",")) ∷ key Flat (leaf 4 22 (codes "flat"))
    ∷ num (digits 4 27 4 (codes "4")) ∷ tok slash (leaf 4 28 (codes "/")) ∷ num (digits 4 29 1 (codes "1"))
    ∷ key By (leaf 4 31 (codes "by")) ∷ num (digits 4 34 1500 (codes "1500"))
    ∷ tok semicolon (leaf 4 38 (codes ";")) ∷ key Par (leaf 5 1 (codes "par"))
    ∷ tok open_brace (leaf 5 5 (codes "{")) ∷ walk between (at 6 1) xs
unfolding walk
fork_read k xs = refl

end_read : walk between (at 22 1) (codes "}" ++ 10 ∷ []) ≡ tok close_brace (leaf 22 1 (codes "}")) ∷ tok End (leaf 23 1 []) ∷ []
unfolding walk
end_read = refl

all_short : AllShort (0 ∷ channels)
all_short = omega arith

-- the text in one piece is the text of this form
pub whole_read : (number stretch notes : ℕ) → number < 10 ^ 9 → stretch < 10 ^ 9 → notes < 10 ^ 9
    → tokens (whole_text number stretch notes) ≡ score_text (whole_form number stretch notes)
whole_read number stretch notes small low few =
    let k = behind 32 stretch in
    let j = behind (on 27 k) stretch in
    let lines = branches_written notes (0 ∷ channels) (codes "}" ++ 10 ∷ []) in
    let third = codes "shape b = pause 1/8, flat 4/1 by 1500;" ++ 10 ∷ (codes "par {" ++ 10 ∷ lines) in
    let second = codes "shape a = slope 1/1 by 1000 to " ++ (decimal stretch ++
    (codes ", breath 1/16, flat 2/1 by " ++ (decimal stretch ++ (codes ";" ++ 10 ∷ third)))) in
    version_read (decimal number ++ (codes ";" ++ 10 ∷ second))
    ∙ ap (λ (xs : List Lexed). key Formula (leaf 1 1 (codes "formula")) ∷ num (digits 1 9 1 (codes "1"))
    ∷ tok semicolon (leaf 1 10 (codes ";")) ∷ key Seed (leaf 2 1 (codes "seed")) ∷ xs)
    (number_token (at 2 6) number (decimal number) 59 (10 ∷ second) (spelt number small) refl
    ∙ ap (λ (xs : List Lexed). num (written 2 6 number) ∷ xs)
    (slope_read (behind 6 number) (decimal stretch ++ (codes ", breath 1/16, flat 2/1 by " ++
    (decimal stretch ++ (codes ";" ++ 10 ∷ third))))
    ∙ ap (λ (xs : List Lexed). tok semicolon (leaf 2 (behind 6 number) (codes ";")) ∷ key Shape (leaf 3 1 (codes "shape"))
    ∷ tok Name (leaf 3 7 (codes "a")) ∷ tok equals (leaf 3 9 (codes "="))
    ∷ key Slope (leaf 3 11 (codes "slope")) ∷ num (digits 3 17 1 (codes "1")) ∷ tok slash (leaf 3 18 (codes "/"))
    ∷ num (digits 3 19 1 (codes "1")) ∷ key By (leaf 3 21 (codes "by"))
    ∷ num (digits 3 24 1000 (codes "1000")) ∷ key To (leaf 3 29 (codes "to")) ∷ xs)
    (number_token (at 3 32) stretch (decimal stretch) 44 (codes " breath 1/16, flat 2/1 by " ++
    (decimal stretch ++ (codes ";" ++ 10 ∷ third))) (spelt stretch low) refl
    ∙ ap (λ (xs : List Lexed). num (written 3 32 stretch) ∷ xs)
    (breath_read k (decimal stretch ++ (codes ";" ++ 10 ∷ third))
    ∙ ap (λ (xs : List Lexed). tok comma (leaf 3 k (codes ",")) ∷ key Breath (leaf 3 (on 2 k) (codes "breath"))
    ∷ num (digits 3 (on 9 k) 1 (codes "1")) ∷ tok slash (leaf 3 (on 10 k) (codes "/"))
    ∷ num (digits 3 (on 11 k) 16 (codes "16")) ∷ tok comma (leaf 3 (on 13 k) (codes ",")) ∷ key Flat (leaf 3 (on 15 k) (codes "flat"))
    ∷ num (digits 3 (on 20 k) 2 (codes "2"))
    ∷ tok slash (leaf 3 (on 21 k) (codes "/")) ∷ num (digits 3 (on 22 k) 1 (codes "1")) ∷ key By (leaf 3 (on 24 k) (codes "by")) ∷ xs)
    (number_token (at 3 (on 27 k)) stretch (decimal stretch) 59 (10 ∷ third) (spelt stretch low) refl
    ∙ ap (λ (xs : List Lexed). num (written 3 (on 27 k) stretch) ∷ xs)
    (fork_read j lines
    ∙ ap (λ (xs : List Lexed). tok semicolon (leaf 3 j (codes ";")) ∷ key Shape (leaf 4 1 (codes "shape"))
    ∷ tok Name (leaf 4 7 (codes "b")) ∷ tok equals (leaf 4 9 (codes "="))
    ∷ key Pause (leaf 4 11 (codes "pause")) ∷ num (digits 4 17 1 (codes "1")) ∷ tok slash (leaf 4 18 (codes "/"))
    ∷ num (digits 4 19 8 (codes "8")) ∷ tok comma (leaf 4 20 (codes ","))
    ∷ key Flat (leaf 4 22 (codes "flat")) ∷ num (digits 4 27 4 (codes "4")) ∷ tok slash (leaf 4 28 (codes "/"))
    ∷ num (digits 4 29 1 (codes "1")) ∷ key By (leaf 4 31 (codes "by"))
    ∷ num (digits 4 34 1500 (codes "1500")) ∷ tok semicolon (leaf 4 38 (codes ";")) ∷ key Par (leaf 5 1 (codes "par"))
    ∷ tok open_brace (leaf 5 5 (codes "{")) ∷ xs)
    (branches_read 6 notes (0 ∷ channels) (codes "}" ++ 10 ∷ []) few all_short
    ∙ ap (branches_text (branches_form 6 notes (0 ∷ channels))) end_read)))))))
