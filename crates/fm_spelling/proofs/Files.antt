-- A text is one file, and that of an accepted text is the file of its score.
use Rattle.std.proofs.Common.{◌≡◌, ℕ, zero, suc, ◌+◌, ◌≤◌, ◌<◌, List, [], ◌∷◌, ◌++◌, length, refl, ap, sym, ◌∙◌, subst, arith}
use Rattle.std.specs.Prelude.{slice_index_or}
use Rattle.fm_grammar.specs.Grammar.{ScoreForm}
use Rattle.fm_grammar.specs.Score.{Score}
use Rattle.fm_grammar.specs.Spelling.{score_text}
use Rattle.fm_grammar.specs.Standing.{score_tree}
use Rattle.fm_grammar.proofs.UniqueScore.{unique_score}
use Rattle.fm_lex.specs.Tokens.{Lexed, tokens}
use Rattle.fm_line.specs.Line.{no_line, line}
use Rattle.fm_line.specs.Marks.{Mark, process_events, lines_from, lines_of}
use Rattle.fm_line.specs.Piece.{events_below, sorted}
use Rattle.fm_meaning.specs.Lines.{played_end, played_piece}
use Rattle.fm_meaning.specs.Played.{score_plays}
use Rattle.fm_meaning.specs.Resolve.{resolved}
use Rattle.fm_meaning.specs.Resolved.{Passage, Resolved}
use Rattle.fm_meaning.specs.Rules.{profile_of}
use Rattle.fm_meaning.specs.Verdict.{Means}
use Rattle.fm_msg.specs.declared.profile.Profile.{Profile}
use Rattle.fm_smf.specs.File.{file}
use Rattle.fm_spelling.specs.FileOf.{IsFileOf, events_of, file_of}
use Rattle.fm_spelling.specs.Says.{ScoreSays}
use Rattle.fm_spelling.proofs.FromForms.{score_says}
use Rattle.fm_spelling.proofs.ToForms.{three}
use Rattle.fm_spelling.proofs.ToScores.{IsScore, score_is}

-- ---- the events of the processes are those of their lines

line_events : (births : List (List ℕ)) (j p : ℕ) (ms : List Mark) → p < length births
    → (slice_index_or (lines_from j births ms) p no_line).events ≡ process_events (j + p) ms
line_events [] j p ms within = absurd (omega (arith, within))
line_events (ps ∷ births) j zero ms within = ap (λ q. process_events q ms) (omega arith)
line_events (ps ∷ births) j (suc p) ms within =
    line_events births (j + 1) p ms (omega (arith, within)) ∙ ap (λ q. process_events q ms) (omega arith)

below_same : (births : List (List ℕ)) (n : ℕ) (ms : List Mark) → n ≤ length births
    → events_below (lines_of births ms) n ≡ events_of n ms
below_same births zero ms within = refl
below_same births (suc n) ms within =
    ap (λ z. z ++ (line (lines_of births ms) n).events) (below_same births n ms (omega (arith, within)))
    ∙ ap (λ z. events_of n ms ++ z) (line_events births 0 n ms (omega (arith, within)) ∙ ap (λ q. process_events q ms) (omega arith))

lines_count : (births : List (List ℕ)) (j : ℕ) (ms : List Mark) → length (lines_from j births ms) ≡ length births
lines_count [] j ms = refl
lines_count (ps ∷ births) j ms = ap suc (lines_count births (j + 1) ms)

piece_same : (births : List (List ℕ)) (ms : List Mark)
    → events_below (lines_of births ms) (length (lines_of births ms)) ≡ events_of (length births) ms
piece_same births ms =
    ap (λ n. events_below (lines_of births ms) n) (lines_count births 0 ms) ∙ below_same births (length births) ms (omega arith)

-- the file of what a score plays
pub file_same : (p : Profile) (r : Resolved) → file_of p r ≡ file p (played_piece r) (played_end r)
unfolding file_of
file_same p r =
    let m = score_plays r in
    ap (λ es. file p (sorted es) m.after.position) (sym (piece_same m.after.births m.marks))

-- ---- one file

abbrev of_parts : Profile → ℕ → Passage → List ℕ
of_parts p n passage = file_of p (record { seed = n; longest = 0; passage = passage })

parts_same : (p : Profile) (r : Resolved) → file_of p r ≡ of_parts p r.seed r.passage
unfolding file_of
parts_same p r = refl

abbrev file_of_form : ScoreForm → List ℕ
file_of_form x = of_parts (profile_of (score_tree x)) (resolved (score_tree x)).seed (resolved (score_tree x)).passage

of_form : (ts : List Lexed) (p : Profile) (r : Resolved) (s : IsScore ts p r) → file_of p r ≡ file_of_form s.form
of_form ts p r s = parts_same p r ∙ three of_parts _ _ _ _ _ _ s.profile s.seed s.passage

pub one_file : (text a b : List ℕ) → IsFileOf text a → IsFileOf text b → a ≡ b
one_file text a b x y =
    let s = score_is x.says in
    let t = score_is y.says in
    let same : s.form ≡ t.form = unique_score s.form t.form (sym s.text ∙ t.text) in
    x.whole ∙ of_form _ _ _ s ∙ ap file_of_form same ∙ sym (y.whole ∙ of_form _ _ _ t)

-- ---- accepted texts

pub says_score : (text : List ℕ) (score : Score) → Means text score → ScoreSays (tokens text) (profile_of score) (resolved score)
says_score text score m =
    subst (λ ts. ScoreSays ts (profile_of score) (resolved score)) (sym m.reads.text)
    (subst (λ z. ScoreSays (score_text m.reads.form) (profile_of z) (resolved z)) (sym m.reads.stands_for) (score_says m.reads.form))

pub is_file : (text bytes : List ℕ) (score : Score) → Means text score
    → bytes ≡ file (profile_of score) (played_piece (resolved score)) (played_end (resolved score)) → IsFileOf text bytes
is_file text bytes score m is = record {
  profile = profile_of score;
  score = resolved score;
  says = says_score text score m;
  whole = is ∙ sym (file_same (profile_of score) (resolved score));
}

pub file_is : (text bytes : List ℕ) (score : Score) → Means text score → IsFileOf text bytes
    → bytes ≡ file (profile_of score) (played_piece (resolved score)) (played_end (resolved score))
file_is text bytes score m x = one_file text _ _ x (is_file text _ score m refl)
