-- Statements that say something are those of a form, and so is a score.
use Rattle.std.proofs.Common.{◌≡◌, ℕ, ◌*◌, ◌==◌, if◌then◌else◌, List, [], ◌∷◌, map, refl, ap, sym, ◌∙◌, codes}
use Rattle.fm_grammar.specs.Grammar as form
use Rattle.fm_grammar.specs.Score.{Leaf}
use Rattle.fm_grammar.specs.Signs.{tok, key, num}
use Rattle.fm_grammar.specs.Spelling.{num_text, length_text, part_text, listed_text, expr_text, pitch_text, stmts_text, block_text, else_text, branches_text, stmt_text, entries_text, seed_text, division_text, score_text}
use Rattle.fm_grammar.specs.Standing.{length_tree, part_tree, listed_tree, stmt_spot, stmts_tree, block_tree, else_tree, branches_tree, stmt_tree, entries_tree, seed_tree, division_tree, score_tree}
use Rattle.fm_grammar.proofs.UniqueScore.{finish}
use Rattle.fm_lex.specs.declared.keyword.Keyword.TheVariants as word
use Rattle.fm_lex.specs.declared.kind.Kind.TheVariants as kind
use Rattle.fm_lex.specs.Tokens.{Lexed}
use Rattle.fm_meaning.specs.Resolve.{Known, nothing_known, length_ticks, part_of, named_as, play_of, passage_of, fork_of, entries_of, seed_of, resolved, meaning_of}
use Rattle.fm_meaning.specs.Resolved as says
use Rattle.fm_meaning.specs.Rules.{division_of, first_rules, last_rules, profile_of}
use Rattle.fm_msg.specs.declared.profile.Profile.{Profile}
use Rattle.fm_warp.specs.declared.part.Part.{Part}
use Rattle.fm_spelling.specs.Says as s
use Rattle.fm_spelling.specs.Says.{spot_of_first, StmtsSay, BlockSays, ElseSays, BranchesSay, StmtSays, EntriesSay, SeedSays, DivisionSays, ScoreSays, profile_in}
use Rattle.fm_spelling.specs.Values.{sign, LengthSays, PartSays, SeveralSay}
use Rattle.fm_spelling.proofs.FromForms.{spot_is, profile_same, whole_same}
use Rattle.fm_spelling.proofs.ToForms.{IsForm, two, three, several_is, length_is, part_is, expr_is, amount_is, duration_is, pitches_is, numbers_is}

-- the spot of a form's statement
spot_same : (b a : List Lexed) (x : form.StmtForm) → b ≡ stmt_text x a → spot_of_first b ≡ stmt_spot x
spot_same b a x is = ap spot_of_first is ∙ spot_is x a

module _ (k : Known) where
  lengths_is : {b : List Lexed} {x : List ℕ} {a : List Lexed} → SeveralSay (LengthSays k.whole) b x a
      → IsForm (listed_text length_text) (λ ys. map (length_ticks k.whole) (listed_tree length_tree ys)) b x a
  lengths_is d = several_is (LengthSays k.whole) length_text length_tree (length_ticks k.whole) (length_is k.whole) d

  mutual
    stmts_is : {b : List Lexed} {x : says.Passage} {a : List Lexed} → StmtsSay k b x a
        → IsForm stmts_text (λ y. passage_of k (stmts_tree y)) b x a
    stmts_is s.no_stmt = record { form = form.no_stmt; text = refl; means = refl }
    stmts_is (s.stmt d e) =
        let p = stmt_is d in
        let q = stmts_is e in
        record {
          form = form.stmt p.form q.form;
          text = p.text ∙ ap (λ z. stmt_text p.form z) q.text;
          means = three says.item _ _ _ _ _ _ (spot_same _ _ p.form p.text) p.means q.means;
        }

    block_is : {b : List Lexed} {x : says.Passage} {a : List Lexed} → BlockSays k b x a
        → IsForm block_text (λ y. passage_of k (block_tree y)) b x a
    block_is (s.block o c d) =
        let p = stmts_is d in
        record { form = form.block o p.form c; text = ap (λ z. sign (codes "{") o ∷ z) p.text; means = p.means }

    else_is : {b : List Lexed} {x : says.Passage} {a : List Lexed} → ElseSays k b x a
        → IsForm else_text (λ y. passage_of k (else_tree y)) b x a
    else_is s.no_else = record { form = form.no_else; text = refl; means = refl }
    else_is (s.otherwise w d) =
        let p = block_is d in
        record { form = form.otherwise w p.form; text = ap (λ z. key word.Else w ∷ z) p.text; means = p.means }

    branches_is : {b : List Lexed} {x : says.Fork} {a : List Lexed} → BranchesSay k b x a
        → IsForm branches_text (λ y. fork_of k (branches_tree y)) b x a
    branches_is s.no_branch = record { form = form.no_branch; text = refl; means = refl }
    branches_is (s.branch w d e) =
        let p = block_is d in
        let q = branches_is e in
        record {
          form = form.branch w p.form q.form;
          text = ap (λ z. key word.Branch w ∷ z) (p.text ∙ ap (λ z. block_text p.form z) q.text);
          means = two says.Fork.branch _ _ _ _ p.means q.means;
        }

    stmt_is : {b : List Lexed} {x : says.Play} {a : List Lexed} → StmtSays k b x a
        → IsForm stmt_text (λ y. play_of k (stmt_tree y)) b x a
    stmt_is (s.note w e d f) =
        let p = pitches_is d in
        let q = duration_is k.whole f in
        record {
          form = form.note w p.form q.form e;
          text = ap (λ z. key word.Note w ∷ z) (p.text ∙ ap (λ z. listed_text pitch_text p.form z) q.text);
          means = two says.Play.note _ _ _ _ p.means q.means;
        }
    stmt_is (s.play w e d) =
        let p = pitches_is d in
        record {
          form = form.play w p.form e;
          text = ap (λ z. key word.Play w ∷ z) p.text;
          means = ap (λ z. says.Play.note z says.beat) p.means;
        }
    stmt_is (s.rest w e d) =
        let p = duration_is k.whole d in
        record {
          form = form.rest w p.form e;
          text = ap (λ z. key word.Rest w ∷ z) p.text;
          means = ap says.rest p.means;
        }
    stmt_is (s.skip w e) =
        record {
          form = form.skip w e;
          text = refl;
          means = refl;
        }
    stmt_is (s.control w e n d) =
        let p = amount_is d in
        record {
          form = form.control w n p.form e;
          text = ap (λ z. key word.Control w ∷ num n ∷ z) p.text;
          means = ap (λ z. says.send (says.control n.value) z) p.means;
        }
    stmt_is (s.program w e d) =
        let p = amount_is d in
        record {
          form = form.send form.program w p.form e;
          text = ap (λ z. key word.Program w ∷ z) p.text;
          means = ap (λ z. says.send says.program z) p.means;
        }
    stmt_is (s.bend w e d) =
        let p = amount_is d in
        record {
          form = form.send form.bend w p.form e;
          text = ap (λ z. key word.Bend w ∷ z) p.text;
          means = ap (λ z. says.send says.bend z) p.means;
        }
    stmt_is (s.set w l q e r d) =
        let p = expr_is d in
        record {
          form = form.set w r l q p.form e;
          text = ap (λ z. key word.Set w ∷ tok (kind.Register r) l ∷ sign (codes "=") q ∷ z) p.text;
          means = ap (λ z. says.assign r z) p.means;
        }
    stmt_is (s.choice w d f g) =
        let p = expr_is d in
        let q = block_is f in
        let r = else_is g in
        record {
          form = form.choice w p.form q.form r.form;
          text = ap (λ z. key word.If w ∷ z) (p.text ∙ ap (λ z. expr_text p.form z) (q.text ∙ ap (λ z. block_text q.form z) r.text));
          means = three says.choice _ _ _ _ _ _ p.means q.means r.means;
        }
    stmt_is (s.repeat w n d) =
        let p = block_is d in
        record {
          form = form.repeat w n p.form;
          text = ap (λ z. key word.Repeat w ∷ num n ∷ z) p.text;
          means = ap (λ z. says.loop (says.times n.value) z) p.means;
        }
    stmt_is (s.again w o c m n d f) =
        let p = expr_is d in
        let q = block_is f in
        record {
          form = form.again w o p.form c m n q.form;
          text =
              ap (λ z. key word.Repeat w ∷ sign (codes "(") o ∷ z)
              (p.text ∙ ap (λ z. expr_text p.form (sign (codes ")") c ∷ key word.Max m ∷ num n ∷ z)) q.text);
          means = two (λ y z. says.loop (says.at_most y n.value) z) _ _ _ _ p.means q.means;
        }
    stmt_is (s.call w n e) =
        record {
          form = form.call w n e;
          text = refl;
          means = refl;
        }
    stmt_is (s.par w o f c d e) =
        let p = block_is d in
        let q = branches_is e in
        record {
          form = form.par w o f p.form q.form c;
          text = ap (λ z. key word.Par w ∷ sign (codes "{") o ∷ key word.Branch f ∷ z) (p.text ∙ ap (λ z. block_text p.form z) q.text);
          means = two (λ y z. says.par (says.Fork.branch y z)) _ _ _ _ p.means q.means;
        }
    stmt_is (s.warp w n d) =
        let p = block_is d in
        record {
          form = form.warp w n p.form;
          text = ap (λ z. key word.Warp w ∷ tok kind.Name n ∷ z) p.text;
          means = ap (λ z. says.warp (meaning_of n.text [] k.shapes) z) p.means;
        }
    stmt_is (s.channel w n d) =
        let p = block_is d in
        record {
          form = form.scope form.channel w n p.form;
          text = ap (λ z. key word.Channel w ∷ num n ∷ z) p.text;
          means = ap (λ z. says.channel n.value z) p.means;
        }
    stmt_is (s.volume w n d) =
        let p = block_is d in
        record {
          form = form.scope form.volume w n p.form;
          text = ap (λ z. key word.Volume w ∷ num n ∷ z) p.text;
          means = ap (λ z. says.steady says.loudness n.value z) p.means;
        }
    stmt_is (s.gate w n d) =
        let p = block_is d in
        record {
          form = form.scope form.gate w n p.form;
          text = ap (λ z. key word.Gate w ∷ num n ∷ z) p.text;
          means = ap (λ z. says.steady says.articulation n.value z) p.means;
        }
    stmt_is (s.rhythm w o c d e) =
        let p = lengths_is d in
        let q = block_is e in
        record {
          form = form.rhythm w o p.form c q.form;
          text =
              ap (λ z. key word.Rhythm w ∷ sign (codes "[") o ∷ z)
              (p.text ∙ ap (λ z. listed_text length_text p.form (sign (codes "]") c ∷ z)) q.text);
          means = two (says.under says.duration) _ _ _ _ p.means q.means;
        }
    stmt_is (s.artic w o c d e) =
        let p = numbers_is d in
        let q = block_is e in
        record {
          form = form.cycling form.artic w o p.form c q.form;
          text =
              ap (λ z. key word.Artic w ∷ sign (codes "[") o ∷ z)
              (p.text ∙ ap (λ z. listed_text num_text p.form (sign (codes "]") c ∷ z)) q.text);
          means = two (says.under says.articulation) _ _ _ _ p.means q.means;
        }
    stmt_is (s.loud w o c d e) =
        let p = numbers_is d in
        let q = block_is e in
        record {
          form = form.cycling form.loud w o p.form c q.form;
          text =
              ap (λ z. key word.Loud w ∷ sign (codes "[") o ∷ z)
              (p.text ∙ ap (λ z. listed_text num_text p.form (sign (codes "]") c ∷ z)) q.text);
          means = two (says.under says.loudness) _ _ _ _ p.means q.means;
        }

-- ---- a score

abbrev with_shape : Known → Leaf → List Part → Known
with_shape k n z = record k { shapes = named_as n z ∷ k.shapes }

abbrev with_phrase : Known → Leaf → says.Passage → Known
with_phrase k n z = record k { phrases = named_as n z ∷ k.phrases }

-- these tokens are those of entries, with their meaning
record AreEntries (k : Known) (b : List Lexed) (x : says.Passage) : Type 0 where
  pub form : form.EntriesForm
  pub last : Leaf
  pub text : b ≡ entries_text form (finish last)
  pub means : x ≡ entries_of k (entries_tree form)

entries_are : {k : Known} {b : List Lexed} {x : says.Passage} → EntriesSay k b x → AreEntries k b x
entries_are (s.no_entry l) = record { form = form.no_entry; last = l; text = refl; means = refl }
entries_are (s.EntriesSay.shape {k = k} w n q e d more) =
    let p = several_is (PartSays k.whole) part_text part_tree (part_of k.whole) (part_is k.whole) d in
    let r = entries_are more in
    record {
      form = form.entry (form.shape w n q p.form e) r.form;
      last = r.last;
      text = ap (λ z. key word.Shape w ∷ tok kind.Name n ∷ sign (codes "=") q ∷ z)
          (p.text ∙ ap (λ z. listed_text part_text p.form (sign (codes ";") e ∷ z)) r.text);
      means = r.means ∙ ap (λ (z : List Part). entries_of (with_shape k n z) (entries_tree r.form)) p.means;
    }
entries_are (s.EntriesSay.phrase {k = k} w n d more) =
    let p = block_is k d in
    let r = entries_are more in
    record {
      form = form.entry (form.phrase w n p.form) r.form;
      last = r.last;
      text = ap (λ z. key word.Phrase w ∷ tok kind.Name n ∷ z) (p.text ∙ ap (λ z. block_text p.form z) r.text);
      means = r.means ∙ ap (λ (z : says.Passage). entries_of (with_phrase k n z) (entries_tree r.form)) p.means;
    }
entries_are (s.EntriesSay.plays {k = k} d more) =
    let p = stmt_is k d in
    let r = entries_are more in
    record {
      form = form.entry (form.plays p.form) r.form;
      last = r.last;
      text = p.text ∙ ap (λ z. stmt_text p.form z) r.text;
      means = three says.item _ _ _ _ _ _ (spot_same _ _ p.form p.text) p.means r.means;
    }

seed_is : {b : List Lexed} {x : ℕ} {a : List Lexed} → SeedSays b x a → IsForm seed_text (λ y. seed_of (seed_tree y)) b x a
seed_is s.no_seed = record { form = form.no_seed; text = refl; means = refl }
seed_is (s.SeedSays.seed w e n) = record { form = form.seed w n e; text = refl; means = refl }

division_is : {b : List Lexed} {x : ℕ} {a : List Lexed} → DivisionSays b x a
    → IsForm division_text (λ y. division_of (division_tree y)) b x a
division_is s.no_division = record { form = form.no_division; text = refl; means = refl }
division_is (s.DivisionSays.division w e n) = record { form = form.division w n e; text = refl; means = refl }

-- these tokens are those of a form of a score, and say how its file is written and what it plays
pub record IsScore (b : List Lexed) (p : Profile) (r : says.Resolved) : Type 0 where
  pub form : form.ScoreForm
  pub text : b ≡ score_text form
  pub profile : p ≡ profile_of (score_tree form)
  pub seed : r.seed ≡ (resolved (score_tree form)).seed
  pub passage : r.passage ≡ (resolved (score_tree form)).passage

profile_by : (v : ℕ) (q : ℕ) → (if v == 2 then last_rules q else first_rules).profile ≡ profile_in v q
profile_by v q = profile_same (v == 2) q

pub score_is : {b : List Lexed} {p : Profile} {r : says.Resolved} → ScoreSays b p r → IsScore b p r
unfolding profile_of
score_is (s.score w e n longest d f g) =
    let q = division_is d in
    let t = seed_is f in
    let r = entries_are g in
    record {
      form = record { word = w; version = n; ends = e; divided = q.form; seeded = t.form; entries = r.form; last = r.last };
      text = ap (λ z. key word.Formula w ∷ num n ∷ sign (codes ";") e ∷ z)
          (q.text ∙ ap (λ z. division_text q.form z) (t.text ∙ ap (λ z. seed_text t.form z) r.text));
      profile = ap (λ z. profile_in n.value z) q.means ∙ sym (profile_by n.value _);
      seed = t.means;
      passage = r.means ∙ ap (λ (z : ℕ). entries_of (nothing_known (4 * (profile_in n.value z).division)) (entries_tree r.form)) q.means
          ∙ ap (λ (z : ℕ). entries_of (nothing_known z) (entries_tree r.form)) (sym (whole_same (n.value == 2) _));
    }
