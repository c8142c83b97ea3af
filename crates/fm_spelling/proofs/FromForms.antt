-- What the tokens of a form say is what its tree stands for.
use Rattle.std.proofs.Common.{◌≡◌, ℕ, ◌*◌, ◌==◌, Bool, true, false, if◌then◌else◌, List, [], ◌∷◌, ◌++◌, map, refl, ap, sym, ◌∙◌, subst}
use Rattle.std.proofs.lemmas.List.{map-append}
use Rattle.fm_grammar.specs.Grammar as form
use Rattle.fm_grammar.specs.Score as tree
use Rattle.fm_grammar.specs.Spelling.{mores_text, num_text, length_text, part_text, expr_text, factor_text, terms_text, sums_text, amount_text, duration_text, pitch_text, stmts_text, block_text, else_text, branches_text, stmt_text, entries_text, seed_text, division_text, score_text}
use Rattle.fm_grammar.proofs.UniqueScore.{finish}
use Rattle.fm_grammar.specs.Standing.{PlacedNode, mores_tree, num_tree, length_tree, part_tree, scaling_node, adding_node, comparing_node, expr_nodes, factor_nodes, terms_nodes, sums_nodes, expr_tree, amount_tree, duration_tree, pitch_tree, stmt_spot, stmts_tree, block_tree, else_tree, branches_tree, stmt_tree, entries_tree, seed_tree, division_tree, score_tree}
use Rattle.fm_grammar.specs.declared.number.Number.{Number}
use Rattle.fm_lex.specs.Tokens.{Lexed}
use Rattle.fm_meaning.specs.Resolve.{Known, nothing_known, length_ticks, part_of, draw_of, key_draw, span_of, play_of, passage_of, fork_of, entries_of, seed_of, resolved}
use Rattle.fm_meaning.specs.Resolved as says
use Rattle.fm_meaning.specs.Rules.{division_of, first_rules, last_rules, profile_of}
use Rattle.fm_msg.specs.declared.profile.Profile.{Profile}
use Rattle.fm_msg.specs.declared.profile.TheConstants.{DIVISION}
use Rattle.fm_value.specs.declared.node.Node.{Node}
use Rattle.fm_value.specs.declared.node.Node.TheVariants as node
use Rattle.fm_spelling.specs.Says as s
use Rattle.fm_spelling.specs.Values as v
use Rattle.fm_spelling.specs.Says.{spot_of_first, StmtsSay, BlockSays, ElseSays, BranchesSay, StmtSays, EntriesSay, SeedSays, DivisionSays, ScoreSays, profile_in}
use Rattle.fm_spelling.specs.Values.{SeveralSay, NumberSays, LengthSays, PartSays, ExprSays, FactorSays, TermsSay, SumsSay, AmountSays, DurationSays, PitchSays}

-- ---- lists and what they are of

several : {A B C : Type 0} (Item : List Lexed → C → List Lexed → Type 0) (text : A → List Lexed → List Lexed) (of : A → B) (f : B → C)
    → ((x : A) (after : List Lexed) → Item (text x after) (f (of x)) after) → (x : A) (xs : form.Mores A) (after : List Lexed)
    → SeveralSay Item (text x (mores_text text xs after)) (map f (of x ∷ mores_tree of xs)) after
several Item text of f item x form.no_more after = v.one (item x after)
several Item text of f item x (form.more c y ys) after = v.more c (item x _) (several Item text of f item y ys after)

number_says : (n : form.NumForm) (after : List Lexed) → NumberSays (num_text n after) (num_tree n).value after
number_says n after = v.NumberSays.number n

length_says : (whole : ℕ) (l : form.LengthForm) (after : List Lexed)
    → LengthSays whole (length_text l after) (length_ticks whole (length_tree l)) after
length_says whole (form.share a d b) after = v.share a b d
length_says whole (form.ticks w n) after = v.ticks w n

part_says : (whole : ℕ) (p : form.PartForm) (after : List Lexed) → PartSays whole (part_text p after) (part_of whole (part_tree p)) after
part_says whole (form.flat w l b n) after = v.flat w b n (length_says whole l _)
part_says whole (form.slope w l b n o m) after = v.slope w b o n m (length_says whole l _)
part_says whole (form.pause w l) after = v.pause w (length_says whole l after)
part_says whole (form.breath w l) after = v.breath w (length_says whole l after)

-- ---- expressions

-- the nodes of an expression, without their spots
abbrev mutual
  pub nodes : form.ExprForm → List Node
  nodes (form.expr f ts ss) = of_factor f ++ (of_terms ts ++ of_sums ss)

  pub of_factor : form.FactorForm → List Node
  of_factor (form.FactorForm.number n) = node.Literal n.value ∷ []
  of_factor (form.register r l) = node.Register r ∷ []
  of_factor (form.index i l) = node.Index i ∷ []
  of_factor (form.negate m f) = of_factor f ++ node.Negate ∷ []
  of_factor (form.group o e c) = nodes e
  of_factor (form.pick w o e c) = nodes e ++ node.Pick ∷ []
  of_factor (form.compare f w o a m b c) = nodes a ++ (nodes b ++ comparing_node f ∷ [])

  pub of_terms : form.TermsForm → List Node
  of_terms form.no_term = []
  of_terms (form.term o l f ts) = of_factor f ++ scaling_node o ∷ of_terms ts

  pub of_sums : form.SumsForm → List Node
  of_sums form.no_sum = []
  of_sums (form.sum o l f ts ss) = of_factor f ++ (of_terms ts ++ adding_node o ∷ of_sums ss)

abbrev plain : List PlacedNode → List Node
plain ps = map (λ p. p.node) ps

both : (xs ys : List PlacedNode) (us vs : List Node) → plain xs ≡ us → plain ys ≡ vs → plain (xs ++ ys) ≡ us ++ vs
both xs ys us vs p q = map-append (λ p. p.node) xs ys ∙ ap (λ z. z ++ plain ys) p ∙ ap (λ z. us ++ z) q

mutual
  pub nodes_same : (e : form.ExprForm) → plain (expr_nodes e) ≡ nodes e
  nodes_same (form.expr f ts ss) =
      both (factor_nodes f) (terms_nodes ts ++ sums_nodes ss) (of_factor f) (of_terms ts ++ of_sums ss) (factor_same f)
      (both (terms_nodes ts) (sums_nodes ss) (of_terms ts) (of_sums ss) (terms_same ts) (sums_same ss))

  factor_same : (f : form.FactorForm) → plain (factor_nodes f) ≡ of_factor f
  factor_same (form.FactorForm.number n) = refl
  factor_same (form.register r l) = refl
  factor_same (form.index i l) = refl
  factor_same (form.negate m f) = both (factor_nodes f) _ (of_factor f) (node.Negate ∷ []) (factor_same f) refl
  factor_same (form.group o e c) = nodes_same e
  factor_same (form.pick w o e c) = both (expr_nodes e) _ (nodes e) (node.Pick ∷ []) (nodes_same e) refl
  factor_same (form.compare f w o a m b c) =
      both (expr_nodes a) _ (nodes a) (nodes b ++ comparing_node f ∷ []) (nodes_same a)
      (both (expr_nodes b) _ (nodes b) (comparing_node f ∷ []) (nodes_same b) refl)

  terms_same : (ts : form.TermsForm) → plain (terms_nodes ts) ≡ of_terms ts
  terms_same form.no_term = refl
  terms_same (form.term o l f ts) =
      both (factor_nodes f) _ (of_factor f) (scaling_node o ∷ of_terms ts) (factor_same f)
      (ap (λ z. scaling_node o ∷ z) (terms_same ts))

  sums_same : (ss : form.SumsForm) → plain (sums_nodes ss) ≡ of_sums ss
  sums_same form.no_sum = refl
  sums_same (form.sum o l f ts ss) =
      both (factor_nodes f) _ (of_factor f) (of_terms ts ++ adding_node o ∷ of_sums ss) (factor_same f)
      (both (terms_nodes ts) _ (of_terms ts) (adding_node o ∷ of_sums ss) (terms_same ts)
      (ap (λ z. adding_node o ∷ z) (sums_same ss)))

mutual
  says_nodes : (e : form.ExprForm) (after : List Lexed) → ExprSays (expr_text e after) (nodes e) after
  says_nodes (form.expr f ts ss) after = v.expr (says_factor f _) (says_terms ts _) (says_sums ss after)

  says_factor : (f : form.FactorForm) (after : List Lexed) → FactorSays (factor_text f after) (of_factor f) after
  says_factor (form.FactorForm.number n) after = v.FactorSays.number n
  says_factor (form.register r l) after = v.register r l
  says_factor (form.index i l) after = v.index i l
  says_factor (form.negate m f) after = v.negate m (says_factor f after)
  says_factor (form.group o e c) after = v.group o c (says_nodes e _)
  says_factor (form.pick w o e c) after = v.pick w o c (says_nodes e _)
  says_factor (form.compare form.least w o a m b c) after = v.compare w o m c v.least (says_nodes a _) (says_nodes b _)
  says_factor (form.compare form.greatest w o a m b c) after = v.compare w o m c v.greatest (says_nodes a _) (says_nodes b _)
  says_factor (form.compare form.below w o a m b c) after = v.compare w o m c v.below (says_nodes a _) (says_nodes b _)
  says_factor (form.compare form.equal w o a m b c) after = v.compare w o m c v.equal (says_nodes a _) (says_nodes b _)

  says_terms : (ts : form.TermsForm) (after : List Lexed) → TermsSay (terms_text ts after) (of_terms ts) after
  says_terms form.no_term after = v.no_term
  says_terms (form.term form.times l f ts) after = v.term l v.Scales.times (says_factor f _) (says_terms ts after)
  says_terms (form.term form.over l f ts) after = v.term l v.over (says_factor f _) (says_terms ts after)
  says_terms (form.term form.modulo l f ts) after = v.term l v.modulo (says_factor f _) (says_terms ts after)

  says_sums : (ss : form.SumsForm) (after : List Lexed) → SumsSay (sums_text ss after) (of_sums ss) after
  says_sums form.no_sum after = v.no_sum
  says_sums (form.sum form.plus l f ts ss) after = v.sum l v.plus (says_factor f _) (says_terms ts _) (says_sums ss after)
  says_sums (form.sum form.minus l f ts ss) after = v.sum l v.minus (says_factor f _) (says_terms ts _) (says_sums ss after)

expr_says : (e : form.ExprForm) (after : List Lexed) → ExprSays (expr_text e after) (expr_tree e).nodes after
expr_says e after = subst (λ z. ExprSays (expr_text e after) z after) (sym (nodes_same e)) (says_nodes e after)

-- ---- values

amount_says : (a : form.AmountForm) (after : List Lexed) → AmountSays (amount_text a after) (draw_of (amount_tree a)) after
amount_says (form.AmountForm.number n) after = v.AmountSays.number n
amount_says (form.negative m n) after = v.negative m n
amount_says (form.AmountForm.computed o e c) after = v.AmountSays.computed o c (expr_says e _)

duration_says : (whole : ℕ) (d : form.DurationForm) (after : List Lexed)
    → DurationSays whole (duration_text d after) (span_of whole (duration_tree d)) after
duration_says whole (form.fixed l) after = v.fixed (length_says whole l after)
duration_says whole (form.DurationForm.computed w o e c m n) after = v.DurationSays.computed w o c m n (expr_says e _)

pitch_says : (p : form.PitchForm) (after : List Lexed) → PitchSays (pitch_text p after) (key_draw (pitch_tree p)) after
pitch_says (form.named k l) after = v.named k l
pitch_says (form.keyed w a) after = v.keyed w (amount_says a after)

pitches_say : (ps : form.Listed form.PitchForm) (after : List Lexed)
    → SeveralSay PitchSays (pitch_text ps.first (mores_text pitch_text ps.others after))
    (map key_draw (pitch_tree ps.first ∷ mores_tree pitch_tree ps.others)) after
pitches_say ps after = several PitchSays pitch_text pitch_tree key_draw pitch_says ps.first ps.others after

-- ---- statements

pub spot_is : (x : form.StmtForm) (after : List Lexed) → spot_of_first (stmt_text x after) ≡ stmt_spot x
spot_is (form.note w ps d e) after = refl
spot_is (form.play w ps e) after = refl
spot_is (form.rest w d e) after = refl
spot_is (form.skip w e) after = refl
spot_is (form.control w n a e) after = refl
spot_is (form.send o w a e) after = refl
spot_is (form.set w r l q x e) after = refl
spot_is (form.choice w x b o) after = refl
spot_is (form.repeat w n b) after = refl
spot_is (form.again w o x c m n b) after = refl
spot_is (form.call w n e) after = refl
spot_is (form.warp w n b) after = refl
spot_is (form.par w o f b bs c) after = refl
spot_is (form.scope o w n b) after = refl
spot_is (form.rhythm w o ls c b) after = refl
spot_is (form.cycling y w o ns c b) after = refl

module _ (k : Known) where
  mutual
    stmts_say : (x : form.StmtsForm) (after : List Lexed) → StmtsSay k (stmts_text x after) (passage_of k (stmts_tree x)) after
    stmts_say form.no_stmt after = s.no_stmt
    stmts_say (form.stmt x xs) after =
        subst (λ z. StmtsSay k (stmts_text (form.stmt x xs) after)
        (says.item z (play_of k (stmt_tree x)) (passage_of k (stmts_tree xs))) after) (spot_is x _)
        (s.stmt (stmt_says x _) (stmts_say xs after))

    block_says : (b : form.BlockForm) (after : List Lexed) → BlockSays k (block_text b after) (passage_of k (block_tree b)) after
    block_says (form.block o x c) after = s.block o c (stmts_say x _)

    else_says : (x : form.ElseForm) (after : List Lexed) → ElseSays k (else_text x after) (passage_of k (else_tree x)) after
    else_says form.no_else after = s.no_else
    else_says (form.otherwise w b) after = s.otherwise w (block_says b after)

    branches_say : (x : form.BranchesForm) (after : List Lexed)
        → BranchesSay k (branches_text x after) (fork_of k (branches_tree x)) after
    branches_say form.no_branch after = s.no_branch
    branches_say (form.branch w b bs) after = s.branch w (block_says b _) (branches_say bs after)

    stmt_says : (x : form.StmtForm) (after : List Lexed) → StmtSays k (stmt_text x after) (play_of k (stmt_tree x)) after
    stmt_says (form.note w ps d e) after = s.note w e (pitches_say ps _) (duration_says k.whole d _)
    stmt_says (form.play w ps e) after = s.play w e (pitches_say ps _)
    stmt_says (form.rest w d e) after = s.rest w e (duration_says k.whole d _)
    stmt_says (form.skip w e) after = s.skip w e
    stmt_says (form.control w n a e) after = s.control w e n (amount_says a _)
    stmt_says (form.send form.program w a e) after = s.program w e (amount_says a _)
    stmt_says (form.send form.bend w a e) after = s.bend w e (amount_says a _)
    stmt_says (form.set w r l q x e) after = s.set w l q e r (expr_says x _)
    stmt_says (form.choice w x b o) after = s.choice w (expr_says x _) (block_says b _) (else_says o after)
    stmt_says (form.repeat w n b) after = s.repeat w n (block_says b after)
    stmt_says (form.again w o x c m n b) after = s.again w o c m n (expr_says x _) (block_says b after)
    stmt_says (form.call w n e) after = s.call w n e
    stmt_says (form.warp w n b) after = s.warp w n (block_says b after)
    stmt_says (form.par w o f b bs c) after = s.par w o f c (block_says b _) (branches_say bs _)
    stmt_says (form.scope form.channel w n b) after = s.channel w n (block_says b after)
    stmt_says (form.scope form.volume w n b) after = s.volume w n (block_says b after)
    stmt_says (form.scope form.gate w n b) after = s.gate w n (block_says b after)
    stmt_says (form.rhythm w o ls c b) after =
        s.rhythm w o c (several (LengthSays k.whole) length_text length_tree (length_ticks k.whole) (length_says k.whole)
        ls.first ls.others _) (block_says b after)
    stmt_says (form.cycling form.artic w o ns c b) after =
        s.artic w o c (several NumberSays num_text num_tree Number.value number_says ns.first ns.others _) (block_says b after)
    stmt_says (form.cycling form.loud w o ns c b) after =
        s.loud w o c (several NumberSays num_text num_tree Number.value number_says ns.first ns.others _) (block_says b after)

-- ---- a score

entries_say : (es : form.EntriesForm) (l : tree.Leaf) (k : Known)
    → EntriesSay k (entries_text es (finish l)) (entries_of k (entries_tree es))
entries_say form.no_entry l k = s.no_entry l
entries_say (form.entry (form.shape w n q ps e) es) l k =
    s.EntriesSay.shape w n q e (several (PartSays k.whole) part_text part_tree (part_of k.whole) (part_says k.whole)
    ps.first ps.others _) (entries_say es l _)
entries_say (form.entry (form.phrase w n b) es) l k = s.EntriesSay.phrase w n (block_says k b _) (entries_say es l _)
entries_say (form.entry (form.plays x) es) l k =
    subst (λ z. EntriesSay k (entries_text (form.entry (form.plays x) es) (finish l))
    (says.item z (play_of k (stmt_tree x)) (entries_of k (entries_tree es)))) (spot_is x _)
    (s.EntriesSay.plays (stmt_says k x _) (entries_say es l k))

seed_says : (x : form.SeedForm) (after : List Lexed) → SeedSays (seed_text x after) (seed_of (seed_tree x)) after
seed_says form.no_seed after = s.no_seed
seed_says (form.seed w n e) after = s.SeedSays.seed w e n

division_says : (x : form.DivisionForm) (after : List Lexed)
    → DivisionSays (division_text x after) (division_of (division_tree x)) after
division_says form.no_division after = s.no_division
division_says (form.division w n e) after = s.DivisionSays.division w e n

abbrev pub profile_with : Bool → ℕ → Profile
profile_with runs q = record { running = runs; division = q }

pub profile_same : (b : Bool) (q : ℕ) → (if b then last_rules q else first_rules).profile
    ≡ (if b then profile_with true q else profile_with false DIVISION)
profile_same true q = refl
profile_same false q = refl

pub whole_same : (b : Bool) (q : ℕ) → (if b then last_rules q else first_rules).whole_note
    ≡ 4 * (if b then profile_with true q else profile_with false DIVISION).division
whole_same true q = refl
whole_same false q = refl

-- what the tokens of a form say is how the file of its score is written, and what that plays
pub score_says : (x : form.ScoreForm) → ScoreSays (score_text x) (profile_of (score_tree x)) (resolved (score_tree x))
unfolding profile_of
score_says x =
    let q = division_of (division_tree x.divided) in
    let is_last = x.version.value == 2 in
    subst (λ p. ScoreSays (score_text x) p (resolved (score_tree x))) (sym (profile_same is_last q))
    (s.score x.word x.ends x.version (resolved (score_tree x)).longest (division_says x.divided _) (seed_says x.seeded _)
    (subst (λ w. EntriesSay (nothing_known w) (entries_text x.entries (finish x.last)) (resolved (score_tree x)).passage)
    (whole_same is_last q) (entries_say x.entries x.last _)))
