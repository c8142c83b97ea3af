-- What statements ask, in turn, in branches and inside blocks, and that it stays where tables grow.
use Rattle.std.proofs.Common.{◌≡◌, ◌∙◌, ℕ, List, [], ◌∷◌, ◌++◌, Bool, true, false, ◌||◌, nat_lt, map, refl, sym, ap, ap₂, subst, append_assoc, arith, rules}
use Rattle.std.proofs.lemmas.Grind.{common_steps}
use Rattle.std.proofs.lemmas.Bool.Decides.{nat_tests}
use Rattle.fm_lex.specs.declared.spot.Spot.{Spot}
use Rattle.fm_grammar.specs.Score as text
use Rattle.fm_meaning.specs.Fault.{fault_if, index_outside_loop}
use Rattle.fm_meaning.specs.Resolve.{span_of}
use Rattle.fm_meaning.specs.Resolved as meaning
use Rattle.fm_meaning.specs.Places.{Depths, outermost, has_outside, count_outside, depth_faults, place_faults, passage_faults, fork_faults}
use Rattle.fm_expansion.specs.Emission.{forks, forks_in}
use Rattle.fm_expansion.specs.Outline as plain
use Rattle.fm_expansion.specs.Outline.{Tables, play_in, passage_in, fork_in}
use Rattle.fm_expansion.specs.Numbering.{Catalogue, Numbered, numbered, instruction_of, block_of, arms_of, expr_added, span_numbered}
use Rattle.fm_expansion.proofs.Tables.{Grows, grows_self, grows_then, expr_found}
use Rattle.fm_expansion.proofs.Growth.{span_grows, stmt_grows, body_grows, branches_grow}
use Rattle.fm_expansion.proofs.Resolving.{note_found, span_found, draw_found}
use Rattle.fm_outline.specs.declared.needs.Needs.{Needs}
use Rattle.fm_outline.specs.declared.step.Step.{Step, the_lemmas}
use Rattle.fm_outline.specs.declared.step.Instruction.TheVariants as leaf
use Rattle.fm_outline.specs.declared.lasting.Lasting.TheVariants as lasting
use Rattle.fm_outline.specs.View.{Look, step_view, block_view, arms_of_blocks}
use Rattle.fm_outline.specs.Needs.{nothing, added, asks, both, outside}
use Rattle.fm_outline.specs.Asking.{Faults, TellsFaults, Asks, OpensBlock, own_faults, within, inside_faults, is_fork, stands_alone, BlockAsks, InsideAsks, StepAsks}
use Rattle.fm_outline.specs.Forking.{inside, throughout, AllThroughout, SaysNeeds, IsAsking, FindsSame}
use Rattle.fm_outline.proofs.ForkLemmas.{none_marked}
use Rattle.fm_outline.proofs.NeedsLemmas.{asks_told, both_tells, block_tells, no_lt, phrase_told, nothing_tells}
use Rattle.fm_outline.proofs.PassageLemmas.{tells_same, passage_more, fork_more}

-- ---- statements in turn

or_or : (a b c : Bool) → ((a || b) || c) ≡ (a || (b || c))
or_or a b c = grind (arith, common_steps)

or_none : (a : Bool) → a ≡ (a || false)
or_none a = grind (arith, common_steps)

-- a fork in one statement more
forks_more : (look : Look) (xs : List Step) (x : Step)
    → (forks_in (block_view look xs) || forks (step_view look x).what) ≡ forks_in (block_view look (xs ++ x ∷ []))
forks_more look [] x = or_none (forks (step_view look x).what)
forks_more look (y ∷ xs) x =
    or_or (forks (step_view look y).what) (forks_in (block_view look xs)) (forks (step_view look x).what)
    ∙ ap (λ b. forks (step_view look y).what || b) (forks_more look xs x)

-- no statements
pub none_ask : (t : Tables) → BlockAsks t plain.done nothing
none_ask t = record { forks = refl; faults = nothing_tells }

-- where nothing is inside
pub none_inside : (t : Tables) (i : plain.Instruction) → stands_alone i ≡ true → InsideAsks t i nothing
none_inside t (plain.note c l) alone = record { forks = refl; faults = nothing_tells }
none_inside t (plain.rest l) alone = record { forks = refl; faults = nothing_tells }
none_inside t (plain.send p v) alone = record { forks = refl; faults = nothing_tells }
none_inside t (plain.assign r e) alone = record { forks = refl; faults = nothing_tells }
none_inside t (plain.choice e a b) alone = cc
none_inside t (plain.loop n a) alone = cc
none_inside t (plain.phrase a) alone = cc
none_inside t (plain.par a) alone = cc
none_inside t (plain.warp n a) alone = cc
none_inside t (plain.channel n a) alone = cc
none_inside t (plain.steady q n a) alone = cc
none_inside t (plain.under q n a) alone = cc

-- and nothing is opened
pub opens_nothing : OpensBlock outermost (λ d. d)
opens_nothing = record {
  same = λ d. same_depths d;
  warps = omega arith;
  frames = omega arith;
  blocks = omega arith;
  loops = omega arith;
}
  where
    same_depths : (d : Depths) → d ≡ added outermost d
    same_depths d = grind (arith, common_steps)

-- one statement more
pub block_more : (t : Tables) (look : Look) (xs : List Step) (x : Step) (n : Needs) → BlockAsks t (block_view look xs) n
    → StepAsks t (step_view look x).what x.needs → BlockAsks t (block_view look (xs ++ x ∷ [])) (both n x.needs)
block_more t look xs x n those one = record {
  forks = ap₂ (λ a b. a || b) those.forks one.forks ∙ forks_more look xs x;
  faults = tells_same _ _ _ (passage_more t look xs x) (both_tells _ _ _ _ those.faults (one.faults x.spot));
}

-- one branch more
pub fork_asks_more : (t : Tables) (bs : List plain.Block) (b : plain.Block) (n m : Needs)
    → TellsFaults (fork_faults (fork_in t (arms_of_blocks bs))) n → BlockAsks t b m
    → TellsFaults (fork_faults (fork_in t (arms_of_blocks (bs ++ b ∷ [])))) (both n m)
fork_asks_more t bs b n m those one =
    tells_same _ _ _ (fork_more t bs b) (both_tells _ _ _ _ those one.faults)

-- ---- a statement with those inside it

-- of a statement with a block, or of one that brings in a phrase
whole_tells : (t : Tables) (i : plain.Instruction) (own inner : Needs) (o : Depths) (s : Spot)
    → Asks s (own_faults s (play_in t i)) own → OpensBlock o (within (play_in t i))
    → TellsFaults (inside_faults (play_in t i)) inner → stands_alone i ≡ false
    → TellsFaults (place_faults s (play_in t i)) (both own (outside o inner))
whole_tells t (plain.note c l) own inner o s asks opens told more = cc
whole_tells t (plain.rest l) own inner o s asks opens told more = cc
whole_tells t (plain.send p v) own inner o s asks opens told more = cc
whole_tells t (plain.assign r e) own inner o s asks opens told more = cc
whole_tells t (plain.choice e a b) own inner o s asks opens told more =
    let p = play_in t (plain.choice e a b) in
    tells_same _ _ _
    (λ d. sym (append_assoc (own_faults s p d ++ depth_faults s (within p d)) (passage_faults (passage_in t a) (within p d))
    (passage_faults (passage_in t b) (within p d))))
    (block_tells s (own_faults s p) (inside_faults p) own inner o (within p) opens asks told)
whole_tells t (plain.loop n a) own inner o s asks opens told more =
    let p = play_in t (plain.loop n a) in
    block_tells s (own_faults s p) (inside_faults p) own inner o (within p) opens asks told
whole_tells t (plain.phrase a) own inner o s asks opens told more =
    both_tells (λ d. []) (place_faults s (meaning.phrase (passage_in t a))) own (outside o inner) asks.tells
    (phrase_told s (passage_in t a) inner (outside o inner) o opens told refl).tells
whole_tells t (plain.par a) own inner o s asks opens told more =
    let p = play_in t (plain.par a) in
    block_tells s (own_faults s p) (inside_faults p) own inner o (within p) opens asks told
whole_tells t (plain.warp n a) own inner o s asks opens told more =
    let p = play_in t (plain.warp n a) in
    block_tells s (own_faults s p) (inside_faults p) own inner o (within p) opens asks told
whole_tells t (plain.channel n a) own inner o s asks opens told more =
    let p = play_in t (plain.channel n a) in
    block_tells s (own_faults s p) (inside_faults p) own inner o (within p) opens asks told
whole_tells t (plain.steady q n a) own inner o s asks opens told more =
    let p = play_in t (plain.steady q n a) in
    block_tells s (own_faults s p) (inside_faults p) own inner o (within p) opens asks told
whole_tells t (plain.under q n a) own inner o s asks opens told more =
    let p = play_in t (plain.under q n a) in
    block_tells s (own_faults s p) (inside_faults p) own inner o (within p) opens asks told

pub whole_asks : (t : Tables) (i : plain.Instruction) (own inner : Needs) (o : Depths)
    → ((s : Spot) → Asks s (own_faults s (play_in t i)) own) → own.forks ≡ is_fork i → OpensBlock o (within (play_in t i))
    → InsideAsks t i inner → stands_alone i ≡ false → StepAsks t i (both own (outside o inner))
whole_asks t i own inner o asks fork opens those more = record {
  forks = ap (λ b. b || inner.forks) fork ∙ those.forks;
  faults = λ s. whole_tells t i own inner o s (asks s) opens those.faults more;
}

-- of one without
alone_tells : (t : Tables) (i : plain.Instruction) (s : Spot) (own : Needs) → TellsFaults (own_faults s (play_in t i)) own
    → stands_alone i ≡ true → TellsFaults (place_faults s (play_in t i)) own
alone_tells t (plain.note c l) s own told alone = told
alone_tells t (plain.rest l) s own told alone = told
alone_tells t (plain.send p v) s own told alone = told
alone_tells t (plain.assign r e) s own told alone = told
alone_tells t (plain.choice e a b) s own told alone = cc
alone_tells t (plain.loop n a) s own told alone = cc
alone_tells t (plain.phrase a) s own told alone = cc
alone_tells t (plain.par a) s own told alone = cc
alone_tells t (plain.warp n a) s own told alone = cc
alone_tells t (plain.channel n a) s own told alone = cc
alone_tells t (plain.steady q n a) s own told alone = cc
alone_tells t (plain.under q n a) s own told alone = cc

alone_forks : (i : plain.Instruction) → stands_alone i ≡ true → is_fork i ≡ forks i
alone_forks (plain.note c l) alone = refl
alone_forks (plain.rest l) alone = refl
alone_forks (plain.send p v) alone = refl
alone_forks (plain.assign r e) alone = refl
alone_forks (plain.choice e a b) alone = cc
alone_forks (plain.loop n a) alone = cc
alone_forks (plain.phrase a) alone = cc
alone_forks (plain.par a) alone = cc
alone_forks (plain.warp n a) alone = cc
alone_forks (plain.channel n a) alone = cc
alone_forks (plain.steady q n a) alone = cc
alone_forks (plain.under q n a) alone = cc

pub alone_asks : (t : Tables) (i : plain.Instruction) (own : Needs) → ((s : Spot) → Asks s (own_faults s (play_in t i)) own)
    → own.forks ≡ is_fork i → stands_alone i ≡ true → StepAsks t i own
alone_asks t i own asks fork alone = record {
  forks = fork ∙ alone_forks i alone;
  faults = λ s. alone_tells t i s own (asks s).tells alone;
}

-- what a statement asks itself where the tables have grown
asks_same : (s : Spot) (a b : Faults) (n : Needs) → ((d : Depths) → a d ≡ b d) → Asks s a n → Asks s b n
asks_same s a b n same h = record {
  tells = tells_same a b n same h.tells;
  list = λ d w. h.list d w ∙ same d;
}

pub asks_still : (u t : Tables) (i : plain.Instruction) (own : Needs) → ((s : Spot) → Asks s (own_faults s (play_in u i)) own)
    → FindsSame u t i → (s : Spot) → Asks s (own_faults s (play_in t i)) own
asks_still u t i own asks same s = asks_same s (own_faults s (play_in u i)) (own_faults s (play_in t i)) own (same s) (asks s)

-- a rest of the rhythm's duration
pub beat_asking : (t : Tables) (look : Look) (spot : Spot)
    → IsAsking t look (record { spot = spot; what = leaf.Rest lasting.Beat; needs = asks true 0 })
beat_asking t look spot =
    let s : Step = record { spot = spot; what = leaf.Rest lasting.Beat; needs = asks true 0 } in
    let seen : (step_view look s).what ≡ plain.rest plain.beat = search (rules, the_lemmas) in
    let none : inside (leaf.Rest lasting.Beat) ≡ [] = search (rules, the_lemmas) in
    throughout s
    (subst (λ i. StepAsks t i (asks true 0)) (sym seen)
    (record { forks = refl; faults = λ z. (asks_told z true 0 (λ l. false) no_lt).tells }))
    (subst (AllThroughout (SaysNeeds t look)) (sym none) (none_marked {P = SaysNeeds t look}))

-- ---- tables that grow

-- what a statement of a text names is the same in the tables behind it and in later ones
own_there : (k : Catalogue) (stmt : text.Stmt) (t v : Tables) → Grows (instruction_of k stmt t).tables v → (s : Spot) (d : Depths)
    → own_faults s (play_in (instruction_of k stmt t).tables (instruction_of k stmt t).value) d
    ≡ own_faults s (play_in v (instruction_of k stmt t).value) d
own_there k (text.note ps l) t v g s d =
    let there = λ (w : Tables) (on : Grows (instruction_of k (text.note ps l) t).tables w).
    note_found ps (span_numbered k.whole l) (span_of k.whole l) t w (λ x. span_grows k.whole l x)
    (λ x more. span_found k.whole l x w more) on in
    ap (λ p. own_faults s p d) (there _ (grows_self _) ∙ sym (there v g))
own_there k (text.play ps) t v g s d =
    let there = λ (w : Tables) (on : Grows (instruction_of k (text.play ps) t).tables w).
    note_found ps (λ x. numbered plain.beat x) meaning.beat t w (λ x. grows_self x) (λ x more. refl) on in
    ap (λ p. own_faults s p d) (there _ (grows_self _) ∙ sym (there v g))
own_there k (text.rest l) t v g s d =
    ap (λ x. own_faults s (meaning.rest x) d)
    (span_found k.whole l t _ (grows_self _) ∙ sym (span_found k.whole l t v g))
own_there k text.skip t v g s d = refl
own_there k (text.control c a) t v g s d =
    ap (λ x. own_faults s (meaning.send (meaning.control c.value) x) d)
    (draw_found a t _ (grows_self _) ∙ sym (draw_found a t v g))
own_there k (text.program a) t v g s d =
    ap (λ x. own_faults s (meaning.send meaning.program x) d) (draw_found a t _ (grows_self _) ∙ sym (draw_found a t v g))
own_there k (text.bend a) t v g s d =
    ap (λ x. own_faults s (meaning.send meaning.bend x) d) (draw_found a t _ (grows_self _) ∙ sym (draw_found a t v g))
own_there k (text.set r e) t v g s d =
    ap (λ x. own_faults s (meaning.assign r x) d) (expr_found e.nodes t _ (grows_self _) ∙ sym (expr_found e.nodes t v g))
own_there k (text.choice e a b) t v g s d =
    let w = expr_added e.nodes t in
    let x = block_of k a w in
    let y = block_of k b x.tables in
    let on = grows_then w x.tables y.tables (body_grows k a w) (body_grows k b x.tables) in
    ap (λ l. fault_if (has_outside d.loops l) s index_outside_loop)
    (expr_found e.nodes t y.tables on ∙ sym (expr_found e.nodes t v (grows_then w y.tables v on g)))
own_there k (text.repeat n b) t v g s d = refl
own_there k (text.again e n b) t v g s d =
    let w = expr_added e.nodes t in
    let on = body_grows k b w in
    ap (λ l. fault_if (count_outside d.loops (meaning.at_most l n.value)) s index_outside_loop)
    (expr_found e.nodes t (block_of k b w).tables on
    ∙ sym (expr_found e.nodes t v (grows_then w (block_of k b w).tables v on g)))
own_there k (text.call name) t v g s d = refl
own_there k (text.par bs) t v g s d = refl
own_there k (text.warp name b) t v g s d = refl
own_there k (text.channel n b) t v g s d = refl
own_there k (text.volume n b) t v g s d = refl
own_there k (text.gate n b) t v g s d = refl
own_there k (text.rhythm ls b) t v g s d = refl
own_there k (text.artic ns b) t v g s d = refl
own_there k (text.loud ns b) t v g s d = refl

-- the same of what was made of it
pub own_same : (k : Catalogue) (stmt : text.Stmt) (t u v : Tables) (i : plain.Instruction)
    → numbered i u ≡ instruction_of k stmt t → Grows u v → FindsSame u v i
own_same k stmt t u v i is g s d =
    subst (λ (x : Numbered plain.Instruction). Grows x.tables v → own_faults s (play_in x.tables x.value) d
    ≡ own_faults s (play_in v x.value) d)
    (sym is) (λ on. own_there k stmt t v on s d) g

-- a statement, a block and branches only let the tables grow
pub stmt_grown : (k : Catalogue) (stmt : text.Stmt) (t u : Tables) (i : plain.Instruction)
    → numbered i u ≡ instruction_of k stmt t → Grows t u
stmt_grown k stmt t u i is = subst (λ (x : Numbered plain.Instruction). Grows t x.tables) (sym is) (stmt_grows k stmt t)

pub body_grown : (k : Catalogue) (b : text.Body) (t u : Tables) (x : plain.Block) → numbered x u ≡ block_of k b t → Grows t u
body_grown k b t u x is = subst (λ (y : Numbered plain.Block). Grows t y.tables) (sym is) (body_grows k b t)

pub branches_grown : (k : Catalogue) (bs : text.Branches) (t u : Tables) (x : plain.Arms) → numbered x u ≡ arms_of k bs t
    → Grows t u
branches_grown k bs t u x is = subst (λ (y : Numbered plain.Arms). Grows t y.tables) (sym is) (branches_grow k bs t)
