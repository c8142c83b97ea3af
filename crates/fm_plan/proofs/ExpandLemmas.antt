-- What each statement's code makes, from what its parts made.
use Rattle.std.proofs.Common.{◌≡◌, ℕ, suc, ◌+◌, ◌-◌, Bool, true, false, List, [], ◌∷◌, ◌++◌, map, take, length, refl, sym, ap}
use Rattle.std.proofs.Common.{ap₂, ◌∙◌, subst, arith, append_assoc, length-append}
use Rattle.std.specs.Prelude.{slice_index_or, ◌&&◌}
use Rattle.std.proofs.lemmas.Bool.{false≢true}
use Rattle.std.proofs.lemmas.List.{length-map}
use Rattle.fm_lex.specs.declared.spot.Spot.{Spot}
use Rattle.fm_program.specs.declared.program.Program.{Program}
use Rattle.fm_program.specs.Parts.{program_parts}
use Rattle.fm_program.specs.declared.op.Count.{Count}
use Rattle.fm_program.specs.declared.op.Slot.TheVariants as slot
use Rattle.fm_program.specs.declared.op.Op.{Op}
use Rattle.fm_program.specs.declared.op.Op.TheVariants as op
use Rattle.fm_program.specs.Parts.{ProgramParts}
use Rattle.fm_meaning.specs.Rules.{usual_gate, usual_velocity}
use Rattle.fm_expansion.specs.Outline.{Instruction, choice, loop, warp, under, Block, done, item, Arms, arm}
use Rattle.fm_expansion.specs.Homes as homes
use Rattle.fm_expansion.specs.Homes.{Inside as Open, loop_frame, loop_round, frames_of, slots_of, in_scope}
use Rattle.fm_expansion.specs.Emission.{forks_in, size_in, emit_in}
use Rattle.fm_expansion.specs.Expansion.{Emitting, with_ops, with_scopes, straight, begun, whole, Joined, unrolled, written_rounds}
use Rattle.fm_expansion.specs.Expansion.{expand_in, expand_arms, nothing_made, outermost, expanded}
use Rattle.fm_expansion.proofs.Lengths.{emit_in_length}
use Rattle.fm_expansion.proofs.Growing.{Prefix, prefix_self, prefix_then, straight_grows, expand_grows, expand_in_grows}
use Rattle.fm_outline.specs.declared.quality.Quality.{Quality}
use Rattle.fm_outline.specs.View.{quality_view}
use Rattle.fm_plan.specs.declared.emitter.Emitter.{Emitter}
use Rattle.fm_plan.specs.declared.inside.Inside.{Inside}
use Rattle.fm_plan.specs.Made.{patched, next_begun, straight_in, made, made_in}
use Rattle.fm_plan.specs.Seen.{emitting_of, Makes, Agrees, turned}
use Rattle.fm_program.specs.declared.op.Turn.TheVariants as turn
use Rattle.fm_plan.proofs.MadeLemmas.{straight_in_is, made_grows, made_warp, made_under, made_loop, made_choice}
use Rattle.fm_plan.proofs.AgreesLemmas.{makes_none, makes_by, agrees_later, agrees_round, agrees_loop, agrees_list, agrees_warp}
use Rattle.fm_plan.proofs.AgreesLemmas.{agrees_outermost}

-- ---- lengths

-- statements in turn add their size
pub straight_length : (b : Block) (i : Open) (e : Emitting)
    → length (straight_in b i e).current.ops ≡ length e.current.ops + size_in b
straight_length b i e =
    let ops = emit_in b i (length e.current.ops) (length e.scopes) in
    ap (λ x. length x.current.ops) (straight_in_is b i e) ∙ length-append e.current.ops ops
    ∙ ap (λ n. length e.current.ops + n) (emit_in_length b i (length e.current.ops) (length e.scopes))

-- one operation adds one
pub one_length : (o : Op) (e : Emitting) → length (with_ops (o ∷ []) e).current.ops ≡ length e.current.ops + 1
one_length o e = length-append e.current.ops (o ∷ [])

-- operations at the end leave the scopes
pub ops_grow : (ops : List Op) (e : Emitting) → Prefix e.scopes (with_ops ops e).scopes
ops_grow ops e = prefix_self e.scopes

-- a statement adds scopes
pub one_grows : (f : Bool) (x : Instruction) (i : Open) (e : Emitting) → Prefix e.scopes (made f x i e).scopes
one_grows true x i e = expand_grows x i e
one_grows false x i e = straight_grows x i e

-- no statements
pub nothing : (f : Bool) (m : Emitter) (b : Block) (i : Open) → b ≡ done → Makes m m (made_in f b i (emitting_of m))
nothing true m b i is = makes_by m m _ _ (ap (λ x. expand_in x i (emitting_of m)) (sym is)) (makes_none m)
nothing false m b i is = makes_by m m _ _ (ap (λ x. straight_in x i (emitting_of m)) (sym is)) (makes_none m)

-- one of two
either_true : (t : Bool) (x y : Emitting) → t ≡ true → elim t [ true ↦ x | false ↦ y ] ≡ x
either_true true x y is = refl
either_true false x y is = absurd (false≢true is)

-- the other
either_false : (t : Bool) (x y : Emitting) → t ≡ false → elim t [ true ↦ x | false ↦ y ] ≡ y
either_false true x y is = absurd (false≢true (sym is))
either_false false x y is = refl

-- a loop that is written out
pub loop_written : (f : Bool) (count : Count) (b : Block) (i : Open) (e : Emitting) → (f && forks_in b) ≡ true
    → made f (loop count b) i e ≡ unrolled (λ j g. expand_in b (in_scope (loop_round j) (length g.scopes) i)
    (with_scopes (slots_of (loop_round j ∷ i.homes) ∷ []) g)) (written_rounds count) 0 e
loop_written true count b i e is = either_true (forks_in b) _ _ is
loop_written false count b i e is = absurd (false≢true is)

-- a loop in a frame
pub loop_framed : (f : Bool) (count : Count) (b : Block) (i : Open) (e : Emitting) → (f && forks_in b) ≡ false
    → made f (loop count b) i e ≡ straight (loop count b) i e
loop_framed true count b i e is = either_false (forks_in b)
    (unrolled (λ j g. expand_in b (in_scope (loop_round j) (length g.scopes) i)
    (with_scopes (slots_of (loop_round j ∷ i.homes) ∷ []) g)) (written_rounds count) 0 e) _ is
loop_framed false count b i e is = refl

-- ---- a choice

-- its two blocks, with the targets filled in
pub choice_made : (m m1 m2 m3 m4 m5 m6 : Emitter) (c : Inside) (i : Open) (expr : ℕ) (one two : Block) (test jump middle target : ℕ)
    → Agrees m c i
    → Makes m m1 (with_ops (op.Test expr c.scope 0 ∷ []) (emitting_of m))
    → ((j : Open) → Agrees m1 c j → Makes m1 m2 (straight_in one j (emitting_of m1)))
    → Makes m2 m3 (with_ops (op.Jump 0 ∷ []) (emitting_of m2))
    → ((j : Open) → Agrees m3 c j → Makes m3 m4 (straight_in two j (emitting_of m3)))
    → Makes m4 m5 (patched jump (op.Jump target) (emitting_of m4))
    → Makes m5 m6 (patched test (op.Test expr c.scope middle) (emitting_of m5))
    → test ≡ length (emitting_of m).current.ops → jump ≡ length (emitting_of m2).current.ops
    → middle ≡ length (emitting_of m3).current.ops → target ≡ length (emitting_of m4).current.ops
    → Makes m m6 (straight (choice expr one two) i (emitting_of m))
choice_made m m1 m2 m3 m4 m5 m6 c i expr one two test jump middle target a p1 p2 p3 p4 p5 p6 is_test is_jump is_middle is_target =
    let e = emitting_of m in
    let n = length e.current.ops in
    let a1 = agrees_later m m1 c i _ a p1 (ops_grow (op.Test expr c.scope 0 ∷ []) e) in
    let q2 = p2 i a1 in
    let a2 = agrees_later m1 m2 c i _ a1 q2 (made_grows false one i (emitting_of m1)) in
    let a3 = agrees_later m2 m3 c i _ a2 p3 (ops_grow (op.Jump 0 ∷ []) (emitting_of m2)) in
    let q4 = p4 i a3 in
    let e1 = with_ops (op.Test expr i.scope 0 ∷ []) e in
    let e2 = straight_in one i e1 in
    let e3 = with_ops (op.Jump 0 ∷ []) e2 in
    let e4 = straight_in two i e3 in
    let is1 : emitting_of m1 ≡ e1 = p1.programs ∙ ap (λ k. with_ops (op.Test expr k 0 ∷ []) e) a.scope in
    let is2 : emitting_of m2 ≡ e2 = q2.programs ∙ ap (straight_in one i) is1 in
    let is3 : emitting_of m3 ≡ e3 = p3.programs ∙ ap (with_ops (op.Jump 0 ∷ [])) is2 in
    let is4 : emitting_of m4 ≡ e4 = q4.programs ∙ ap (straight_in two i) is3 in
    let l1 : length e1.current.ops ≡ n + 1 = one_length (op.Test expr i.scope 0) e in
    let l2 : length e2.current.ops ≡ n + 1 + size_in one = straight_length one i e1 ∙ ap (λ k. k + size_in one) l1 in
    let l3 : length e3.current.ops ≡ n + size_in one + 2 = omega (arith, one_length (op.Jump 0) e2, l2) in
    let l4 : length e4.current.ops ≡ n + size_in one + 2 + size_in two = straight_length two i e3 ∙ ap (λ k. k + size_in two) l3 in
    let at_jump : jump ≡ n + 1 + size_in one = is_jump ∙ ap (λ x. length x.current.ops) is2 ∙ l2 in
    let at_middle : middle ≡ n + size_in one + 2 = is_middle ∙ ap (λ x. length x.current.ops) is3 ∙ l3 in
    let at_target : target ≡ n + size_in one + 2 + size_in two = is_target ∙ ap (λ x. length x.current.ops) is4 ∙ l4 in
    record {
      programs = p6.programs ∙ ap (patched test (op.Test expr c.scope middle)) (p5.programs ∙ ap (patched jump (op.Jump target)) is4)
          ∙ ap (λ k. patched k (op.Test expr c.scope middle) (patched jump (op.Jump target) e4)) is_test
          ∙ ap₂ (λ s k. patched n (op.Test expr s k) (patched jump (op.Jump target) e4)) a.scope at_middle
          ∙ ap₂ (λ k j. patched n (op.Test expr i.scope (n + size_in one + 2)) (patched k (op.Jump j) e4)) at_jump at_target
          ∙ made_choice expr one two i e;
      cycles = p6.cycles ∙ p5.cycles ∙ q4.cycles ∙ p3.cycles ∙ q2.cycles ∙ p1.cycles;
      levels = p6.levels ∙ p5.levels ∙ q4.levels ∙ p3.levels ∙ q2.levels ∙ p1.levels;
    }

-- ---- a loop in a frame

-- its body, with the index behind it filled in
pub loop_made : (m m1 m2 m3 m4 m5 : Emitter) (c d : Inside) (i : Open) (count : Count) (body : Block) (start back number past : ℕ)
    → Agrees m c i
    → Makes m m1 (with_ops (op.Loop count c.scope 0 ∷ []) (emitting_of m))
    → back ≡ length (emitting_of m1).current.ops
    → number ≡ length (emitting_of m1).scopes
    → Makes m1 m2 (with_scopes ((slot.Frame c.frames ∷ slice_index_or (emitting_of m1).scopes c.scope []) ∷ []) (emitting_of m1))
    → d ≡ record c { frames = c.frames + 1; scope = number }
    → ((j : Open) → Agrees m2 d j → Makes m2 m3 (straight_in body j (emitting_of m2)))
    → Makes m3 m4 (with_ops (op.Again back ∷ []) (emitting_of m3))
    → past ≡ length (emitting_of m4).current.ops
    → Makes m4 m5 (patched start (op.Loop count c.scope past) (emitting_of m4))
    → start ≡ length (emitting_of m).current.ops
    → Makes m m5 (straight (loop count body) i (emitting_of m))
loop_made m m1 m2 m3 m4 m5 c d i count body start back number past a p1 is_back is_number p2 is_deeper p3 p4 is_past p5 is_start =
    let e = emitting_of m in
    let n = length e.current.ops in
    let a1 = agrees_later m m1 c i _ a p1 (ops_grow (op.Loop count c.scope 0 ∷ []) e) in
    let own = slots_of (loop_frame ∷ i.homes) in
    let slots : (slot.Frame c.frames ∷ slice_index_or (emitting_of m1).scopes c.scope []) ≡ own =
    ap₂ (λ f s. slot.Frame f ∷ slice_index_or (emitting_of m1).scopes s []) a.frames a.scope
    ∙ ap (λ s. slot.Frame (frames_of i.homes) ∷ s) a1.slots in
    let q2 = makes_by m1 m2 _ (with_scopes (own ∷ []) (emitting_of m1)) (ap (λ s. with_scopes (s ∷ []) (emitting_of m1)) slots) p2 in
    let inside = in_scope loop_frame (length (emitting_of m1).scopes) i in
    let deeper : d ≡ record c { frames = c.frames + 1; scope = length (emitting_of m1).scopes } =
    is_deeper ∙ ap {A = ℕ} {B = Inside} (λ k. record c { frames = c.frames + 1; scope = k }) is_number in
    let a2 = subst (λ x. Agrees m2 x inside) (sym deeper) (agrees_loop m1 m2 c i (emitting_of m1) a1 q2) in
    let q3 = p3 inside a2 in
    let first = op.Loop count i.scope 0 in
    let e1 = with_ops (first ∷ []) e in
    let e2 = with_scopes (own ∷ []) e1 in
    let inner = in_scope loop_frame (length e.scopes) i in
    let is1 : emitting_of m1 ≡ e1 = p1.programs ∙ ap (λ k. with_ops (op.Loop count k 0 ∷ []) e) a.scope in
    let is2 : emitting_of m2 ≡ e2 = q2.programs ∙ ap (with_scopes (own ∷ [])) is1 in
    let e3 = straight_in body inner e2 in
    let is3 : emitting_of m3 ≡ e3 =
    q3.programs ∙ ap₂ (λ k x. straight_in body (in_scope loop_frame k i) x) (ap (λ x. length x.scopes) is1) is2 in
    let l1 : length e1.current.ops ≡ n + 1 = one_length first e in
    let at_back : back ≡ n + 1 = is_back ∙ ap (λ x. length x.current.ops) is1 ∙ l1 in
    let e4 = with_ops (op.Again (n + 1) ∷ []) e3 in
    let is4 : emitting_of m4 ≡ e4 = p4.programs ∙ ap₂ (λ b x. with_ops (op.Again b ∷ []) x) at_back is3 in
    let l3 : length e3.current.ops ≡ n + 1 + size_in body = straight_length body inner e2 ∙ ap (λ k. k + size_in body) l1 in
    let at_past : past ≡ n + size_in body + 2 =
    is_past ∙ ap (λ x. length x.current.ops) is4 ∙ omega (arith, one_length (op.Again (n + 1)) e3, l3) in
    record {
      programs = p5.programs ∙ ap (patched start (op.Loop count c.scope past)) is4
          ∙ ap (λ k. patched k (op.Loop count c.scope past) e4) is_start
          ∙ ap₂ (λ s k. patched n (op.Loop count s k) e4) a.scope at_past
          ∙ made_loop count body i e;
      cycles = p5.cycles ∙ p4.cycles ∙ q3.cycles ∙ p2.cycles ∙ p1.cycles;
      levels = p5.levels ∙ p4.levels ∙ q3.levels ∙ p2.levels ∙ p1.levels;
    }

-- ---- lists and deformations

-- the last element is taken away
pub take_last : {A : Type 0} (xs : List A) (x : A) → take (length (xs ++ x ∷ []) - 1) (xs ++ x ∷ []) ≡ xs
take_last {A = A} xs x =
    let n : length (xs ++ x ∷ []) - 1 ≡ length xs = omega (arith, length-append xs (x ∷ [])) in
    ap (λ k. take k (xs ++ x ∷ [])) n ∙ first xs (x ∷ [])
  where
    first : (ys zs : List A) → take (length ys) (ys ++ zs) ≡ ys
    first [] zs = refl
    first (y ∷ ys) zs = ap (λ l. y ∷ l) (first ys zs)

-- a list
pub list_made : (m m1 m2 m3 m4 m5 : Emitter) (c d : Inside) (i : Open) (f : Bool) (q : Quality) (l : ℕ) (body : Block)
    → Agrees m c i → d ≡ record (turned c q (turn.Cycle c.frames)) { frames = c.frames + 1 }
    → Makes m m1 (with_ops (op.Begin l ∷ []) (emitting_of m))
    → ((j : Open) → Agrees m2 d j → Makes m2 m3 (made_in f body j (emitting_of m2)))
    → Makes m4 m5 (with_ops (op.Close ∷ []) (emitting_of m4))
    → emitting_of m2 ≡ emitting_of m1 → m2.cycles.items ≡ m1.cycles.items ++ l ∷ [] → m2.levels.items ≡ m1.levels.items
    → emitting_of m4 ≡ emitting_of m3 → m4.cycles.items ≡ take (length m3.cycles.items - 1) m3.cycles.items
    → m4.levels.items ≡ m3.levels.items
    → Makes m m5 (made f (under (quality_view q) l body) i (emitting_of m))
list_made m m1 m2 m3 m4 m5 c d i f q l body a is_deeper p1 p3 p5 s2 c2 l2 s4 c4 l4 =
    let e = emitting_of m in
    let a1 = agrees_later m m1 c i _ a p1 (ops_grow (op.Begin l ∷ []) e) in
    let inside = homes.at_home (homes.list_frame (quality_view q) l) i in
    let a2 = subst (λ x. Agrees m2 x inside) (sym is_deeper) (agrees_list m1 m2 c i q l a1 (ap Emitting.scopes s2) c2 l2) in
    let q3 = p3 inside a2 in
    let cycles : m4.cycles.items ≡ m1.cycles.items =
    c4 ∙ ap (λ x. take (length x - 1) x) (q3.cycles ∙ c2) ∙ take_last m1.cycles.items l in
    record {
      programs = p5.programs ∙ ap (with_ops (op.Close ∷ [])) (s4 ∙ q3.programs ∙ ap (made_in f body inside) (s2 ∙ p1.programs))
          ∙ sym (made_under f (quality_view q) l body i e);
      cycles = p5.cycles ∙ cycles ∙ p1.cycles;
      levels = p5.levels ∙ l4 ∙ q3.levels ∙ l2 ∙ p1.levels;
    }

-- a deformation
pub warp_made : (m m1 m2 m3 m4 m5 : Emitter) (c : Inside) (i : Open) (f : Bool) (w : ℕ) (body : Block)
    → Agrees m c i
    → Makes m m1 (with_ops (op.Enter w ∷ []) (emitting_of m))
    → ((j : Open) → Agrees m2 c j → Makes m2 m3 (made_in f body j (emitting_of m2)))
    → Makes m4 m5 (with_ops (op.Leave ∷ []) (emitting_of m4))
    → emitting_of m2 ≡ emitting_of m1 → m2.cycles.items ≡ m1.cycles.items → m2.levels.items ≡ m1.levels.items ++ w ∷ []
    → emitting_of m4 ≡ emitting_of m3 → m4.cycles.items ≡ m3.cycles.items
    → m4.levels.items ≡ take (length m3.levels.items - 1) m3.levels.items
    → Makes m m5 (made f (warp w body) i (emitting_of m))
warp_made m m1 m2 m3 m4 m5 c i f w body a p1 p3 p5 s2 c2 l2 s4 c4 l4 =
    let e = emitting_of m in
    let a1 = agrees_later m m1 c i _ a p1 (ops_grow (op.Enter w ∷ []) e) in
    let inside = homes.in_warp w i in
    let a2 = agrees_warp m1 m2 c i w a1 (ap Emitting.scopes s2) c2 l2 in
    let q3 = p3 inside a2 in
    let levels : m4.levels.items ≡ m1.levels.items =
    l4 ∙ ap (λ x. take (length x - 1) x) (q3.levels ∙ l2) ∙ take_last m1.levels.items w in
    record {
      programs = p5.programs ∙ ap (with_ops (op.Leave ∷ [])) (s4 ∙ q3.programs ∙ ap (made_in f body inside) (s2 ∙ p1.programs))
          ∙ sym (made_warp f w body i e);
      cycles = p5.cycles ∙ c4 ∙ q3.cycles ∙ c2 ∙ p1.cycles;
      levels = p5.levels ∙ levels ∙ p1.levels;
    }

-- ---- turns of loops

-- one statement less is left
pub steps_on : (m0 m n : Emitter) (c : Inside) (i : Open) (f : Bool) (whole_made : Emitting) (spot : Spot) (x : Instruction) (more : Block)
    → Agrees m c i × (m.cycles.items ≡ m0.cycles.items) × (m.levels.items ≡ m0.levels.items)
    × (whole_made ≡ made_in f (item spot x more) i (emitting_of m))
    → Makes m n (made f x i (emitting_of m))
    → Agrees n c i × (n.cycles.items ≡ m0.cycles.items) × (n.levels.items ≡ m0.levels.items)
    × (whole_made ≡ made_in f more i (emitting_of n))
steps_on m0 m n c i true whole_made spot x more h p = (
  agrees_later m n c i _ h.0 p (one_grows true x i (emitting_of m)),
  p.cycles ∙ h.1,
  p.levels ∙ h.2,
  h.3 ∙ ap (expand_in more i) (sym p.programs),
)
steps_on m0 m n c i false whole_made spot x more h p = (
  agrees_later m n c i _ h.0 p (one_grows false x i (emitting_of m)),
  p.cycles ∙ h.1,
  p.levels ∙ h.2,
  h.3 ∙ ap (straight_in more i) (sym p.programs),
)

-- one round less is left
pub rounds_on : (m0 m m1 n : Emitter) (c d : Inside) (i : Open) (whole_made : Emitting) (body : Block) (left round number : ℕ)
    → Agrees m c i × (m.cycles.items ≡ m0.cycles.items) × (m.levels.items ≡ m0.levels.items)
    × (whole_made ≡ unrolled (λ j f. expand_in body (in_scope (loop_round j) (length f.scopes) i)
    (with_scopes (slots_of (loop_round j ∷ i.homes) ∷ []) f)) (suc left) round (emitting_of m))
    → number ≡ length (emitting_of m).scopes
    → Makes m m1 (with_scopes ((slot.Fixed round ∷ slice_index_or (emitting_of m).scopes c.scope []) ∷ []) (emitting_of m))
    → d ≡ record c { scope = number }
    → ((j : Open) → Agrees m1 d j → Makes m1 n (expand_in body j (emitting_of m1)))
    → Agrees n c i × (n.cycles.items ≡ m0.cycles.items) × (n.levels.items ≡ m0.levels.items)
    × (whole_made ≡ unrolled (λ j f. expand_in body (in_scope (loop_round j) (length f.scopes) i)
    (with_scopes (slots_of (loop_round j ∷ i.homes) ∷ []) f)) left (round + 1) (emitting_of n))
rounds_on m0 m m1 n c d i whole_made body left round number h is_number p1 is_deeper p2 =
    let e = emitting_of m in
    let own = slots_of (loop_round round ∷ i.homes) in
    let slots : (slot.Fixed round ∷ slice_index_or e.scopes c.scope []) ≡ own =
    ap (λ s. slot.Fixed round ∷ slice_index_or e.scopes s []) h.0.scope ∙ ap (λ s. slot.Fixed round ∷ s) h.0.slots in
    let q1 = makes_by m m1 _ (with_scopes (own ∷ []) e) (ap (λ s. with_scopes (s ∷ []) e) slots) p1 in
    let inside = in_scope (loop_round round) (length e.scopes) i in
    let deeper : d ≡ record c { scope = length e.scopes } =
    is_deeper ∙ ap {A = ℕ} {B = Inside} (λ k. record c { scope = k }) is_number in
    let a1 = subst (λ x. Agrees m1 x inside) (sym deeper) (agrees_round m m1 c i round e h.0 q1 refl) in
    let q2 = p2 inside a1 in
    let e1 = with_scopes (own ∷ []) e in
    let is : emitting_of n ≡ expand_in body inside e1 = q2.programs ∙ ap (expand_in body inside) q1.programs in
    let grown = prefix_then e.scopes e1.scopes (expand_in body inside e1).scopes (record { more = own ∷ []; is = refl })
    (expand_in_grows body inside e1) in
    let all : Makes m n (expand_in body inside e1) = record {
      programs = is;
      cycles = q2.cycles ∙ q1.cycles;
      levels = q2.levels ∙ q1.levels;
    } in (
      agrees_later m n c i _ h.0 all grown,
      all.cycles ∙ h.1,
      all.levels ∙ h.2,
      h.3 ∙ ap (unrolled (λ j f. expand_in body (in_scope (loop_round j) (length f.scopes) i)
          (with_scopes (slots_of (loop_round j ∷ i.homes) ∷ []) f)) left (round + 1)) (sym is),
    )

-- a program begins with what is open
begun_is : (m : Emitter) (c : Inside) (i : Open) (qs : List ℕ) → Agrees m c i
    → (let p : ProgramParts = record { ops = []; cycles = m.cycles.items; levels = m.levels.items; predecessors = qs } in p) ≡ begun i qs
begun_is m c i qs a =
    ap₂ (λ x y. let p : ProgramParts = record { ops = []; cycles = x; levels = y; predecessors = qs } in p) a.cycles a.levels

-- one branch less is left
pub fork_on : (m0 m m1 n : Emitter) (c : Inside) (i : Open) (body : Block) (others : Arms) (forked last : ℕ) (parent lasts new : List ℕ)
    (all_made : Joined)
    → Agrees m c i × (m.cycles.items ≡ m0.cycles.items) × (m.levels.items ≡ m0.levels.items)
    × (forked ≡ length (emitting_of m0).finished)
    × (all_made ≡ (let j = expand_arms (arm body others) i forked (whole (emitting_of m)) (emitting_of m).scopes in
    record { programs = j.programs; lasts = lasts ++ j.lasts; scopes = j.scopes }))
    → parent ≡ forked ∷ []
    → Makes m m1 (next_begun (record { ops = []; cycles = m.cycles.items; levels = m.levels.items; predecessors = parent }) (emitting_of m))
    → ((j : Open) → Agrees m1 c j → Makes m1 n (expand_in body j (emitting_of m1)))
    → last ≡ length n.finished.items → new ≡ lasts ++ last ∷ []
    → Agrees n c i × (n.cycles.items ≡ m0.cycles.items) × (n.levels.items ≡ m0.levels.items)
    × (forked ≡ length (emitting_of m0).finished)
    × (all_made ≡ (let j = expand_arms others i forked (whole (emitting_of n)) (emitting_of n).scopes in
    record { programs = j.programs; lasts = new ++ j.lasts; scopes = j.scopes }))
fork_on m0 m m1 n c i body others forked last parent lasts new all_made h is_parent p1 p2 is_last is_new =
    let e = emitting_of m in
    let e0 : Emitting = record { finished = whole e; current = begun i (forked ∷ []); scopes = e.scopes } in
    let is1 : emitting_of m1 ≡ e0 =
    p1.programs ∙ ap (λ qs. next_begun (record { ops = []; cycles = m.cycles.items; levels = m.levels.items; predecessors = qs }) e)
    is_parent
    ∙ ap (λ p. next_begun p e) (begun_is m c i (forked ∷ []) h.0) in
    let a1 = agrees_later m m1 c i _ h.0 p1 (prefix_self e.scopes) in
    let q2 = p2 i a1 in
    let e1 = expand_in body i e0 in
    let is2 : emitting_of n ≡ e1 = q2.programs ∙ ap (expand_in body i) is1 in
    let all : Makes m n e1 = record { programs = is2; cycles = q2.cycles ∙ p1.cycles; levels = q2.levels ∙ p1.levels } in
    let is_number : length e1.finished ≡ last = ap (λ x. length x.finished) (sym is2) ∙ length-map n.finished.items program_parts
    ∙ sym is_last in
    let made_by : List ℕ → Emitting → Joined = λ l x.
    (let j = expand_arms others i forked (whole x) x.scopes in
    record { programs = j.programs; lasts = l ++ j.lasts; scopes = j.scopes }) in
    let j = expand_arms others i forked (whole e1) e1.scopes in
    let lasts_are : lasts ++ length e1.finished ∷ j.lasts ≡ new ++ j.lasts =
    ap (λ k. lasts ++ k ∷ j.lasts) is_number ∙ sym (append_assoc lasts (last ∷ []) j.lasts) ∙ ap (λ l. l ++ j.lasts) (sym is_new) in (
      agrees_later m n c i _ h.0 all (expand_in_grows body i e0),
      all.cycles ∙ h.1,
      all.levels ∙ h.2,
      h.3,
      h.4 ∙ ap {A = List ℕ} {B = Joined} (λ l. record { programs = j.programs; lasts = l; scopes = j.scopes }) lasts_are
          ∙ ap (made_by new) (sym is2),
    )

-- ---- scores

-- the statements that are played
pub expanded_made : (m n : Emitter) (c : Inside) (b : Block) → emitting_of m ≡ nothing_made → m.cycles.items ≡ [] → m.levels.items ≡ []
    → c ≡ record {
      beat = turn.Steady 0;
      gate = turn.Steady usual_gate;
      loud = turn.Steady usual_velocity;
      frames = 0;
      channel = 0;
      scope = 0;
    }
    → ((i : Open) → Agrees m c i → Makes m n (expand_in b i (emitting_of m)))
    → emitting_of n ≡ expanded b
expanded_made m n c b new cycles levels is p =
    (p outermost (agrees_outermost m c new cycles levels is)).programs ∙ ap (expand_in b outermost) new

-- the program that grows is the last one
pub whole_made : (ps : List Program) (p : Program) → map program_parts (ps ++ p ∷ []) ≡ map program_parts ps ++ program_parts p ∷ []
whole_made [] p = refl
whole_made (q ∷ ps) p = ap (λ l. program_parts q ∷ l) (whole_made ps p)
