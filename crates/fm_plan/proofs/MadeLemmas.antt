-- Statements that do not fork, operation by operation, and targets that are filled in behind.
use Rattle.std.proofs.Common.{◌≡◌, ℕ, zero, suc, ◌+◌, ◌≤◌, Bool, true, false, List, [], ◌∷◌, ◌++◌, length, refl}
use Rattle.std.proofs.Common.{sym, ap, ap₂, ◌∙◌, arith, append_assoc, append-nil, length-append}
use Rattle.std.specs.Prelude.{slice_set}
use Rattle.fm_program.specs.declared.op.Count.{Count}
use Rattle.fm_program.specs.declared.op.Slot.{Slot}
use Rattle.fm_program.specs.declared.op.Op.{Op}
use Rattle.fm_program.specs.declared.op.Op.TheVariants as op
use Rattle.fm_meaning.specs.Resolved.{Quality}
use Rattle.fm_expansion.specs.Outline.{choice, loop, phrase, warp, channel, steady, under, Block}
use Rattle.fm_expansion.specs.Outline.{done, item}
use Rattle.fm_expansion.specs.Homes.{loop_frame, list_frame, list_of_one, slots_of, Inside, at_home, in_scope, in_warp}
use Rattle.fm_expansion.specs.Emission.{size, size_in, scopes_of, scopes_in, emit, emit_in}
use Rattle.fm_expansion.specs.Expansion.{Emitting, with_ops, with_scopes, straight, expand}
use Rattle.fm_expansion.proofs.Lengths.{emit_length, emit_in_length}
use Rattle.fm_expansion.proofs.Growing.{Prefix, expand_in_grows}
use Rattle.fm_outline.specs.View.{Placed, before}
use Rattle.fm_plan.specs.Made.{patched, straight_in, made, made_in}

-- ---- lists

-- another element behind as many as stand before it
pub set_seam : {A : Type 0} (xs ys : List A) (y z : A) → slice_set (xs ++ y ∷ ys) (length xs) z ≡ xs ++ z ∷ ys
set_seam [] ys y z = refl
set_seam (x ∷ xs) ys y z = ap (λ l. x ∷ l) (set_seam xs ys y z)

-- past the last element nothing changes
pub set_past : {A : Type 0} (xs : List A) (n : ℕ) (z : A) → length xs ≤ n → slice_set xs n z ≡ xs
set_past [] zero z past = refl
set_past [] (suc n) z past = refl
set_past (x ∷ xs) zero z past = absurd (omega (arith, past))
set_past (x ∷ xs) (suc n) z past = ap (λ l. x ∷ l) (set_past xs n z (omega (arith, past)))

-- ---- statements in turn

-- the same programs with these operations and scopes
abbrev pub rebuilt : Emitting → List Op → List (List Slot) → Emitting
rebuilt e ops ss = record { finished = e.finished; current = record e.current { ops = ops }; scopes = ss }

-- statements that do not fork, as one list of operations
pub straight_in_is : (b : Block) (i : Inside) (e : Emitting) → straight_in b i e
    ≡ with_scopes (scopes_in b i.homes) (with_ops (emit_in b i (length e.current.ops) (length e.scopes)) e)
straight_in_is done i e = ap₂ (rebuilt e) (sym (append-nil e.current.ops)) (sym (append-nil e.scopes))
straight_in_is (item spot x more) i e =
    let ops = e.current.ops in
    let here = emit x i (length ops) (length e.scopes) in
    let new = scopes_of x i.homes in
    let e1 = straight x i e in
    let behind : length (ops ++ here) ≡ length ops + size x =
    omega (arith, length-append ops here, emit_length x i (length ops) (length e.scopes)) in
    let later : length (e.scopes ++ new) ≡ length e.scopes + length new = length-append e.scopes new in
    straight_in_is more i e1
    ∙ ap₂ (λ p s. rebuilt e ((ops ++ here) ++ emit_in more i p s) ((e.scopes ++ new) ++ scopes_in more i.homes)) behind later
    ∙ ap₂ (rebuilt e) (append_assoc ops here (emit_in more i (length ops + size x) (length e.scopes + length new)))
    (append_assoc e.scopes new (scopes_in more i.homes))

-- one statement more, behind others
pub made_more : (f : Bool) (ps : List Placed) (p : Placed) (i : Inside) (e : Emitting)
    → made_in f (before (ps ++ p ∷ []) done) i e ≡ made f p.what i (made_in f (before ps done) i e)
made_more true [] p i e = refl
made_more true (q ∷ ps) p i e = made_more true ps p i (expand q.what i e)
made_more false [] p i e = refl
made_more false (q ∷ ps) p i e = made_more false ps p i (straight q.what i e)

-- scopes are added behind those that there are
pub made_grows : (f : Bool) (b : Block) (i : Inside) (e : Emitting) → Prefix e.scopes (made_in f b i e).scopes
made_grows true b i e = expand_in_grows b i e
made_grows false b i e = record { more = scopes_in b i.homes; is = ap Emitting.scopes (straight_in_is b i e) }

-- ---- blocks

-- a phrase
pub made_phrase : (f : Bool) (b : Block) (i : Inside) (e : Emitting) → made f (phrase b) i e ≡ made_in f b i e
made_phrase true b i e = refl
made_phrase false b i e = sym (straight_in_is b i e)

-- a channel
pub made_channel : (f : Bool) (n : ℕ) (b : Block) (i : Inside) (e : Emitting)
    → made f (channel n b) i e ≡ made_in f b (record i { channel = n }) e
made_channel true n b i e = refl
made_channel false n b i e = sym (straight_in_is b (record i { channel = n }) e)

-- a list of one entry
pub made_steady : (f : Bool) (q : Quality) (v : ℕ) (b : Block) (i : Inside) (e : Emitting)
    → made f (steady q v b) i e ≡ made_in f b (at_home (list_of_one q v) i) e
made_steady true q v b i e = refl
made_steady false q v b i e = sym (straight_in_is b (at_home (list_of_one q v) i) e)

-- operations between an opening and a closing one
between : (x y : Op) (b : Block) (i : Inside) (e : Emitting)
    → with_scopes (scopes_in b i.homes)
    (with_ops (x ∷ (emit_in b i (length e.current.ops + 1) (length e.scopes) ++ y ∷ [])) e)
    ≡ with_ops (y ∷ []) (straight_in b i (with_ops (x ∷ []) e))
between x y b i e =
    let ops = e.current.ops in
    let behind : length (ops ++ x ∷ []) ≡ length ops + 1 = length-append ops (x ∷ []) in
    let inner = emit_in b i (length ops + 1) (length e.scopes) in
    sym (ap (with_ops (y ∷ [])) (straight_in_is b i (with_ops (x ∷ []) e))
    ∙ ap (λ p. rebuilt e (((ops ++ x ∷ []) ++ emit_in b i p (length e.scopes)) ++ y ∷ []) (e.scopes ++ scopes_in b i.homes)) behind
    ∙ ap (λ l. rebuilt e l (e.scopes ++ scopes_in b i.homes))
    (append_assoc (ops ++ x ∷ []) inner (y ∷ []) ∙ append_assoc ops (x ∷ []) (inner ++ y ∷ [])))

-- a deformation
pub made_warp : (f : Bool) (n : ℕ) (b : Block) (i : Inside) (e : Emitting) → made f (warp n b) i e
    ≡ with_ops (op.Leave ∷ []) (made_in f b (in_warp n i) (with_ops (op.Enter n ∷ []) e))
made_warp true n b i e = refl
made_warp false n b i e = between (op.Enter n) op.Leave b (in_warp n i) e

-- a list
pub made_under : (f : Bool) (q : Quality) (l : ℕ) (b : Block) (i : Inside) (e : Emitting) → made f (under q l b) i e
    ≡ with_ops (op.Close ∷ []) (made_in f b (at_home (list_frame q l) i) (with_ops (op.Begin l ∷ []) e))
made_under true q l b i e = refl
made_under false q l b i e = between (op.Begin l) op.Close b (at_home (list_frame q l) i) e

-- ---- targets that are filled in behind

-- a loop in a frame
pub made_loop : (c : Count) (b : Block) (i : Inside) (e : Emitting)
    → patched (length e.current.ops) (op.Loop c i.scope (length e.current.ops + size_in b + 2))
    (with_ops (op.Again (length e.current.ops + 1) ∷ [])
    (straight_in b (in_scope loop_frame (length e.scopes) i)
    (with_scopes (slots_of (loop_frame ∷ i.homes) ∷ []) (with_ops (op.Loop c i.scope 0 ∷ []) e))))
    ≡ straight (loop c b) i e
made_loop c b i e =
    let ops = e.current.ops in
    let first = op.Loop c i.scope 0 in
    let past = op.Loop c i.scope (length ops + size_in b + 2) in
    let again = op.Again (length ops + 1) in
    let inside = in_scope loop_frame (length e.scopes) i in
    let slots = slots_of (loop_frame ∷ i.homes) in
    let e1 = with_scopes (slots ∷ []) (with_ops (first ∷ []) e) in
    let behind : length (ops ++ first ∷ []) ≡ length ops + 1 = length-append ops (first ∷ []) in
    let later : length (e.scopes ++ slots ∷ []) ≡ length e.scopes + 1 = length-append e.scopes (slots ∷ []) in
    let inner = emit_in b inside (length ops + 1) (length e.scopes + 1) in
    ap (λ x. patched (length ops) past (with_ops (again ∷ []) x)) (straight_in_is b inside e1)
    ∙ ap₂ (λ p s. rebuilt e (slice_set (((ops ++ first ∷ []) ++ emit_in b inside p s) ++ again ∷ []) (length ops) past)
    ((e.scopes ++ slots ∷ []) ++ scopes_in b inside.homes)) behind later
    ∙ ap₂ (λ l s. rebuilt e (slice_set l (length ops) past) s)
    (append_assoc (ops ++ first ∷ []) inner (again ∷ []) ∙ append_assoc ops (first ∷ []) (inner ++ again ∷ []))
    (append_assoc e.scopes (slots ∷ []) (scopes_in b inside.homes))
    ∙ ap (λ l. rebuilt e l (e.scopes ++ slots ∷ scopes_in b inside.homes)) (set_seam ops (inner ++ again ∷ []) first past)

-- a choice
pub made_choice : (expr : ℕ) (one two : Block) (i : Inside) (e : Emitting)
    → patched (length e.current.ops) (op.Test expr i.scope (length e.current.ops + size_in one + 2))
    (patched (length e.current.ops + 1 + size_in one) (op.Jump (length e.current.ops + size_in one + 2 + size_in two))
    (straight_in two i (with_ops (op.Jump 0 ∷ []) (straight_in one i (with_ops (op.Test expr i.scope 0 ∷ []) e)))))
    ≡ straight (choice expr one two) i e
made_choice expr one two i e =
    let ops = e.current.ops in
    let n = length ops in
    let ss = e.scopes in
    let first = op.Test expr i.scope 0 in
    let middle = n + size_in one + 2 in
    let test = op.Test expr i.scope middle in
    let leap = op.Jump 0 in
    let jump = op.Jump (middle + size_in two) in
    let at_jump = n + 1 + size_in one in
    let e1 = with_ops (first ∷ []) e in
    let a = emit_in one i (n + 1) (length ss) in
    let front = (ops ++ first ∷ []) ++ a in
    let s1 = scopes_in one i.homes in
    let s2 = scopes_in two i.homes in
    let place1 : length (ops ++ first ∷ []) ≡ n + 1 = length-append ops (first ∷ []) in
    let e2_is : straight_in one i e1 ≡ rebuilt e front (ss ++ s1) =
    straight_in_is one i e1 ∙ ap (λ p. rebuilt e ((ops ++ first ∷ []) ++ emit_in one i p (length ss)) (ss ++ s1)) place1 in
    let long : length front ≡ at_jump =
    omega (arith, length-append (ops ++ first ∷ []) a, place1, emit_in_length one i (n + 1) (length ss)) in
    let e3 = rebuilt e (front ++ leap ∷ []) (ss ++ s1) in
    let place3 : length (front ++ leap ∷ []) ≡ middle = omega (arith, length-append front (leap ∷ []), long) in
    let b = emit_in two i middle (length ss + length s1) in
    let e4_is : straight_in two i e3 ≡ rebuilt e ((front ++ leap ∷ []) ++ b) ((ss ++ s1) ++ s2) =
    straight_in_is two i e3
    ∙ ap₂ (λ p s. rebuilt e ((front ++ leap ∷ []) ++ emit_in two i p s) ((ss ++ s1) ++ s2)) place3 (length-append ss s1) in
    let set_jump : slice_set ((front ++ leap ∷ []) ++ b) at_jump jump ≡ front ++ jump ∷ b =
    ap (λ l. slice_set l at_jump jump) (append_assoc front (leap ∷ []) b)
    ∙ ap (λ k. slice_set (front ++ leap ∷ b) k jump) (sym long) ∙ set_seam front b leap jump in
    let set_test : slice_set (front ++ jump ∷ b) n test ≡ ops ++ test ∷ (a ++ jump ∷ b) =
    ap (λ l. slice_set l n test) (append_assoc (ops ++ first ∷ []) a (jump ∷ b) ∙ append_assoc ops (first ∷ []) (a ++ jump ∷ b))
    ∙ set_seam ops (a ++ jump ∷ b) first test in
    ap (λ x. patched n test (patched at_jump jump (straight_in two i (with_ops (leap ∷ []) x)))) e2_is
    ∙ ap (λ x. patched n test (patched at_jump jump x)) e4_is
    ∙ ap (λ l. rebuilt e (slice_set l n test) ((ss ++ s1) ++ s2)) set_jump
    ∙ ap₂ (rebuilt e) set_test (append_assoc ss s1 s2)
