-- The programs of a score play what the score plays, by induction over statements, forks among them.
use Rattle.std.proofs.Common.{◌≡◌, ℕ, zero, suc, ◌+◌, ◌*◌, ◌<◌, ◌≤◌, Bool, true, false, List, [], ◌∷◌, ◌++◌, map, length, drop, refl, sym, ap, ap₂, ◌∙◌, subst, arith, append_assoc, append-nil, length-append, true≢false}
use Rattle.std.specs.Prelude.{Some, slice_get, slice_index_or, max, nat_le}
use Rattle.std.proofs.lemmas.Bool.{and_from, le-leb, lt-ltb, or_from}
use Rattle.fm_tick.specs.declared.tick.TheConstants.{MAX_TICK}
use Rattle.fm_warp.specs.declared.side.Side.TheVariants.{Onset}
use Rattle.fm_warp.specs.Deformation.{placed}
use Rattle.fm_line.specs.Marks.{Mark}
use Rattle.fm_nest.specs.declared.nest.TheConstants.{MAX_LEVELS}
use Rattle.fm_program.specs.declared.plan.TheConstants.{MAX_STEPS}
use Rattle.fm_program.specs.declared.op.Slot.{Slot}
use Rattle.fm_program.specs.declared.op.Op.{Op}
use Rattle.fm_program.specs.declared.op.Op.TheVariants as op
use Rattle.fm_program.specs.declared.op.Count.TheVariants as count
use Rattle.fm_program.specs.Parts.{ProgramParts}
use Rattle.fm_program.specs.Action.{action_of}
use Rattle.fm_program.specs.Action as action
use Rattle.fm_program.specs.Needs.{levels_hold}
use Rattle.fm_program.specs.State.{cycling, OpenLevel}
use Rattle.fm_meaning.specs.State.{looped, listed, restarted, Now, started}
use Rattle.fm_meaning.specs.Played.{Made, in_block, mark_of_end, rounds, plays, passage_plays, fork_plays}
use Rattle.fm_meaning.specs.Bounds.{repeated, bounds_of, bounds_in, bounds_beside}
use Rattle.fm_meaning.specs.Places.{Depths, in_one, in_loop, in_warp as deeper_warp, in_list, in_fork}
use Rattle.fm_promise.specs.Levels.{IsInTime, EachRound, LevelsOf, LevelsIn, LevelsAmong}
use Rattle.fm_expansion.specs.Outline.{Tables, stock_with, parts_in, list_in, rounds_of, Instruction, note, rest, send, assign, choice, loop, phrase, par, warp, channel, steady, under, Block, done, item, Arms, joined, arm, play_in, passage_in, fork_in}
use Rattle.fm_expansion.specs.Homes.{Home, loop_round, list_frame, list_of_one, slots_of, Inside, at_home, in_scope, in_warp}
use Rattle.fm_expansion.specs.Emission.{forks, forks_in, size, scopes_of, emit}
use Rattle.fm_expansion.specs.Expansion.{Emitting, with_ops, with_scopes, straight, begun, whole, unrolled, Joined, expand, expand_in, expand_arms}
use Rattle.fm_fidelity.proofs.Plain.{heard, heard_append, heard_through}
use Rattle.fm_fidelity.proofs.Running.{has_front, has_all, one_silent, become, begin_at, step_silent}
use Rattle.fm_fidelity.proofs.Keeping.{plays_same, plays_kept, passage_kept, block_kept}
use Rattle.fm_expansion.proofs.Frames.{frames_held, Held, held_alike, held_restarted}
use Rattle.fm_fidelity.proofs.Drawing.{at}
use Rattle.fm_fidelity.proofs.Fits.{HasArm, Fits, FitsIn, FitsBeside}
use Rattle.fm_fidelity.proofs.Rising.{levels_earlier, plays_rise, passage_rises, rounds_rise}
use Rattle.fm_fidelity.proofs.Steps.{steps_of, steps_bound}
use Rattle.fm_expansion.proofs.Settings.{HasScopes, Setting, in_block_more, on_channel, in_one_entry, in_list_more, in_round_more, in_level_more, holds_by}
use Rattle.fm_expansion.proofs.Lengths.{emit_length, forks_alike, forks_in_alike}
use Rattle.fm_fidelity.proofs.Atoms.{around, room}
use Rattle.fm_fidelity.proofs.Rounds.{list_front, one_front, written_front}
use Rattle.fm_fidelity.proofs.Straight.{emit_runs}
use Rattle.fm_expansion.proofs.Programs.{EndsAt, Named}
use Rattle.fm_expansion.proofs.Growing.{Prefix, prefix_then, has_scopes, unrolled_grows, expand_in_grows, expand_arms_grow}
use Rattle.fm_fidelity.proofs.Making.{code_of, perf, Good, good_by, good_at, good_scopes, extend, Closed, closed_by, finish, EndAll, ends_more, end_all_more, starts_there, HasOne, starts_all, waits_all, fresh_good}

-- one of two
pick : {A : Type 0} (P : A → Type 0) (b : Bool) (x y : A) → (b ≡ true → P x) → (b ≡ false → P y)
    → P (elim b as (λ _. A) [ true ↦ x | false ↦ y ])
pick P true x y first second = first refl
pick P false x y first second = second refl

module _ (t : Tables) (scopes : List (List Slot)) (seed longest : ℕ) where
  -- what is known behind a statement
  pub record Next (e f : Emitting) (now : Now) (hs : List Home) (ls : List OpenLevel)
      (heard_so_far : List Mark) (most : ℕ) : Type 0 where
    pub good : Good t scopes seed f now hs ls heard_so_far most
    pub grows : (more : List ProgramParts) × (f.finished ≡ e.finished ++ more)

  -- one behind the other
  next_then : (e f g : Emitting) (now new : Now) (hs : List Home) (ls : List OpenLevel)
      (heard_so_far ts : List Mark) (m n : ℕ)
      → Next e f now hs ls heard_so_far m → Next f g new hs ls ts n → Next e g new hs ls ts n
  next_then e f g now new hs ls heard_so_far ts m n a b = record {
    good = b.good;
    grows = (
      a.grows.0 ++ b.grows.0,
      b.grows.1 ∙ ap (λ l. l ++ b.grows.0) a.grows.1
          ∙ append_assoc e.finished a.grows.0 b.grows.0,
    );
  }

  -- said otherwise
  next_by : (e f : Emitting) (now : Now) (hs : List Home) (ls : List OpenLevel)
      (heard_so_far ts : List Mark) (m n : ℕ) → heard_so_far ≡ ts → m ≤ n
      → Next e f now hs ls heard_so_far m → Next e f now hs ls ts n
  next_by e f now hs ls heard_so_far ts m n same more a =
      record {
        good = good_by t scopes seed f now hs ls heard_so_far ts m n same more a.good;
        grows = a.grows;
      }

  -- ---- a statement that does not fork

  -- its operations at the end of the program that grows
  straight_good : (x : Instruction) (d : Depths) (i : Inside) (ls : List OpenLevel) (e : Emitting)
      (now : Now) (heard_so_far : List Mark) (m : ℕ)
      → Fits d (play_in t x) → forks x ≡ false → Setting scopes d i ls → Held t i.homes [] now.blocks
      → LevelsOf IsInTime (play_in t x) (around seed i) now
      → levels_hold ls (plays (play_in t x) (around seed i) now).after.position ≡ true
      → Prefix (straight x i e).scopes scopes → Good t scopes seed e now i.homes ls heard_so_far m
      → Next e (straight x i e) (plays (play_in t x) (around seed i) now).after i.homes ls
      (heard_so_far ++ heard ls (plays (play_in t x) (around seed i) now).marks)
      (m + (bounds_of longest (play_in t x)).steps)
  straight_good x d i ls e now heard_so_far m fits alone setting held levels high pre g =
      let stock = stock_with t scopes in
      let hs = i.homes in
      let a = around seed i in
      let p = play_in t x in
      let o = plays p a now in
      let ops0 = e.current.ops in
      let operation = length ops0 in
      let ops = emit x i operation (length e.scopes) in
      let new = scopes_of x hs in
      let same = plays_same p a now (forks_alike t x ∙ alone) in
      let scoped = subst (λ l. HasScopes l (length e.scopes) new) (sym pre.is)
      (has_scopes new e.scopes pre.more) in
      let long : operation + size x ≡ length (ops0 ++ ops) = omega
      (arith, length-append ops0 ops, emit_length x i operation (length e.scopes)) in
      let few : m + steps_of p a now ≤ m + (bounds_of longest p).steps = omega
      (arith, steps_bound longest p a now (forks_alike t x ∙ alone)) in
      record {
        good = good_scopes t scopes seed new (with_ops ops e) o.after hs ls
            (heard_so_far ++ heard ls o.marks) (m + (bounds_of longest p).steps)
            (extend t scopes seed e now o.after hs hs ls ls heard_so_far (heard ls o.marks) ops
            (steps_of p a now) m (m + (bounds_of longest p).steps)
            same.process same.births few g
            (λ more. become (code_of t scopes seed (ops0 ++ (ops ++ more))) _ _ _ _ _ _ _ refl refl
            (ap (λ k. at k o.after ls (frames_held hs [] o.after.blocks)) long)
            (emit_runs t scopes (code_of t scopes seed (ops0 ++ (ops ++ more))) seed x d i operation
            (length e.scopes) now ls [] fits alone setting held
            levels high (has_front stock (code_of t scopes seed (ops0 ++ (ops ++ more))) operation ops more
            (has_all stock (ops ++ more) ops0))
            scoped)));
        grows = ([], sym (append-nil e.finished));
      }

  -- ---- loops that are written out

  -- so many rounds
  unrolled_good : (hs : List Home) (ls : List OpenLevel) (cost : ℕ) (inside : Now → Made) (round : ℕ
      → Emitting → Emitting)
      (Q : ℕ → Now → Type 0)
      → ((j : ℕ) (e : Emitting) (k : ℕ) → Prefix e.scopes (unrolled round k j e).scopes)
      → ((m : Now) → map restarted (inside m).after.blocks ≡ map restarted m.blocks)
      → ((m : Now) → m.position ≤ (inside m).after.position)
      → ((j : ℕ) (e : Emitting) (now : Now) (heard_so_far : List Mark) (m : ℕ)
      → Good t scopes seed e now hs ls heard_so_far m → Held t hs [] now.blocks
      → Q j now → levels_hold ls (in_block (looped j) inside now).after.position ≡ true
      → Prefix (round j e).scopes scopes
      → m + cost ≤ MAX_STEPS
      → Next e (round j e) (in_block (looped j) inside now).after hs ls
      (heard_so_far ++ heard ls (in_block (looped j) inside now).marks) (m + cost))
      → (k j : ℕ) (e : Emitting) (now : Now) (heard_so_far : List Mark) (m : ℕ)
      → Good t scopes seed e now hs ls heard_so_far m → Held t hs [] now.blocks
      → EachRound Q (λ i. in_block (looped i) inside) k j now
      → levels_hold ls (rounds (λ i. in_block (looped i) inside) k j now).after.position ≡ true
      → Prefix (unrolled round k j e).scopes scopes → m + k * cost ≤ MAX_STEPS
      → Next e (unrolled round k j e) (rounds (λ i. in_block (looped i) inside) k j now).after hs ls
      (heard_so_far ++ heard ls (rounds (λ i. in_block (looped i) inside) k j now).marks) (m + k * cost)
  unrolled_good hs ls cost inside round Q grows kept rise each zero j e now heard_so_far m g held levels
      high pre small =
      record {
        good = good_by t scopes seed e now hs ls heard_so_far (heard_so_far ++ []) m (m + 0 * cost)
            (sym (append-nil heard_so_far)) (omega arith) g;
        grows = ([], sym (append-nil e.finished));
      }
  unrolled_good hs ls cost inside round Q grows kept rise each (suc k) j e now heard_so_far m g held
      levels high pre small =
      let body : ℕ → Now → Made = λ i. in_block (looped i) inside in
      let o = body j now in
      let others = rounds body k (j + 1) o.after in
      let f = round j e in
      let soon = levels_earlier ls o.after.position others.after.position
      (rounds_rise body k (j + 1) o.after (λ i n. rise (record n { blocks = looped i ∷ n.blocks })))
      high in
      let first = each j e now heard_so_far m g held levels.0 soon
      (prefix_then f.scopes (unrolled round k (j + 1) f).scopes scopes (grows (j + 1) f k) pre)
      (omega (arith, small)) in
      let held1 = held_alike t hs [] now.blocks o.after.blocks (block_kept (looped j) inside now kept) held in
      let rest = unrolled_good hs ls cost inside round Q grows kept rise each k (j + 1) f o.after
      (heard_so_far ++ heard ls o.marks) (m + cost)
      first.good held1 levels.1 high pre (omega (arith, small)) in
      next_by e (unrolled round k (j + 1) f) others.after hs ls
      ((heard_so_far ++ heard ls o.marks) ++ heard ls others.marks)
      (heard_so_far ++ heard ls (o.marks ++ others.marks)) (m + cost + k * cost) (m + suc k * cost)
      (append_assoc heard_so_far (heard ls o.marks) (heard ls others.marks)
      ∙ ap (λ l. heard_so_far ++ l) (sym (heard_append ls o.marks others.marks)))
      (omega arith)
      (next_then e f (unrolled round k (j + 1) f) o.after others.after hs ls
      (heard_so_far ++ heard ls o.marks) _ (m + cost) _ first rest)

  -- the scope of a round stands in the table
  own_scope : (s : List Slot) (ss : List (List Slot)) → Prefix (ss ++ s ∷ []) scopes
      → slice_index_or scopes (length ss) [] ≡ s
  own_scope s ss pre = (subst (λ l. HasScopes l (length ss) (s ∷ [])) (sym pre.is)
      (has_scopes (s ∷ []) ss pre.more)).0

  -- ---- one operation more

  -- an operation at the end of the program that grows
  one_op : (e : Emitting) (o : Op) (more : List Op)
      → slice_get (code_of t scopes seed (e.current.ops ++ (o ∷ [] ++ more))) (length e.current.ops)
      ≡ Some (action_of (stock_with t scopes) o)
  one_op e o more = (has_all (stock_with t scopes) (o ∷ more) e.current.ops).0

  -- behind it the program is one longer
  one_longer : (e : Emitting) (o : Op) → length e.current.ops + 1 ≡ length (e.current.ops ++ o ∷ [])
  one_longer e o = omega (arith, length-append e.current.ops (o ∷ []))

  -- ---- branches

  -- what is known behind branches
  pub record Joins (ps : List ProgramParts) (j : Joined) (births : List (List ℕ)) (lasts : List ℕ)
      (end : ℕ) (ls : List OpenLevel)
      (heard_so_far : List Mark) (most : ℕ) : Type 0 where
    pub closed : Closed t scopes seed j.programs births heard_so_far most
    pub lasts_are : j.lasts ≡ lasts
    pub ends : EndAll t scopes seed j.programs j.lasts ls end
    pub grows : (more : List ProgramParts) × (j.programs ≡ ps ++ more)

  -- a fork with a branch has a last process
  lasts_some : (arms : Arms) (i : Inside) (k : ℕ) (ps : List ProgramParts) (ss : List (List Slot))
      → HasArm (fork_in t arms)
      → HasOne t scopes seed (expand_arms arms i k ps ss).lasts
  lasts_some joined i k ps ss some = absurd some
  lasts_some (arm body arms) i k ps ss some = tt

  mutual
    -- a statement
    pub expand_good : (x : Instruction) (d : Depths) (i : Inside) (ls : List OpenLevel) (e : Emitting)
        (now : Now) (heard_so_far : List Mark) (m : ℕ)
        → Fits d (play_in t x) → Setting scopes d i ls → Named t ls → Held t i.homes [] now.blocks
        → LevelsOf IsInTime (play_in t x) (around seed i) now
        → levels_hold ls (plays (play_in t x) (around seed i) now).after.position ≡ true
        → Prefix (expand x i e).scopes scopes → m + (bounds_of longest (play_in t x)).steps ≤ MAX_STEPS
        → Good t scopes seed e now i.homes ls heard_so_far m
        → Next e (expand x i e) (plays (play_in t x) (around seed i) now).after i.homes ls
        (heard_so_far ++ heard ls (plays (play_in t x) (around seed i) now).marks)
        (m + (bounds_of longest (play_in t x)).steps)
    expand_good (note chord lasting) d i ls e now heard_so_far m fits setting named held levels high pre
        small g =
        straight_good (note chord lasting) d i ls e now heard_so_far m fits refl setting held levels
        high pre g
    expand_good (rest lasting) d i ls e now heard_so_far m fits setting named held levels high pre small g =
        straight_good (rest lasting) d i ls e now heard_so_far m fits refl setting held levels high pre g
    expand_good (send point draw) d i ls e now heard_so_far m fits setting named held levels high pre
        small g =
        straight_good (send point draw) d i ls e now heard_so_far m fits refl setting held levels high pre g
    expand_good (assign register expr) d i ls e now heard_so_far m fits setting named held levels high
        pre small g =
        straight_good (assign register expr) d i ls e now heard_so_far m fits refl setting held levels
        high pre g
    expand_good (choice expr first second) d i ls e now heard_so_far m fits setting named held levels
        high pre small g =
        straight_good (choice expr first second) d i ls e now heard_so_far m fits
        (or_from (forks_in first) (forks_in second) (sym (forks_in_alike t first) ∙ fits.1)
        (sym (forks_in_alike t second) ∙ fits.2))
        setting held levels high pre g
    expand_good (loop (count.Drawn expr most) body) d i ls e now heard_so_far m fits setting named held
        levels high pre small g =
        let x = loop (count.Drawn expr most) body in
        let o = plays (play_in t x) (around seed i) now in
        let alone = sym (forks_in_alike t body) ∙ fits.1 in
        pick (λ f. Prefix f.scopes scopes → Next e f o.after i.homes ls
        (heard_so_far ++ heard ls o.marks) (m + (bounds_of longest (play_in t x)).steps))
        (forks_in body) _ (straight x i e) (λ is. absurd (true≢false (sym is ∙ alone)))
        (λ _ own. straight_good x d i ls e now heard_so_far m fits alone setting held levels high own g) pre
    expand_good (loop (count.Fixed k) body) d i ls e now heard_so_far m fits setting named held levels
        high pre small g =
        let hs = i.homes in
        let a = around seed i in
        let p = passage_in t body in
        let x = loop (count.Fixed k) body in
        let o = plays (play_in t x) a now in
        let b = bounds_in longest p in
        let round : ℕ → Emitting → Emitting = λ j f. expand_in body
        (in_scope (loop_round j) (length f.scopes) i)
        (with_scopes (slots_of (loop_round j ∷ hs) ∷ []) f) in
        let grow : (j : ℕ) (f : Emitting) → Prefix f.scopes (round j f).scopes = λ j f.
        prefix_then f.scopes (f.scopes ++ slots_of (loop_round j ∷ hs) ∷ []) (round j f).scopes
        (record { more = slots_of (loop_round j ∷ hs) ∷ []; is = refl })
        (expand_in_grows body (in_scope (loop_round j) (length f.scopes) i)
        (with_scopes (slots_of (loop_round j ∷ hs) ∷ []) f)) in
        let is_written : forks_in body ≡ true → (bounds_of longest (play_in t x)).steps ≡ k * b.steps =
        λ is. ap (λ c. (repeated c k b).steps) (forks_in_alike t body ∙ is) in
        pick (λ f. Prefix f.scopes scopes → Next e f o.after i.homes ls
        (heard_so_far ++ heard ls o.marks) (m + (bounds_of longest (play_in t x)).steps))
        (forks_in body) (unrolled round k 0 e) (straight x i e)
        (λ is own. next_by e (unrolled round k 0 e) o.after hs ls (heard_so_far ++ heard ls o.marks)
        (heard_so_far ++ heard ls o.marks) (m + k * b.steps)
        (m + (bounds_of longest (play_in t x)).steps) refl (omega (arith, is_written is))
        (unrolled_good hs ls b.steps (passage_plays p a) round
        (λ j n. LevelsIn IsInTime p a (record n { blocks = looped j ∷ n.blocks }))
        (λ j f c. unrolled_grows round grow c j f)
        (λ n. passage_kept p a n)
        (λ n. passage_rises (in_loop (rounds_of t (count.Fixed k)) d) p a n fits.3)
        (λ j f n ts c good own_held level top own_pre few.
        (let inside = in_scope (loop_round j) (length f.scopes) i in
        let f1 = with_scopes (slots_of (loop_round j ∷ hs) ∷ []) f in
        let n1 : Now = record n { blocks = looped j ∷ n.blocks } in
        let q = passage_plays p a n1 in
        let held1 : Held t (loop_round j ∷ hs) [] n1.blocks = (refl, own_held) in
        let held2 = held_alike t (loop_round j ∷ hs) [] n1.blocks q.after.blocks (passage_kept p a n1)
        held1 in
        let scope = own_scope (slots_of (loop_round j ∷ hs)) f.scopes
        (prefix_then f1.scopes (round j f).scopes scopes (expand_in_grows body inside f1) own_pre) in
        let r = expand_in_good body (in_loop (rounds_of t (count.Fixed k)) d) inside ls f1 n1 ts c fits.3
        (in_round_more scopes d i ls (rounds_of t (count.Fixed k)) j (length f.scopes) fits.2 scope
        setting) named held1 level top own_pre few
        (good_at t scopes seed f1 n n1 hs (loop_round j ∷ hs) ls ts c refl refl refl
        (good_scopes t scopes seed (slots_of (loop_round j ∷ hs) ∷ []) f n hs ls ts c good)) in
        record {
          good = good_at t scopes seed (round j f) q.after
              (record q.after { blocks = drop 1 q.after.blocks }) (loop_round j ∷ hs) hs ls
              (ts ++ heard ls q.marks) (c + b.steps) refl refl
              (ap (λ fs. at (length (round j f).current.ops) q.after ls fs)
              (written_front t j hs [] q.after.blocks held2)) r.good;
          grows = r.grows;
        }))
        k 0 e now heard_so_far m g held levels high own (omega (arith, small, is_written is))))
        (λ is own. straight_good x d i ls e now heard_so_far m fits is setting held levels high own g) pre
    expand_good (phrase body) d i ls e now heard_so_far m fits setting named held levels high pre small g =
        let o = plays (play_in t (phrase body)) (around seed i) now in
        let b = bounds_in longest (passage_in t body) in
        next_by e (expand_in body i e) o.after i.homes ls (heard_so_far ++ heard ls o.marks)
        (heard_so_far ++ heard ls o.marks) (m + b.steps)
        (m + (0 + b.steps)) refl (omega arith)
        (expand_in_good body (in_one d) i ls e now heard_so_far m fits
        (in_block_more scopes d i ls setting) named held levels
        high pre (omega (arith, small)) g)
    expand_good (par all) d i ls e now heard_so_far m fits setting named held levels high pre small g =
        let hs = i.homes in
        let a = around seed i in
        let parent = length e.finished in
        let f = fork_plays (fork_in t all) a now now.births in
        let j = expand_arms all i parent (whole e) e.scopes in
        let b = bounds_beside longest (fork_in t all) in
        let soon = levels_earlier ls now.position f.end (plays_rise d (play_in t (par all)) a now fits)
        high in
        let fin = finish t scopes seed e now hs ls heard_so_far m (omega (arith, small)) g in
        let below : parent < length (whole e) = omega (arith, length-append e.finished (e.current ∷ [])) in
        let alone : now.position ≡ max now.position 0 = omega arith in
        let tr1 = heard_so_far ++ heard ls (mark_of_end now ∷ []) in
        let joins = expand_arms_good all (in_fork d) i ls (whole e) e.scopes parent now now.births tr1 m
        fits.1
        (in_block_more scopes (in_one d) i ls (in_block_more scopes d i ls setting)) named held
        levels high g.number
        (now.position, 0, below, fin.ends, refl, alone) fin.closed pre (omega (arith, small)) in
        let m1 = m + b.steps in
        let later = fresh_good t scopes seed j.programs j.lasts i f.end now.blocks f.births ls
        (tr1 ++ heard ls f.marks) m1 j.scopes setting.warps
        named held joins.closed
        (starts_all t scopes seed j.programs j.lasts ls f.end
        (lasts_some all i parent (whole e) e.scopes fits.0) joins.ends)
        (waits_all t scopes seed j.programs j.lasts ls f.end joins.ends) in
        let e1 : Emitting = record { finished = j.programs; current = begun i j.lasts; scopes = j.scopes } in
        record {
          good = good_by t scopes seed e1 (started a f.lasts f.end now.blocks f.births) hs ls
              (tr1 ++ heard ls f.marks) _ m1 m1
              (append_assoc heard_so_far (heard ls (mark_of_end now ∷ [])) (heard ls f.marks)) (omega arith)
              (subst (λ l. Good t scopes seed e1 (started a l f.end now.blocks f.births) hs ls
              (tr1 ++ heard ls f.marks) m1) joins.lasts_are later);
          grows = (
            e.current ∷ joins.grows.0,
            joins.grows.1
                ∙ append_assoc e.finished (e.current ∷ []) joins.grows.0,
          );
        }
    expand_good (warp number body) d i ls e now heard_so_far m fits setting named held levels high pre
        small g =
        let hs = i.homes in
        let a = around seed i in
        let p = passage_in t body in
        let parts = parts_in t number in
        let l : OpenLevel = record { warp = number; parts = parts; origin = now.position } in
        let start : Now = record now { position = 0 } in
        let o = passage_plays p a start in
        let out = plays (play_in t (warp number body)) a now in
        let b = bounds_in longest p in
        let inside = in_warp number i in
        let deep = in_level_more scopes d i ls l fits.0 setting in
        let flat : length (l ∷ ls) ≤ MAX_LEVELS = omega (arith, deep.levels, deep.flat) in
        let top = and_from (nat_le o.after.position MAX_TICK)
        (levels_hold ls (placed Onset now.position parts o.after.position))
        (le-leb o.after.position MAX_TICK levels.0.position) high in
        let held1 = held_alike t hs [] now.blocks o.after.blocks (passage_kept p a start) held in
        let e1 = with_ops (op.Enter number ∷ []) e in
        let operation = length e.current.ops in
        let fs = frames_held hs [] now.blocks in
        let entered = at (operation + 1) start (l ∷ ls) fs in
        let fits0 = room t scopes (code_of t scopes seed []) d i ls [] now setting held in
        let fits1 = room t scopes (code_of t scopes seed []) d i ls [] o.after setting held1 in
        let g1 = extend t scopes seed e now start hs hs ls (l ∷ ls) heard_so_far []
        (op.Enter number ∷ []) 1 m (m + 1) refl refl (omega arith) g
        (λ more. become (code_of t scopes seed (e.current.ops ++ (op.Enter number ∷ [] ++ more))) _
        _ _ _ _ _ _ refl refl
        (ap (λ k. at k start (l ∷ ls) fs) (one_longer e (op.Enter number)))
        (one_silent (code_of t scopes seed (e.current.ops ++ (op.Enter number ∷ [] ++ more)))
        (at operation now ls fs) entered
        (step_silent (code_of t scopes seed (e.current.ops ++ (op.Enter number ∷ [] ++ more)))
        (at operation now ls fs) entered (action.enter number parts) refl
        (one_op e (op.Enter number) more) refl refl
        (holds_by entered fits0.0 flat (levels_earlier (l ∷ ls) 0 o.after.position (omega arith)
        top))))) in
        let r = expand_in_good body (deeper_warp d) inside (l ∷ ls) e1 start (heard_so_far ++ [])
        (m + 1) fits.1 deep (refl, named) held levels.1 top pre
        (omega (arith, small)) g1 in
        let e2 = expand_in body inside e1 in
        let gs = frames_held hs [] o.after.blocks in
        let inner = at (length e2.current.ops) o.after (l ∷ ls) gs in
        let outer = at (length e2.current.ops + 1) out.after ls gs in
        let g2 = extend t scopes seed e2 o.after out.after hs hs (l ∷ ls) ls
        ((heard_so_far ++ []) ++ heard (l ∷ ls) o.marks) [] (op.Leave ∷ []) 1
        (m + 1 + b.steps) (m + (2 + b.steps)) refl refl (omega arith) r.good
        (λ more. become (code_of t scopes seed (e2.current.ops ++ (op.Leave ∷ [] ++ more))) _ _ _ _
        _ _ _ refl refl
        (ap (λ k. at k out.after ls gs) (one_longer e2 op.Leave))
        (one_silent (code_of t scopes seed (e2.current.ops ++ (op.Leave ∷ [] ++ more))) inner outer
        (step_silent (code_of t scopes seed (e2.current.ops ++ (op.Leave ∷ [] ++ more))) inner outer
        action.leave refl
        (one_op e2 op.Leave more) (lt-ltb 0 (length (l ∷ ls)) (omega arith)) refl
        (holds_by outer fits1.0 fits1.1 high)))) in
        next_by e (with_ops (op.Leave ∷ []) e2) out.after hs ls
        (((heard_so_far ++ []) ++ heard (l ∷ ls) o.marks) ++ []) (heard_so_far ++ heard ls out.marks)
        (m + (2 + b.steps)) (m + (2 + b.steps))
        (append-nil ((heard_so_far ++ []) ++ heard (l ∷ ls) o.marks)
        ∙ ap₂ (λ x y. x ++ y) (append-nil heard_so_far) (heard_through l ls o.marks)) (omega arith)
        (record { good = g2; grows = r.grows })
    expand_good (channel number body) d i ls e now heard_so_far m fits setting named held levels high
        pre small g =
        let o = plays (play_in t (channel number body)) (around seed i) now in
        let b = bounds_in longest (passage_in t body) in
        next_by e (expand_in body (record i { channel = number }) e) o.after i.homes ls
        (heard_so_far ++ heard ls o.marks) (heard_so_far ++ heard ls o.marks)
        (m + b.steps) (m + (0 + b.steps)) refl (omega arith)
        (expand_in_good body (in_one d) (record i { channel = number }) ls e now heard_so_far m fits.1
        (on_channel scopes d i ls number fits.0 setting) named
        held levels high pre (omega (arith, small)) g)
    expand_good (steady quality entry body) d i ls e now heard_so_far m fits setting named held levels
        high pre small g =
        let hs = i.homes in
        let a = around seed i in
        let p = passage_in t body in
        let block = listed quality (entry ∷ []) 0 in
        let start : Now = record now { blocks = block ∷ now.blocks } in
        let o = passage_plays p a start in
        let out = plays (play_in t (steady quality entry body)) a now in
        let inside = at_home (list_of_one quality entry) i in
        let held0 : Held t (list_of_one quality entry ∷ hs) [] start.blocks = (refl, refl, held) in
        let held1 = held_alike t (list_of_one quality entry ∷ hs) [] start.blocks o.after.blocks
        (passage_kept p a start) held0 in
        let b = bounds_in longest p in
        let r = expand_in_good body (in_one d) inside ls e start heard_so_far m fits.1
        (in_one_entry scopes d i ls quality entry setting) named held0 levels high
        pre (omega (arith, small)) (good_at t scopes seed e now start hs
        (list_of_one quality entry ∷ hs) ls heard_so_far m refl refl refl g) in
        let e2 = expand_in body inside e in
        next_by e e2 out.after hs ls (heard_so_far ++ heard ls o.marks)
        (heard_so_far ++ heard ls o.marks) (m + b.steps) (m + (0 + b.steps)) refl (omega arith)
        (record {
          good = good_at t scopes seed e2 o.after out.after (list_of_one quality entry ∷ hs) hs ls
              (heard_so_far ++ heard ls o.marks) (m + b.steps) refl refl
              (ap (λ fs. at (length e2.current.ops) o.after ls fs)
              (one_front t quality entry hs [] o.after.blocks held1)) r.good;
          grows = r.grows;
        })
    expand_good (under quality list body) d i ls e now heard_so_far m fits setting named held levels
        high pre small g =
        let hs = i.homes in
        let a = around seed i in
        let p = passage_in t body in
        let entries = list_in t list in
        let start : Now = record now { blocks = listed quality entries 0 ∷ now.blocks } in
        let o = passage_plays p a start in
        let out = plays (play_in t (under quality list body)) a now in
        let b = bounds_in longest p in
        let inside = at_home (list_frame quality list) i in
        let held0 : Held t (list_frame quality list ∷ hs) [] start.blocks = (refl, refl, fits.1, held) in
        let held1 = held_alike t (list_frame quality list ∷ hs) [] start.blocks o.after.blocks
        (passage_kept p a start) held0 in
        let held2 = held_alike t hs [] now.blocks out.after.blocks
        (plays_kept (play_in t (under quality list body)) a now) held in
        let set = in_list_more scopes d i ls quality list fits.2 setting in
        let small0 = room t scopes (code_of t scopes seed []) (in_list quality d) inside ls [] start set
        held0 in
        let small2 = room t scopes (code_of t scopes seed []) d i ls [] out.after setting held2 in
        let e1 = with_ops (op.Begin list ∷ []) e in
        let operation = length e.current.ops in
        let fs = frames_held hs [] now.blocks in
        let opened = at (operation + 1) start ls (cycling entries 0 ∷ fs) in
        let soon = levels_earlier ls now.position out.after.position
        (plays_rise d (play_in t (under quality list body)) a now fits) high in
        let g1 = extend t scopes seed e now start hs (list_frame quality list ∷ hs) ls ls heard_so_far
        [] (op.Begin list ∷ []) 1 m (m + 1) refl refl (omega arith) g
        (λ more. become (code_of t scopes seed (e.current.ops ++ (op.Begin list ∷ [] ++ more))) _ _
        _ _ _ _ _ refl refl
        (ap (λ k. at k start ls (cycling entries 0 ∷ fs)) (one_longer e (op.Begin list)))
        (one_silent (code_of t scopes seed (e.current.ops ++ (op.Begin list ∷ [] ++ more)))
        (at operation now ls fs) opened
        (step_silent (code_of t scopes seed (e.current.ops ++ (op.Begin list ∷ [] ++ more)))
        (at operation now ls fs) opened (action.begin entries) refl
        (one_op e (op.Begin list) more) refl refl (holds_by opened small0.0 small0.1 soon)))) in
        let r = expand_in_good body (in_list quality d) inside ls e1 start (heard_so_far ++ []) (m + 1)
        fits.3 set named held0 levels high pre
        (omega (arith, small)) g1 in
        let e2 = expand_in body inside e1 in
        let gs = frames_held hs [] out.after.blocks in
        let front = list_front t quality list hs [] o.after.blocks held1 in
        let inner = at (length e2.current.ops) o.after ls (front.frame ∷ gs) in
        let outer = at (length e2.current.ops + 1) out.after ls gs in
        let g2 = extend t scopes seed e2 o.after out.after (list_frame quality list ∷ hs) hs ls ls
        ((heard_so_far ++ []) ++ heard ls o.marks) [] (op.Close ∷ []) 1
        (m + 1 + b.steps) (m + (2 + b.steps)) refl refl (omega arith) r.good
        (λ more. begin_at (code_of t scopes seed (e2.current.ops ++ (op.Close ∷ [] ++ more))) _
        inner _ 1 []
        (ap (λ k. at (length e2.current.ops) o.after ls k) front.is)
        (become (code_of t scopes seed (e2.current.ops ++ (op.Close ∷ [] ++ more))) _ _ _ _ _ _ _
        refl refl
        (ap (λ k. at k out.after ls gs) (one_longer e2 op.Close))
        (one_silent (code_of t scopes seed (e2.current.ops ++ (op.Close ∷ [] ++ more))) inner outer
        (step_silent (code_of t scopes seed (e2.current.ops ++ (op.Close ∷ [] ++ more))) inner outer
        action.close refl
        (one_op e2 op.Close more) (lt-ltb 0 (length (front.frame ∷ gs)) (omega arith)) refl
        (holds_by outer small2.0 small2.1 high))))) in
        next_by e (with_ops (op.Close ∷ []) e2) out.after hs ls
        (((heard_so_far ++ []) ++ heard ls o.marks) ++ []) (heard_so_far ++ heard ls out.marks)
        (m + (2 + b.steps)) (m + (2 + b.steps))
        (append-nil ((heard_so_far ++ []) ++ heard ls o.marks)
        ∙ ap (λ x. x ++ heard ls o.marks) (append-nil heard_so_far)) (omega arith)
        (record { good = g2; grows = r.grows })

    -- statements in turn
    pub expand_in_good : (b : Block) (d : Depths) (i : Inside) (ls : List OpenLevel) (e : Emitting)
        (now : Now) (heard_so_far : List Mark) (m : ℕ)
        → FitsIn d (passage_in t b) → Setting scopes d i ls → Named t ls → Held t i.homes [] now.blocks
        → LevelsIn IsInTime (passage_in t b) (around seed i) now
        → levels_hold ls (passage_plays (passage_in t b) (around seed i) now).after.position ≡ true
        → Prefix (expand_in b i e).scopes scopes → m + (bounds_in longest (passage_in t b)).steps ≤ MAX_STEPS
        → Good t scopes seed e now i.homes ls heard_so_far m
        → Next e (expand_in b i e) (passage_plays (passage_in t b) (around seed i) now).after i.homes ls
        (heard_so_far ++ heard ls (passage_plays (passage_in t b) (around seed i) now).marks)
        (m + (bounds_in longest (passage_in t b)).steps)
    expand_in_good done d i ls e now heard_so_far m fits setting named held levels high pre small g = record {
      good = good_by t scopes seed e now i.homes ls heard_so_far (heard_so_far ++ []) m (m + 0)
          (sym (append-nil heard_so_far)) (omega arith) g;
      grows = ([], sym (append-nil e.finished));
    }
    expand_in_good (item spot x more) d i ls e now heard_so_far m fits setting named held levels high
        pre small g =
        let a = around seed i in
        let p = play_in t x in
        let q = passage_in t more in
        let o = plays p a now in
        let r = passage_plays q a o.after in
        let b = bounds_of longest p in
        let c = bounds_in longest q in
        let f = expand x i e in
        let held1 = held_alike t i.homes [] now.blocks o.after.blocks (plays_kept p a now) held in
        let soon = levels_earlier ls o.after.position r.after.position
        (passage_rises d q a o.after fits.1) high in
        let first = expand_good x d i ls e now heard_so_far m fits.0 setting named held levels.1 soon
        (prefix_then f.scopes (expand_in more i f).scopes scopes (expand_in_grows more i f) pre)
        (omega (arith, small)) g in
        let rest = expand_in_good more d i ls f o.after (heard_so_far ++ heard ls o.marks) (m + b.steps)
        fits.1 setting named held1 levels.2 high pre
        (omega (arith, small)) first.good in
        next_by e (expand_in more i f) r.after i.homes ls
        ((heard_so_far ++ heard ls o.marks) ++ heard ls r.marks)
        (heard_so_far ++ heard ls (o.marks ++ r.marks))
        (m + b.steps + c.steps) (m + (b.steps + c.steps))
        (append_assoc heard_so_far (heard ls o.marks) (heard ls r.marks)
        ∙ ap (λ l. heard_so_far ++ l) (sym (heard_append ls o.marks r.marks))) (omega arith)
        (next_then e f (expand_in more i f) o.after r.after i.homes ls
        (heard_so_far ++ heard ls o.marks) _ (m + b.steps) _ first rest)

    -- branches in turn
    pub expand_arms_good : (arms : Arms) (d : Depths) (i : Inside) (ls : List OpenLevel)
        (ps : List ProgramParts) (ss : List (List Slot))
        (parent : ℕ) (n : Now) (births : List (List ℕ)) (heard_so_far : List Mark) (m : ℕ)
        → FitsBeside d (fork_in t arms) → Setting scopes d i ls → Named t ls → Held t i.homes [] n.blocks
        → LevelsAmong IsInTime (fork_in t arms) (around seed i) n births
        → levels_hold ls (fork_plays (fork_in t arms) (around seed i) n births).end ≡ true
        → n.process ≡ parent → EndAll t scopes seed ps (parent ∷ []) ls n.position
        → Closed t scopes seed ps births heard_so_far m
        → Prefix (expand_arms arms i parent ps ss).scopes scopes
        → m + (bounds_beside longest (fork_in t arms)).steps ≤ MAX_STEPS
        → Joins ps (expand_arms arms i parent ps ss)
        (fork_plays (fork_in t arms) (around seed i) n births).births
        (fork_plays (fork_in t arms) (around seed i) n births).lasts
        (fork_plays (fork_in t arms) (around seed i) n births).end ls
        (heard_so_far ++ heard ls (fork_plays (fork_in t arms) (around seed i) n births).marks)
        (m + (bounds_beside longest (fork_in t arms)).steps)
    expand_arms_good joined d i ls ps ss parent n births heard_so_far m fits setting named held levels
        high is_parent ends c pre small = record {
          closed = closed_by t scopes seed ps births heard_so_far (heard_so_far ++ []) m (m + 0)
              (sym (append-nil heard_so_far)) (omega arith) c;
          lasts_are = refl;
          ends = refl;
          grows = ([], sym (append-nil ps));
        }
    expand_arms_good (arm body arms) d i ls ps ss parent n births heard_so_far m fits setting named held
        levels high is_parent ends c pre small =
        let hs = i.homes in
        let a = around seed i in
        let p = passage_in t body in
        let start = started a (n.process ∷ []) n.position n.blocks births in
        let o = passage_plays p a start in
        let others = fork_plays (fork_in t arms) a n o.after.births in
        let b = bounds_in longest p in
        let bs = bounds_beside longest (fork_in t arms) in
        let e0 : Emitting = record { finished = ps; current = begun i (parent ∷ []); scopes = ss } in
        let e1 = expand_in body i e0 in
        let j = expand_arms arms i parent (whole e1) e1.scopes in
        let waits = waits_all t scopes seed ps (parent ∷ []) ls n.position ends in
        let g0 = subst (λ k. Good t scopes seed e0 (started a (k ∷ []) n.position n.blocks births) hs ls
        heard_so_far m) (sym is_parent)
        (fresh_good t scopes seed ps (parent ∷ []) i n.position n.blocks births ls heard_so_far m ss
        setting.warps named held c
        (starts_there t scopes seed ps parent [] ls n.position ends) waits) in
        let soon = levels_earlier ls o.after.position (max o.after.position others.end) (omega arith) high in
        let last = levels_earlier ls others.end (max o.after.position others.end) (omega arith) high in
        let r = expand_in_good body d i ls e0 start heard_so_far m fits.0 setting named
        (held_restarted t hs [] n.blocks held) levels.0 soon
        (prefix_then e1.scopes j.scopes scopes (expand_arms_grow arms i parent (whole e1) e1.scopes)
        pre) (omega (arith, small)) g0 in
        let fin = finish t scopes seed e1 o.after hs ls (heard_so_far ++ heard ls o.marks) (m + b.steps)
        (omega (arith, small)) r.good in
        let tr1 = (heard_so_far ++ heard ls o.marks) ++ heard ls (mark_of_end o.after ∷ []) in
        let whole_is : whole e1 ≡ ps ++ (r.grows.0 ++ e1.current ∷ []) =
        ap (λ l. l ++ e1.current ∷ []) r.grows.1 ∙ append_assoc ps r.grows.0 (e1.current ∷ []) in
        let parent_ends = subst (λ qs. EndAll t scopes seed qs (parent ∷ []) ls n.position) (sym whole_is)
        (end_all_more t scopes seed ps (r.grows.0 ++ e1.current ∷ []) (parent ∷ []) ls n.position ends) in
        let more = expand_arms_good arms d i ls (whole e1) e1.scopes parent n o.after.births tr1
        (m + b.steps) fits.1 setting named held levels.1 last
        is_parent parent_ends fin.closed pre (omega (arith, small)) in
        let k = length e1.finished in
        let below : k < length (whole e1) = omega (arith, length-append e1.finished (e1.current ∷ [])) in
        let there = subst (λ qs. EndsAt (perf t scopes seed qs) k o.after.position ls) (sym more.grows.1)
        (ends_more t scopes seed (whole e1) more.grows.0 k o.after.position ls below fin.ends) in
        let within : k < length j.programs = omega
        (arith, below, ap length more.grows.1, length-append (whole e1) more.grows.0) in
        record {
          closed = closed_by t scopes seed j.programs others.births (tr1 ++ heard ls others.marks)
              (heard_so_far ++ heard ls (o.marks ++ mark_of_end o.after ∷ others.marks))
              (m + b.steps + bs.steps) (m + (b.steps + bs.steps))
              (append_assoc (heard_so_far ++ heard ls o.marks) (heard ls (mark_of_end o.after ∷ []))
              (heard ls others.marks)
              ∙ append_assoc heard_so_far (heard ls o.marks) (heard ls (mark_of_end o.after ∷ others.marks))
              ∙ ap (λ l. heard_so_far ++ l) (sym
              (heard_append ls o.marks (mark_of_end o.after ∷ others.marks)))) (omega arith)
              more.closed;
          lasts_are = ap₂ (λ x xs. x ∷ xs) (sym r.good.number) more.lasts_are;
          ends = (o.after.position, others.end, within, there, more.ends, refl);
          grows = (
            (r.grows.0 ++ e1.current ∷ []) ++ more.grows.0,
            more.grows.1 ∙ ap (λ l. l ++ more.grows.0) whole_is
                ∙ append_assoc ps (r.grows.0 ++ e1.current ∷ []) more.grows.0,
          );
        }
