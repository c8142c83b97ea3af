-- Publish keeps the state sound: the floor is right although the looks were made one at a time.
use Rattle.std.proofs.Common.{◌≡◌, ℕ, zero, suc, ◌+◌, ◌<◌, ◌≤◌, List, [], length, get_or, Bool, true, false, Option, Some, None, refl, ap, subst, inl, inr, arith, le_trans, length-set, get_or-set_same}
use Rattle.std.proofs.lemmas.Bool.{eqb-true, le-ltb}
use Rattle.std.specs.Prelude.{if◌then◌else◌, map, replicate}
use mathlib.Core.Logic.{dite}
use native.Mathlib.Decide.{ℕ_discrete}
use Rattle.fm_line.specs.Line.{line, upper, greatest}
use Rattle.fm_core.proofs.Booleans.{not_false, not_true, true_from, not_below, if_true, clash}
use Rattle.fm_core.proofs.Bounds.{bound_born, greatest_on}
use Rattle.fm_core.proofs.Elements.{or_set, same_all}
use Rattle.fm_core.proofs.Given.{upper_end}
use Rattle.fm_core.proofs.Reasons.{none_holds}
use Rattle.fm_core.proofs.Sweeps.{lowest, LeastOf, least_is}
use Rattle.fm_core.specs.Least.{Lowest}
use Rattle.fm_core.specs.Effects.{after, published}
use Rattle.fm_core.specs.Floors.{floor_le, floor_of}
use Rattle.fm_core.specs.Invariant.{ValidSetting, Sound, NotBelow, of_process}
use Rattle.fm_core.specs.State.{Setting, State, Desk, cell, desk, visited, no_desk}
use Rattle.fm_core.specs.Steps.{Allowed, table}
use Rattle.fm_core.specs.Sweep.{sight, bound_within, bound, least}
use Rattle.fm_core.specs.Tags.{is_unborn, is_ended}
use Rattle.fm_core.specs.Taking.{is_due, due_of}
use Rattle.fm_core.specs.declared.due.Due.{Due}
use Rattle.fm_core.specs.declared.due.Due.TheVariants.{Nothing, Pair, Everything}
use Rattle.fm_core.specs.declared.floor.Floor.{Floor}
use Rattle.fm_core.specs.declared.floor.Floor.TheVariants.{At, Done}
use Rattle.fm_core.specs.declared.sight.Sight.{Sight}
use Rattle.fm_core.specs.declared.step.Step.TheVariants.{Publish}
use Rattle.fm_msg.specs.Event.{TimedMessage}

below_done : (a : Floor) → floor_le a Done ≡ true
below_done (At a) = refl
below_done Done = refl

later : (m i t u p : ℕ) → NotBelow m i t p → t ≤ u → NotBelow m i u p
later m i t u p (inl x) le = inl (omega arith)
later m i t u p (inr x) le = let a = x.0 in let b = x.1 in dite (ℕ_discrete m u) (λ e. inr (e, b)) (λ n. inl (omega arith))

at_least : (m i t p : ℕ) → NotBelow m i t p → m ≤ t
at_least m i t p (inl x) = omega arith
at_least m i t p (inr x) = let a = x.0 in omega arith

-- equal floors have equal ticks
pub same_at : (a b : ℕ) → At a ≡ At b → a ≡ b
same_at a b e = cc

same_pair : (a b m i : ℕ) → Pair a b ≡ Pair m i → (a ≡ m) × (b ≡ i)
same_pair a b m i e = (cc, cc)

floor_up : (a b : Floor) (m f : ℕ) → floor_le a b ≡ true → b ≡ At f → f ≤ m → floor_le a (At m) ≡ true
floor_up (At a) (At b) m f x e le = let y = not_below b a (not_true _ x) in let z = same_at b f e in
    true_from _ (le-ltb m a (omega arith))
floor_up (At a) Done m f x e le = absurd (cc)
floor_up Done (At b) m f x e le = absurd (clash false x refl)
floor_up Done Done m f x e le = absurd (cc)

module _ (g : Setting) (h : State) (valid : ValidSetting g) (ok : Sound g h) where
  -- no bound is above the end of its line
  bound_end : (n q : ℕ) → q < length h.cells → bound_within n g h.cells q ≤ (line g.lines q).end
  bound_end zero q lt = omega arith
  bound_end (suc n) q lt = go (is_unborn (cell h q).tag) refl (λ i there. let low = valid.lines.below q i 0 there in
      bound_end n (get_or (line g.lines q).predecessors i 0) (omega arith))
    where
      last : upper (line g.lines q) (length (line g.lines q).events) ≡ (line g.lines q).end
      last = upper_end (line g.lines q) (length (line g.lines q).events) (omega arith)

      go : (b : Bool) → is_unborn (cell h q).tag ≡ b
          → ((i : ℕ) → i < length (line g.lines q).predecessors
          → bound_within n g h.cells (get_or (line g.lines q).predecessors i 0)
          ≤ (line g.lines (get_or (line g.lines q).predecessors i 0)).end)
          → (if b then greatest (map (bound_within n g h.cells) (line g.lines q).predecessors) else (cell h q).clock)
          ≤ (line g.lines q).end
      go true e each = let a = greatest_on (bound_within n g h.cells) (λ r. (line g.lines r).end) (line g.lines q).predecessors each in
          let b = valid.lines.begun q (length (line g.lines q).events) in let c = last in omega arith
      go false e each = let f = ok.fits q lt in let a = f.timed e in
          let b = valid.lines.rising q (cell h q).computed (length (line g.lines q).events) f.computed in let c = last in omega arith

  -- nor above what is still to be computed
  pub bound_upper : (p k : ℕ) → p < length h.cells → (cell h p).computed ≤ k → (b : Bool) → is_unborn (cell h p).tag ≡ b
      → bound g h p ≤ upper (line g.lines p) k
  bound_upper p k lt le false e = let f = ok.fits p lt in let a = f.timed e in let b = valid.lines.rising p (cell h p).computed k le in
      let c = bound_born g h p e in omega arith
  bound_upper p k lt le true e = let a = greatest_on (bound_within (length h.cells) g h.cells) (λ r. (line g.lines r).end)
      (line g.lines p).predecessors (λ i there. let low = valid.lines.below p i 0 there in
      bound_end (length h.cells) (get_or (line g.lines p).predecessors i 0) (omega arith)) in
      let b = valid.lines.begun p k in let c : bound g h p ≡ greatest
      (map (bound_within (length h.cells) g h.cells) (line g.lines p).predecessors) =
      if_true {A = ℕ} (is_unborn (cell h p).tag) _ _ e in omega arith

  module _ (full : length (desk h 0).sweep ≡ length h.cells) (none_gathered : h.gather ≡ []) where
    abbrev seen : List Sight
    seen = (desk h 0).sweep

    desk_at : (w : Option (ℕ × ℕ)) (P : Desk → Type 0) (s : ℕ) → P (record { sweep = []; paced = (desk h 0).paced })
        → (s < length h.desks → P (desk h s)) → s < length (published h w).desks → P (desk (published h w) s)
    desk_at w P s here other near = or_set P h.desks 0 s (record { sweep = []; paced = (desk h 0).paced }) no_desk ok.crew (λ _. here)
        (λ _. other (rw length-set at near))

    desk_0 : (w : Option (ℕ × ℕ)) → (desk (published h w) 0).sweep ≡ []
    desk_0 w = ap (λ (d : Desk). d.sweep) (get_or-set_same h.desks 0 (record { sweep = []; paced = (desk h 0).paced }) no_desk ok.crew)

    none_seen : (w : Option (ℕ × ℕ)) (i : ℕ) → i < length (desk (published h w) 0).sweep → ⊥
    none_seen w i less = let z = ap length (desk_0 w) in omega arith

    nobody : (w : Option (ℕ × ℕ)) (p : ℕ) → visited (published h w) p ≡ true → ⊥
    nobody w p e = clash _ e (same_all (length h.cells) p false)

    -- what does not hang on the least pair
    pub publish_with : (w : Option (ℕ × ℕ))
        → ((s : ℕ) → s < length h.desks → floor_le (desk h s).paced (floor_of w) ≡ true)
        → ((f p : ℕ) → floor_of w ≡ At f → p < length h.cells → is_ended (cell h p).tag ≡ false → f ≤ bound g h p)
        → ((f p k : ℕ) → floor_of w ≡ At f → p < length h.cells → k < (cell h p).computed → upper (line g.lines p) k ≤ f + g.lead)
        → ((p : ℕ) → floor_of w ≡ Done → p < length h.cells → is_ended (cell h p).tag ≡ true)
        → ((m i : ℕ) → due_of w ≡ Pair m i → floor_of w ≡ At m)
        → ((m i p k : ℕ) → due_of w ≡ Pair m i → p < length h.cells → (cell h p).computed ≤ k → k < length (line g.lines p).events
        → NotBelow m i (upper (line g.lines p) k) p)
        → (due_of w ≡ Everything → floor_of w ≡ Done) → Sound g (published h w)
    publish_with w paced floored led done due_floor due_rest due_all = record {
      lined = ok.lined;
      marked = same_length (length h.cells);
      crew = rw length-set ok.crew;
      root = ok.root;
      short = λ s near. desk_at w (λ d. length d.sweep ≤ length h.cells) s (omega arith) (λ there. ok.short s there) near;
      named = ok.named;
      fits = ok.fits;
      after_all = ok.after_all;
      seated = λ p lt held. rw length-set (ok.seated p lt held);
      alone = ok.alone;
      seen = λ s i near. desk_at w (λ d. i < length d.sweep → (sight d.sweep i).clock ≤ bound g h i) s (λ k. absurd (omega arith))
          (λ there. ok.seen s i there) near;
      seen_ended = λ s i near. desk_at w (λ d. i < length d.sweep → (sight d.sweep i).ended ≡ true
          → (is_ended (cell h i).tag ≡ true) × ((sight d.sweep i).clock ≡ (line g.lines i).end)) s (λ k. absurd (omega arith))
          (λ there. ok.seen_ended s i there) near;
      paced = λ s near. desk_at w (λ d. floor_le d.paced (floor_of w) ≡ true) s (paced 0 ok.crew) (λ there. paced s there) near;
      floored = floored;
      swept_high = λ f i at less. absurd (none_seen w i less);
      led = led;
      done = done;
      done_seen = λ i at less. absurd (none_seen w i less);
      due_floor = due_floor;
      due_rest = due_rest;
      due_all = due_all;
      kept = ok.kept;
      not_due = λ _. none_gathered;
      gathered_due = λ k less. let z = ap length none_gathered in absurd (omega arith);
      gathered = λ p lt. let z = ap (λ (es : List TimedMessage). length (of_process p es)) none_gathered in omega arith;
      visited_below = λ m i p k d lt v. absurd (nobody w p v);
      visited_all = λ p d lt v. absurd (nobody w p v);
      prefix = ok.prefix;
    }
      where
        same_length : (n : ℕ) → length (replicate n false) ≡ n
        same_length zero = refl
        same_length (suc n) = ap suc (same_length n)

    publish_of : (w : Option (ℕ × ℕ)) → LeastOf 0 seen w → Sound g (published h w)
    publish_of None all = publish_with None (λ s near. below_done (desk h s).paced) (λ f p e. absurd (cc)) (λ f p k e. absurd (cc))
        (λ p e lt. (ok.seen_ended 0 p ok.crew (omega arith) (all p (omega arith))).0)
        (λ m i e. absurd (cc)) (λ m i p k e. absurd (cc)) (λ _. refl)
    publish_of (Some a) r = publish_with (Some a)
        (λ s near. up h.floor refl s near)
        (λ f p e lt open_here. let z = same_at a.0 f e in let n = not_seen p lt open_here in
        let x = at_least a.0 a.1 (sight seen p).clock p (l.lower p (omega arith) n) in let y = ok.seen 0 p ok.crew (omega arith) in
        omega arith)
        (λ f p k e lt less. let z = same_at a.0 f e in led h.floor refl p k lt less z)
        (λ p e. absurd (cc))
        (λ m i e. ap At (same_pair a.0 a.1 m i e).0)
        (λ m i p k e lt le less. let z = same_pair a.0 a.1 m i e in
        let n = not_seen p lt (unfinished p k lt le less (is_ended (cell h p).tag) refl) in
        let y = ok.seen 0 p ok.crew (omega arith) in
        subst (λ (x : ℕ). NotBelow x i (upper (line g.lines p) k) p) z.0
        (subst (λ (x : ℕ). NotBelow a.0 x (upper (line g.lines p) k) p) z.1
        (later a.0 a.1 (sight seen p).clock (upper (line g.lines p) k) p (l.lower p (omega arith) n)
        (le_trans y (bound_upper p k lt le (is_unborn (cell h p).tag) refl)))))
        (λ e. absurd (cc))
      where
        l : Lowest (desk h 0).sweep a.0 a.1
        l = lowest (desk h 0).sweep a r

        not_seen : (p : ℕ) → p < length h.cells → is_ended (cell h p).tag ≡ false → (sight (desk h 0).sweep p).ended ≡ false
        not_seen p lt open_here = go ((sight (desk h 0).sweep p).ended) refl
          where
            go : (b : Bool) → (sight (desk h 0).sweep p).ended ≡ b → (sight (desk h 0).sweep p).ended ≡ false
            go false e = e
            go true e = absurd (clash _ (ok.seen_ended 0 p ok.crew (omega arith) e).0 open_here)

        unfinished : (p k : ℕ) → p < length h.cells → (cell h p).computed ≤ k → k < length (line g.lines p).events → (b : Bool)
            → is_ended (cell h p).tag ≡ b → is_ended (cell h p).tag ≡ false
        unfinished p k lt le less false e = e
        unfinished p k lt le less true e = let w = (ok.fits p lt).whole e in absurd (omega arith)

        higher : (f : ℕ) → h.floor ≡ At f → f ≤ a.0
        higher f e = let x = ok.swept_high f a.1 e l.below l.open_there in let y = l.clock in omega arith

        not_done : h.floor ≡ Done → ⊥
        not_done e = clash _ (ok.done_seen a.1 e l.below) l.open_there

        up : (f : Floor) → h.floor ≡ f → (s : ℕ) → s < length h.desks → floor_le (desk h s).paced (At a.0) ≡ true
        up (At f) e s near = floor_up (desk h s).paced h.floor a.0 f (ok.paced s near) e (higher f e)
        up Done e s near = absurd (not_done e)

        led : (f : Floor) → h.floor ≡ f → (p k : ℕ) → p < length h.cells → k < (cell h p).computed → {n : ℕ} → a.0 ≡ n
            → upper (line g.lines p) k ≤ n + g.lead
        led (At f) e p k lt less z = let x = ok.led f p k e lt less in let y = higher f e in omega arith
        led Done e p k lt less z = absurd (not_done e)

  -- an allowed publish keeps the state sound
  pub keeps_publish : Allowed g h Publish → Sound g (after g h Publish)
  keeps_publish allowed = let no_test = none_holds (table g h Publish) allowed in
      publish_of (eqb-true _ _ (not_false _ (no_test 0))) (ok.not_due (nothing_due h.due (no_test 1))) (least (desk h 0).sweep)
      (least_is 0 (desk h 0).sweep)
    where
      nothing_due : (d : Due) → is_due d ≡ false → d ≡ Nothing
      nothing_due Nothing k = refl
      nothing_due (Pair m i) k = absurd (clash true refl k)
      nothing_due Everything k = absurd (clash true refl k)
