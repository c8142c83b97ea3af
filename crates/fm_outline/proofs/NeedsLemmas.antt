-- What statements lack, by what they ask.
use Rattle.std.proofs.Common.{◌≡◌, ℕ, ◌+◌, ◌-◌, ◌≤◌, min, max, Bool, true, false, ◌&&◌, ◌||◌, not, nat_lt, List, [], ◌++◌}
use Rattle.std.proofs.Common.{◌∷◌, None, refl, sym, ap, ap₂, ◌∙◌, subst, append-nil, arith}
use Rattle.std.proofs.lemmas.Grind.{common_steps}
use Rattle.std.proofs.lemmas.Bool.Decides.{nat_tests}
use Rattle.fm_lex.specs.declared.spot.Spot.{Spot}
use Rattle.fm_meaning.specs.Fault.{NumberedFault, fault_if, fork_in_choice, play_outside_rhythm, index_outside_loop, too_deep}
use Rattle.fm_meaning.specs.Faults.{first_found}
use Rattle.fm_meaning.specs.Resolved.{Passage, phrase}
use Rattle.fm_meaning.specs.Places.{Depths, in_one, depth_faults, gathered, place_faults, passage_faults}
use Rattle.fm_outline.specs.declared.needs.Needs.{Needs}
use Rattle.fm_outline.specs.Needs.{nothing, asks, forked, both, added, outside, is_too_deep, four_faults, missing}
use Rattle.fm_outline.specs.Asking.{Faults, IsWithin, OpensBlock, TellsFaults, Asks, has}
use Rattle.fm_outline.proofs.NumberLemmas.{has_append, any_spot, four_both, same_four, gathered_same, gathered_four}

-- ---- two parts

fork_both : (a b c d i : Bool) → ((a || (c && i)) || (b || (d && i))) ≡ ((a || b) || ((c || d) && i))
fork_both a b c d i = grind (arith, common_steps)

rhythm_both : (a b r : Bool) → ((a && not r) || (b && not r)) ≡ ((a || b) && not r)
rhythm_both a b r = grind (arith, common_steps)

-- more than one number or the other
pub lt_max : (l a b : ℕ) → (nat_lt l a || nat_lt l b) ≡ nat_lt l (max a b)
lt_max l a b = grind (arith, nat_tests)

deep_both : (w f b x y z p q r : ℕ)
    → (is_too_deep (w + x) (f + y) (b + z) || is_too_deep (w + p) (f + q) (b + r))
    ≡ is_too_deep (w + max x p) (f + max y q) (b + max z r)
deep_both w f b x y z p q r = grind (arith, nat_tests)

both_missing : (m : ℕ) (s : Spot) (a b : Needs) (d : Depths)
    → (has m (missing s a d) || has m (missing s b d)) ≡ has m (missing s (both a b) d)
both_missing m s a b d =
    four_both m s _ _ _ _ _ _ _ _
    ∙ ap (has m) (same_four s _ _ _ _ _ _ _ _
    (fork_both a.fork_in_choice b.fork_in_choice a.forks b.forks d.in_choice) (rhythm_both a.rhythm b.rhythm d.in_rhythm)
    (lt_max d.loops a.loops b.loops)
    (deep_both d.warps d.frames d.blocks a.warps a.frames a.blocks b.warps b.frames b.blocks))

-- ---- inside a block

fork_outside : (a b c i : Bool) → (a || (b && (i || c))) ≡ ((a || (b && c)) || (b && i))
fork_outside a b c i = grind (arith, common_steps)

rhythm_outside : (a r i : Bool) → (a && not (i || r)) ≡ ((a && not r) && not i)
rhythm_outside a r i = grind (arith, common_steps)

index_outside : (l o n : ℕ) → nat_lt (l + o) n ≡ nat_lt l (n - o)
index_outside l o n = grind (arith, nat_tests)

depth_outside : (most d o n : ℕ) → nat_lt most (d + o + n) ≡ nat_lt most (d + min (most + 1) (n + o))
depth_outside most d o n = grind (arith, nat_tests)

outside_missing : (s : Spot) (n : Needs) (o d : Depths) → missing s n (added o d) ≡ missing s (outside o n) d
outside_missing s n o d =
    same_four s _ _ _ _ _ _ _ _
    (fork_outside n.fork_in_choice n.forks o.in_choice d.in_choice) (rhythm_outside n.rhythm o.in_rhythm d.in_rhythm)
    (index_outside d.loops o.loops n.loops)
    (ap₂ (λ i j. i || j)
    (ap₂ (λ i j. i || j) (depth_outside 8 d.warps o.warps n.warps) (depth_outside 16 d.frames o.frames n.frames))
    (depth_outside 64 d.blocks o.blocks n.blocks))

-- ---- depths alone

-- no block more
level : (w f b : ℕ) → is_too_deep (w + 0) (f + 0) (b + 0) ≡ is_too_deep w f b
level w f b = grind (arith, nat_tests)

-- no number is below 0
pub no_lt : (l : ℕ) → nat_lt l 0 ≡ false
no_lt l = grind (arith, nat_tests)

-- where nothing is asked
pub nothing_missing : (s : Spot) (d : Depths) → missing s nothing d ≡ depth_faults s d
nothing_missing s d = same_four s _ _ _ _ false false false _ refl refl (no_lt d.loops) (level d.warps d.frames d.blocks)

-- where no limit is passed
pub shallow : (d : Depths) → IsWithin d → is_too_deep d.warps d.frames d.blocks ≡ false
shallow d h = go d.warps d.frames d.blocks h.warps h.frames h.blocks
  where
    go : (w f b : ℕ) → w ≤ 8 → f ≤ 16 → b ≤ 64 → is_too_deep w f b ≡ false
    go w f b h g k = grind (arith, nat_tests)

-- what is too deep already stays so
deeper : (w f b x y z : ℕ)
    → (is_too_deep w f b || is_too_deep (w + x) (f + y) (b + z)) ≡ is_too_deep (w + x) (f + y) (b + z)
deeper w f b x y z = grind (arith, nat_tests)

-- ---- a statement itself

-- its faults, with that of the depth round it at the end
asks_of : (s : Spot) (fs : Faults) (n : Needs) → ((d : Depths) → missing s n d ≡ fs d ++ depth_faults s d) → Asks s fs n
asks_of s fs n h = record {
  tells = record {
    same = λ z d m.
        let deep = is_too_deep d.warps d.frames d.blocks in
        has_append m (depth_faults z d) (fs d)
        ∙ or_swapped (has m (depth_faults z d)) (has m (fs d))
        ∙ ap (λ b. has m (fs d) || b) (any_spot m z s false false false deep)
        ∙ sym (has_append m (fs d) (depth_faults s d))
        ∙ ap (has m) (sym (h d))
        ∙ any_spot m s z _ _ _ _;
  };
  list = λ d w. h d ∙ ap (λ b. fs d ++ fault_if b s too_deep) (shallow d w) ∙ append-nil (fs d);
}
  where
    or_swapped : (a b : Bool) → (a || b) ≡ (b || a)
    or_swapped a b = grind (arith, common_steps)

-- a rhythm and an index
pub asks_told : (s : Spot) (r : Bool) (n : ℕ) (x : ℕ → Bool) → ((l : ℕ) → nat_lt l n ≡ x l)
    → Asks s (λ d. fault_if (r && not d.in_rhythm) s play_outside_rhythm ++ fault_if (x d.loops) s index_outside_loop) (asks r n)
asks_told s r n x h =
    asks_of s _ _ (λ d. same_four s _ _ _ _ false (r && not d.in_rhythm) (x d.loops) _ refl refl (h d.loops)
    (level d.warps d.frames d.blocks))

-- a fork
pub fork_told : (s : Spot) → Asks s (λ d. fault_if d.in_choice s fork_in_choice) forked
fork_told s =
    asks_of s _ _ (λ d. same_four s _ _ _ _ d.in_choice false false _ refl refl (no_lt d.loops) (level d.warps d.frames d.blocks)
    ∙ fork_alone d.in_choice _)
  where
    fork_alone : (b x : Bool) → four_faults s b false false x ≡ fault_if b s fork_in_choice ++ fault_if x s too_deep
    fork_alone true x = refl
    fork_alone false x = refl

-- nothing
pub nothing_told : (s : Spot) → Asks s (λ d. []) nothing
nothing_told s = asks_of s _ _ (nothing_missing s)

-- a statement that brings in a phrase
pub phrase_told : (s : Spot) (p : Passage) (n all : Needs) (o : Depths) → OpensBlock o in_one → TellsFaults (passage_faults p) n
    → all ≡ outside o n → Asks s (place_faults s (phrase p)) all
phrase_told s p n all o opens told is = rw is (record {
  tells = record {
    same = λ z d m.
        has_append m (depth_faults z d) _
        ∙ ap (λ l. has m (depth_faults z d) || has m l) (sym (list d))
        ∙ ap (λ b. has m (depth_faults z d) || b) (any_spot m s z _ _ _ _)
        ∙ four_both m z false false false _ _ _ _ _
        ∙ ap (has m) (same_four z _ _ _ _ _ _ _ _ refl refl refl
        (deeper d.warps d.frames d.blocks (outside o n).warps (outside o n).frames (outside o n).blocks));
  };
  list = λ d w. list d;
})
  where
    list : (d : Depths) → missing s (outside o n) d ≡ gathered s (depth_faults s (in_one d) ++ passage_faults p (in_one d))
    list d =
        sym (gathered_same s _ _ (told.same s (in_one d)) ∙ gathered_four s _ _ _ _
        ∙ ap (missing s n) (opens.same d) ∙ outside_missing s n o d)

-- ---- statements in turn, and in blocks

-- no statements
pub nothing_tells : TellsFaults (λ d. []) nothing
nothing_tells = record { same = λ s d m. ap (has m) (append-nil (depth_faults s d) ∙ sym (nothing_missing s d)) }

or_doubled : (a b c : Bool) → (a || (b || c)) ≡ ((a || b) || (a || c))
or_doubled a b c = grind (arith, common_steps)

-- two parts
pub both_tells : (a b : Faults) (n m : Needs) → TellsFaults a n → TellsFaults b m → TellsFaults (λ d. a d ++ b d) (both n m)
both_tells a b n m h g = record {
  same = λ s d k.
      let deep = has k (depth_faults s d) in
      has_append k (depth_faults s d) (a d ++ b d)
      ∙ ap (λ x. deep || x) (has_append k (a d) (b d))
      ∙ or_doubled deep (has k (a d)) (has k (b d))
      ∙ sym (ap₂ (λ x y. x || y) (has_append k (depth_faults s d) (a d)) (has_append k (depth_faults s d) (b d)))
      ∙ ap₂ (λ x y. x || y) (h.same s d k) (g.same s d k)
      ∙ both_missing k s n m d;
}

or_parted : (a b c e : Bool) → (a || ((b || c) || e)) ≡ ((a || b) || (c || e))
or_parted a b c e = grind (arith, common_steps)

-- a block
pub block_tells : (s : Spot) (a b : Faults) (own n : Needs) (o : Depths) (inside : Depths → Depths) → OpensBlock o inside
    → Asks s a own → TellsFaults b n
    → TellsFaults (λ d. (a d ++ depth_faults s (inside d)) ++ b (inside d)) (both own (outside o n))
block_tells s a b own n o inside opens h g = record {
  same = λ z d k.
      let e = inside d in
      has_append k (depth_faults z d) _
      ∙ ap (λ x. has k (depth_faults z d) || x)
      (has_append k (a d ++ depth_faults s e) (b e) ∙ ap (λ x. x || has k (b e)) (has_append k (a d) (depth_faults s e)
      ∙ ap (λ x. has k (a d) || x) (any_spot k s z false false false _)))
      ∙ or_parted (has k (depth_faults z d)) (has k (a d)) (has k (depth_faults z e)) (has k (b e))
      ∙ sym (ap₂ (λ x y. x || y) (has_append k (depth_faults z d) (a d)) (has_append k (depth_faults z e) (b e)))
      ∙ ap₂ (λ x y. x || y) (h.tells.same z d k) (g.same z e k)
      ∙ ap (λ l. has k (missing z own d) || has k l) (ap (missing z n) (opens.same d) ∙ outside_missing z n o d)
      ∙ both_missing k z own (outside o n) d;
}

-- inside a block that is not too deep
pub still_within : (s : Spot) (a : List NumberedFault) (o : Depths) (inside : Depths → Depths) (d : Depths) → OpensBlock o inside
    → IsWithin d → None ≡ first_found (a ++ depth_faults s (inside d)) → IsWithin (inside d)
still_within s a o inside d opens w e =
    subst IsWithin (sym (opens.same d))
    (go d.warps d.frames d.blocks d.loops o.warps o.frames o.blocks o.loops
    (none_last a _ (rw (opens.same d) at e)) w.loops opens.loops)
  where
    none_last : (a : List NumberedFault) (b : Bool) → None ≡ first_found (a ++ fault_if b s too_deep) → b ≡ false
    none_last [] true e = cc
    none_last [] false e = refl
    none_last (x ∷ a) b e = cc

    go : (w f b l x y z m : ℕ) → is_too_deep (w + x) (f + y) (b + z) ≡ false → l ≤ f → m ≤ y
        → IsWithin (record (added o d) { loops = l + m; warps = w + x; frames = f + y; blocks = b + z })
    go w f b l x y z m e h g = record {
      warps = grind (arith, nat_tests);
      frames = grind (arith, nat_tests);
      blocks = grind (arith, nat_tests);
      loops = omega arith;
    }
