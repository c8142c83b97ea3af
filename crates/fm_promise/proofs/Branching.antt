-- Branches whose notes end with their durations, one branch behind the other.
use Rattle.std.proofs.Common.{◌≡◌, ℕ, ◌+◌, ◌≤◌, inl, inr, max, List, [], ◌∷◌, ◌++◌, length, refl, ◌∙◌, arith, length-append}
use Rattle.std.specs.List.{AllByRecursion}
use Rattle.fm_line.specs.Marks.{Mark}
use Rattle.fm_meaning.specs.State.{Around, Now, started}
use Rattle.fm_meaning.specs.Played.{Made, made, mark_of_end, Forked}
use Rattle.fm_promise.proofs.Lists.{each_append, each_weaken, each_both}
use Rattle.fm_promise.proofs.Pens.{InRange}
use Rattle.fm_promise.proofs.Drawing.{AreWithin, restarted_open}
use Rattle.fm_promise.proofs.Good.{standing}
use Rattle.fm_promise.proofs.Forking.{newborn, joined_fork}
use Rattle.fm_promise.proofs.Following.{Inside, inside_wider, Later, InOrder, FollowEach, order_append, over_before}
use Rattle.fm_promise.proofs.Turning.{in_turn, IsOwn, Turned}

-- what branches play from a position, where so many processes were born
pub record TurnedFork (position : ℕ) (births : List (List ℕ)) (f : Forked) : Type 0 where
  pub inside : AllByRecursion (Inside position f.end) f.marks
  pub order : InOrder f.marks
  pub grows : length births ≤ length f.births
  pub numbers : AllByRecursion (InRange (length births) (length f.births)) f.marks

-- no branch
pub no_turn : (position : ℕ) (births : List (List ℕ))
    → TurnedFork position births (record { marks = []; lasts = []; end = 0; births = births })
no_turn position births = record { inside = tt; order = tt; grows = omega arith; numbers = tt }

-- marks of processes in one range have none to follow among those of a range before it
ranges_apart : (low mid high : ℕ) (xs ys : List Mark) → AllByRecursion (InRange low mid) xs → AllByRecursion (InRange mid high) ys
    → FollowEach xs ys
ranges_apart low mid high xs ys first second =
    each_weaken (InRange low mid) (λ x. AllByRecursion (Later x) ys)
    (λ x i. each_weaken (InRange mid high) (Later x) (λ y k is. absurd (omega (arith, is, i.below, k.from))) ys second) xs first

-- marks that are over before an end, and of earlier processes than those behind it
with_end : (low t : ℕ) (end : Mark) (xs ys : List Mark) → t ≤ end.onset → AllByRecursion (Inside low t) xs → FollowEach xs ys
    → FollowEach xs (end ∷ ys)
with_end low t end xs ys later inside across =
    each_both (Inside low t) (λ x. AllByRecursion (Later x) ys) (λ x. AllByRecursion (Later x) (end ∷ ys))
    (λ x b c. (λ _. over_before t x end b.to b.ends later, c)) xs inside across

-- a branch, and the branches behind it
pub branch_turned : (longest position : ℕ) (ps : List ℕ) (births : List (List ℕ)) (m : Made) (f : Forked)
    → Turned longest (newborn position births ps) m → TurnedFork position m.after.births f → TurnedFork position births (joined_fork m f)
branch_turned longest position ps births m f g h = record {
  inside = each_append (Inside position end) m.marks (mark_of_end m.after ∷ f.marks)
      (each_weaken (Inside position m.after.position) (Inside position end)
      (inside_wider position m.after.position position end (omega arith) (omega arith)) m.marks g.inside) (
        record { from = g.rises; to = omega arith; ends = omega arith; steady = λ _. refl },
        each_weaken (Inside position f.end) (Inside position end)
            (inside_wider position f.end position end (omega arith) (omega arith)) f.marks h.inside,
      );
  order = order_append m.marks (mark_of_end m.after ∷ f.marks) g.order (
    each_weaken (InRange (length m.after.births) (length f.births)) (Later (mark_of_end m.after))
        (λ y i is. absurd (omega (arith, is, i.from, last.below))) f.marks h.numbers,
    h.order,
  )
      (with_end position m.after.position (mark_of_end m.after) m.marks f.marks (omega arith) g.inside
      (ranges_apart (length births) (length m.after.births) (length f.births) m.marks f.marks own h.numbers));
  grows = omega (arith, up, h.grows);
  numbers = each_append (InRange (length births) (length f.births)) m.marks (mark_of_end m.after ∷ f.marks)
      (each_weaken (InRange (length births) (length m.after.births)) (InRange (length births) (length f.births))
      (λ x i. record { from = i.from; below = omega (arith, i.below, h.grows) }) m.marks own) (
        record { from = last.from; below = omega (arith, last.below, h.grows) },
        each_weaken (InRange (length m.after.births) (length f.births)) (InRange (length births) (length f.births))
            (λ x i. record { from = omega (arith, i.from, up); below = i.below }) f.marks h.numbers,
      );
}
  where
    end : ℕ
    end = max m.after.position f.end

    more : length (births ++ ps ∷ []) ≡ length births + 1
    more = length-append births (ps ∷ []) ∙ omega arith

    up : length births + 1 ≤ length m.after.births
    up = omega (arith, g.grows, more)

    in_range : (x : Mark) → IsOwn (length (births ++ ps ∷ [])) (length m.after.births) (length births) x.process
        → InRange (length births) (length m.after.births) x
    in_range x (inl is) = record { from = omega (arith, is); below = omega (arith, is, up) }
    in_range x (inr range) = record { from = omega (arith, range.0, more); below = range.1 }

    own : AllByRecursion (InRange (length births) (length m.after.births)) m.marks
    own = each_weaken (λ x. IsOwn (length (births ++ ps ∷ [])) (length m.after.births) (length births) x.process)
        (InRange (length births) (length m.after.births)) in_range m.marks g.numbers

    last : InRange (length births) (length m.after.births) (mark_of_end m.after)
    last = in_range (mark_of_end m.after) g.stands

-- what follows a fork
pub fork_turned : (longest : ℕ) (a : Around) (n : Now) (f : Forked) → AreWithin (in_turn longest) n.blocks → n.position ≤ f.end
    → TurnedFork n.position n.births f
    → Turned longest (standing n) (made (mark_of_end n ∷ f.marks) (started a f.lasts f.end n.blocks f.births))
fork_turned longest a n f blocks reach h = record {
  rises = reach;
  inside = (record { from = omega arith; to = reach; ends = reach; steady = λ _. refl }, h.inside);
  order = (
    each_weaken (Inside n.position f.end) (Later (mark_of_end n))
        (λ y i _. over_before n.position (mark_of_end n) y (omega arith) (omega arith) i.from) f.marks h.inside,
    h.order,
  );
  grows = omega (arith, h.grows, one_more);
  numbers = (
    inl refl,
    each_weaken (InRange (length n.births) (length f.births))
        (λ x. IsOwn (length n.births) (length (f.births ++ f.lasts ∷ [])) n.process x.process)
        (λ x i. inr (i.from, omega (arith, i.below, one_more))) f.marks h.numbers,
  );
  stands = inr (h.grows, omega (arith, one_more));
  blocks = restarted_open (in_turn longest) n.blocks blocks;
}
  where
    one_more : length (f.births ++ f.lasts ∷ []) ≡ length f.births + 1
    one_more = length-append f.births (f.lasts ∷ []) ∙ omega arith
