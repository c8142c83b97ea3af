-- One index more.
use Rattle.std.proofs.Common.{◌≡◌, ℕ, List, [], ◌∷◌, ◌++◌, map, ap, arith, append_assoc, length, length-append, ◌<◌}
use Rattle.std.proofs.lemmas.List.Elements.{All-cons, All-nil, All-append}
use Rattle.fm_program.specs.declared.op.TheConstants.{MAX_INDEX}
use Rattle.fm_program.specs.declared.op.Slot.{Slot}
use Rattle.fm_program.specs.State.{slot_index}
use Rattle.fm_player.proofs.draws.Draws.put_indices.Goals as goal

-- what is added is the first of the rest
maps_more : (f : Slot → ℕ) (xs : List ℕ) (i : ℕ) (slot : Slot) (inner outer whole : List Slot) → inner ≡ slot ∷ outer
    → i ≡ f slot → xs ++ map f inner ≡ map f whole → (xs ++ i ∷ []) ++ map f outer ≡ map f whole
maps_more f xs i slot inner outer whole is at so_far = rw (append_assoc, at) (rw is at so_far)

pub loop-slot-preserved : goal.loop-slot-preserved
loop-slot-preserved c =
    let inv = c.loop-slot.invariant in
    let xs = c.loop-slot.indices.items in
    let i = c.index.result in
    let slots = c.in-Some.ensures.slots in
    rw c.push.ensures.items (
      omega (arith, c.in-Some.ensures.earlier, inv.0),
      omega (arith, length-append xs (i ∷ []), ap length slots, inv.1),
      All-append (λ k. k < MAX_INDEX) xs (i ∷ []) inv.2
          (All-cons (λ k. k < MAX_INDEX) i [] c.index.ensures.within (All-nil (λ k. k < MAX_INDEX))),
      λ s stands. maps_more (slot_index s.frames) xs i c.in-Some.slot _ _ _ slots (c.index.ensures.index s stands)
          (inv.3 s stands),
    )
