-- The nodes that grow behind a draft.
use Rattle.std.proofs.Common.{◌≡◌, List, [], ◌++◌, sym, ap, ◌∙◌, append_assoc, append-nil}
use Rattle.std.proofs.lemmas.List.{map-append}
use Rattle.fm_grammar.specs.Score.{Postfix}
use Rattle.fm_grammar.specs.Standing.{PlacedNode}
use Rattle.fm_terms.specs.Drafts.{extended}

-- nothing more
pub extended-none : (p : Postfix) → p ≡ extended p []
extended-none p = sym (grown (p.nodes) (p.spots))
  where
    grown : (ns : List _) (ss : List _) → extended (record { nodes = ns; spots = ss }) []
        ≡ record { nodes = ns; spots = ss }
    grown ns ss = simp append-nil

-- some nodes, and then others
pub extended-twice : (p q r : Postfix) (xs ys : List PlacedNode) → q ≡ extended p xs → r ≡ extended q ys
    → r ≡ extended p (xs ++ ys)
extended-twice p q r xs ys first second = second ∙ ap (λ x. extended x ys) first ∙ joined
  where
    joined : extended (extended p xs) ys ≡ extended p (xs ++ ys)
    joined = simp (map-append, append_assoc)
