-- A finished run has released the piece.
use Rattle.std.proofs.lemmas.List.{append-nil}
use Rattle.std.proofs.Common.{◌≡◌, ◌<◌, List, [], ◌∷◌, ◌++◌, length, take, refl, sym, ap, ◌∙◌, subst, inl, ⊎_elim, arith}
use Rattle.fm_line.proofs.Members.{in_right, in_either}
use Rattle.fm_line.proofs.Order.{not_both}
use Rattle.fm_line.proofs.Rising.{rises_apart}
use Rattle.fm_line.specs.Line.{line, event_at}
use Rattle.fm_line.specs.Piece.{IsPiece, In, Rises}
use Rattle.fm_core.proofs.Processes.{of_in, take_in}
use Rattle.fm_core.specs.Invariant.{ValidSetting, Sound}
use Rattle.fm_core.specs.State.{Setting, State, cell}
use Rattle.fm_core.specs.Tags.{is_ended}
use Rattle.fm_msg.specs.Event.{TimedMessage}
use Rattle.fm_progress.proofs.Claims.{taken_all}
use Rattle.fm_progress.specs.Progress.{Finished}

empty_list : {A : Type 0} (xs : List A) → length xs ≡ 0 → xs ≡ []
empty_list [] e = refl
empty_list (x ∷ xs) e = absurd (omega arith)

module _ (g : Setting) (h : State) (valid : ValidSetting g) (ok : Sound g h) where
  -- where all is released and drained, what was released is the piece
  pub whole_piece : (all : List TimedMessage) → IsPiece g.lines all → Finished g h → h.released ≡ all
  whole_piece all is done = go (ok.prefix all is).0 (ok.prefix all is).1
    where
      none_gathered : h.gather ≡ []
      none_gathered = empty_list h.gather (let a = taken_all g h valid ok in let b = done.released in omega arith)

      go : (rest : List TimedMessage) → h.released ++ rest ≡ all → h.released ≡ all
      go [] e = sym (append-nil h.released) ∙ e
      go (x ∷ xs) e = let there : In x all = subst (In x) e (in_right x h.released (x ∷ xs) (inl refl)) in let facts = is.only x there in
          let lt : x.process < length h.cells = (let a = ok.lined in let b = facts.0 in omega arith) in let f = ok.fits x.process lt in
          let d = done.drained x.process lt in
          let taken = f.drained d in let most = f.whole (ap is_ended d) in let less = facts.1 in
          let out : In x (take (cell h x.process).taken (line g.lines x.process).events) =
          subst (λ (y : TimedMessage). In y (take (cell h x.process).taken (line g.lines x.process).events)) (sym facts.2)
          (take_in (event_at (line g.lines x.process).end) (cell h x.process).taken x.index (line g.lines x.process).events
          (omega arith) facts.1) in
          let released : In x (h.released ++ h.gather) =
          (of_in x.process x (h.released ++ h.gather) (subst (In x) (sym (ok.kept x.process lt)) out)).0 in
          let old : In x h.released = ⊎_elim (λ (i : In x h.released). i) (λ (i : In x h.gather). absurd (subst (In x) none_gathered i))
          (in_either x h.released h.gather released) in
          let self = rises_apart h.released (x ∷ xs) x x (subst Rises (sym e) is.rises) old (inl refl) in absurd (not_both x x self self)
