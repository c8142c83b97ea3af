-- The load of a word that is no look keeps the rule.
use Rattle.std.proofs.Common.{◌≡◌, ◌⊎◌, inl, inr, ℕ, ◌<◌, List, [], ◌∷◌, ◌++◌, Bool, length, get_or, set, true, false, refl, sym, ap, ◌∙◌, subst, arith}
use Rattle.std.specs.Prelude.{if◌then◌else◌}
use mathlib.Core.Option.{some, none}
use lib.ListN.{get_elem?}
use Rattle.atomic_table.specs.Table.{Allows, keeps, step}
use Rattle.fm_core.proofs.May.{may_recall}
use Rattle.fm_core.specs.State.{State, cell}
use Rattle.fm_core.specs.Tags.{is_ended}
use Rattle.fm_core.specs.declared.step.Step.{Step}
use Rattle.fm_core.specs.declared.step.Step.TheVariants.{Recall}
use Rattle.fm_board.specs.declared.about.About.{About}
use Rattle.fm_board.specs.declared.view.Log.{Log}
use Rattle.fm_board.specs.declared.view.Mind.{Mind}
use Rattle.fm_board.specs.Minds.{did, recalled, spotted}
use Rattle.fm_board.specs.Plays.{Finds, Holder, recalls}
use Rattle.fm_board.specs.StandsFor.{IsRun, StandsForSome, Table, count, setting}
use Rattle.fm_board.specs.Words.{word_at}
use Rattle.fm_board.proofs.Found.{saw}
use Rattle.fm_board.specs.Runs.{Extends}
use Rattle.fm_board.proofs.Runs.{extends_on, extends_still, runs_on, runs_still}
use Rattle.fm_board.proofs.Spellings.{yes_or_no}
use Rattle.fm_core.specs.declared.tag.Tag.{Tag}
use Rattle.fm_board.proofs.Looks.{finds, lined}

-- a seat that finds a process ended, without a look, recalls it, which changes nothing
module _ (a : About) (s : Table) (k : StandsForSome a s) (p id : ℕ) (m w : Mind) (at : get_elem? s.views id ≡ some m)
    (inside : p < length k.core.cells) (is : w.log ≡ recalled m p (k.history.steps ++ Recall id p ∷ []) (cell k.core p).tag) where
  abbrev recalled_steps : List Step
  recalled_steps = k.history.steps ++ Recall id p ∷ []

  by_tag : (b : Bool) → is_ended (cell k.core p).tag ≡ b → w.log ≡ (if b then did m (Recall m.view.number p) recalled_steps else m.log)
  by_tag b e = is ∙ ap (λ (c : Bool). if c then did m (Recall m.view.number p) recalled_steps else m.log) e

  mine_is : is_ended (cell k.core p).tag ≡ true → w.log.mine ≡ m.log.mine ++ Recall id p ∷ []
  mine_is ended = ap (λ (l : Log). l.mine) (by_tag true ended)
      ∙ ap (λ (n : ℕ). m.log.mine ++ Recall n p ∷ []) (k.stands.views.viewed id m at).is.number

  seen_is : is_ended (cell k.core p).tag ≡ true → w.log.seen ≡ recalled_steps
  seen_is ended = ap (λ (l : Log). l.seen) (by_tag true ended)

  pub recalls_run : IsRun a (set s.views id w) k.core
  recalls_run = by_case (yes_or_no (is_ended (cell k.core p).tag))
    where
      by_case : (is_ended (cell k.core p).tag ≡ true) ⊎ (is_ended (cell k.core p).tag ≡ false) → IsRun a (set s.views id w) k.core
      by_case (inl ended) =
          runs_on a s.views k.core k.history id m w at (Recall id p)
          (may_recall (setting a) k.core id p (k.stands.views.viewed id m at).here inside ended) refl (mine_is ended)
          (seen_is ended)
      by_case (inr live) = runs_still a s.views k.core k.history id m w at (by_tag false live)

  pub recalls_extend : Extends m.view.number m.log w.log
  recalls_extend = by_case (yes_or_no (is_ended (cell k.core p).tag))
    where
      by_case : (is_ended (cell k.core p).tag ≡ true) ⊎ (is_ended (cell k.core p).tag ≡ false) → Extends m.view.number m.log w.log
      by_case (inl ended) =
          extends_on a s.views k.core k.history id m w at (Recall id p) refl (mine_is ended) (seen_is ended) m.view.number
          (k.stands.views.viewed id m at).is.number
      by_case (inr live) = extends_still a s.views k.core k.history id m w at (by_tag false live) m.view.number

-- what it has seen then says the same of its log
recalled_seen : (m : Mind) (p : ℕ) (xs : List Step) (t : Tag) → recalled m p (recalled m p xs t).seen t ≡ recalled m p xs t
recalled_seen m p xs t = go (is_ended t)
  where
    go : (b : Bool)
        → (if b then did m (Recall m.view.number p) (if b then did m (Recall m.view.number p) xs else m.log).seen else m.log)
        ≡ (if b then did m (Recall m.view.number p) xs else m.log)
    go true = refl
    go false = refl

-- the load of a word that is no look changes nothing of the core
pub recalls_of : (a : About) (slots id p : ℕ) (m : Holder) → p < count a
    → Allows (StandsForSome a) slots id m (word_at p) (λ n. n) (recalls (step slots (word_at p) 0 0 none) m)
recalls_of a slots id p m near s k sized at small =
    let h : State = k.core in
    let seat = k.stands.views.viewed id m.0 at in
    let inside : p < length h.cells = omega (arith, lined a s k, near) in
    let xs : Log = recalled m.0 p (k.history.steps ++ Recall id p ∷ []) (cell h p).tag in
    let word : ℕ = get_or s.words (word_at p) 0 in
    let w : Mind = spotted m.0 p (cell h p).tag (cell h p).clock word m.0.view xs in
    let extends = recalls_extend a s k p id m.0 w at inside refl in
    let same = recalled_seen m.0 p (k.history.steps ++ Recall id p ∷ []) (cell h p).tag in
    let found : Finds m p word (λ t c. m.0.view) (recalled m.0 p xs.seen) (w, m.1) =
    subst (λ (l : Log). Finds m p word (λ t c. m.0.view) (recalled m.0 p xs.seen) (
      spotted m.0 p (cell h p).tag (cell h p).clock word m.0.view l,
      m.1,
    )) same
    (finds a s k id p m.0 m.1 (λ t c. m.0.view) (recalled m.0 p xs.seen) at seat inside
    (subst (Extends m.0.view.number m.0.log) (sym same) extends)) in (
      w,
      keeps,
      tt,
      saw a s k p id m.0 m.1 xs at inside (recalls_run a s k p id m.0 w at inside refl),
      λ q e. subst (λ (z : ℕ). Finds m z word (λ t c. m.0.view) (recalled m.0 z xs.seen) (w, m.1)) (omega (arith, e)) found,
    )
