-- The chosen steps come to an end, and release the whole piece.
use Rattle.std.proofs.Common.{◌≡◌, ℕ, zero, suc, ◌<◌, List, [], ◌∷◌, length, Option, Some, None, refl, sym, subst, inl, inr, arith}
use Rattle.fm_line.proofs.Pieces.{is_piece}
use Rattle.fm_line.specs.Piece.{piece}
use Rattle.fm_core.proofs.Keeps.{keeps}
use Rattle.fm_core.proofs.Opening.{opening_sound}
use Rattle.fm_core.specs.Effects.{after}
use Rattle.fm_core.specs.Invariant.{ValidSetting, Sound}
use Rattle.fm_core.specs.State.{Setting, State, opening}
use Rattle.fm_core.specs.declared.step.Step.{Step}
use Rattle.fm_progress.proofs.NeverStuck.{goes_on}
use Rattle.fm_progress.proofs.Whole.{whole_piece}
use Rattle.fm_progress.specs.Left.{left, Less}
use Rattle.fm_progress.specs.NextStep.{next_step}
use Rattle.fm_progress.specs.Progress.{GoesOn, Finished, go_on, played, ComesToEnd, PlaysAll}

-- lists of equal length are well founded, compared from the left
lex_ind : (L : ℕ) (P : List ℕ → Type 0) → ((xs : List ℕ) → length xs ≡ L → ((ys : List ℕ) → length ys ≡ L → Less ys xs → P ys) → P xs)
    → (xs : List ℕ) → length xs ≡ L → P xs
lex_ind zero P step [] e = step [] refl (λ ys f less. absurd (nothing ys less))
  where
    nothing : (ys : List ℕ) → Less ys [] → ⊥
    nothing [] less = less
    nothing (y ∷ ys) less = less
lex_ind zero P step (x ∷ xs) e = absurd (omega arith)
lex_ind (suc L) P step [] e = absurd (omega arith)
lex_ind (suc L) P step (x ∷ xs) e = go (suc x) x (omega arith) xs (omega arith) (λ Q f ys g. lex_ind L Q f ys g)
  where
    go : (n x : ℕ) → x < n → (xs : List ℕ) → length xs ≡ L
        → ((Q : List ℕ → Type 0) → ((ys : List ℕ) → length ys ≡ L → ((zs : List ℕ) → length zs ≡ L → Less zs ys → Q zs) → Q ys)
        → (ys : List ℕ) → length ys ≡ L → Q ys) → P (x ∷ xs)
    go zero x lt xs f inner = absurd (omega arith)
    go (suc n) x lt xs f inner = inner (λ s. P (x ∷ s))
        (λ s es before_s. step (x ∷ s) (omega arith)
        (λ ys ey less. smaller s before_s ys ey less (λ y below t et. go n y below t et inner))) xs f
      where
        smaller : (s : List ℕ) → ((zs : List ℕ) → length zs ≡ L → Less zs s → P (x ∷ zs)) → (ys : List ℕ) → length ys ≡ suc L
            → Less ys (x ∷ s) → ((y : ℕ) → y < n → (t : List ℕ) → length t ≡ L → P (y ∷ t)) → P ys
        smaller s before_s [] ey less lower = absurd less
        smaller s before_s (y ∷ t) ey (inl l) lower = lower y (omega arith) t (omega arith)
        smaller s before_s (y ∷ t) ey (inr l) lower = subst (λ (z : ℕ). P (z ∷ t)) (sym l.0) (before_s t (omega arith) l.1)

-- a run that follows the chosen steps comes to its end
pub comes_to_end : (g : Setting) (h : State) → ValidSetting g → Sound g h → ComesToEnd g h
comes_to_end g h valid ok = lex_ind 8 (λ xs. (k : State) → Sound g k → left g k ≡ xs
    → ComesToEnd g k) (λ xs e lower k sound is. on k sound (next_step g k) refl (goes_on g k valid sound)
    (λ m fine less. lower (left g m) refl (subst (λ (ys : List ℕ). Less (left g m) ys) is less) m fine refl)) (left g h) refl h ok refl
  where
    on : (k : State) → Sound g k → (o : Option Step) → next_step g k ≡ o → GoesOn g k o
        → ((m : State) → Sound g m → Less (left g m) (left g k) → ComesToEnd g m) → ComesToEnd g k
    on k sound None e f lower = record { steps = 0; finished = f }
    on k sound (Some s) e f lower = let r = lower (after g k s) (keeps g k s valid sound f.allowed) f.less in record {
      steps = suc r.steps;
      finished = subst (λ (o : Option Step). Finished g (played r.steps g (go_on g k o))) (sym e) r.finished;
    }

-- chosen steps keep the state sound
pub played_sound : (n : ℕ) (g : Setting) (h : State) → ValidSetting g → Sound g h → Sound g (played n g h)
played_sound zero g h valid ok = ok
played_sound (suc n) g h valid ok = played_sound n g (go_on g h (next_step g h)) valid (on (next_step g h) (goes_on g h valid ok))
  where
    on : (o : Option Step) → GoesOn g h o → Sound g (go_on g h o)
    on None f = ok
    on (Some s) f = keeps g h s valid ok f.allowed

-- from the opening the chosen steps release the whole piece
pub plays_all : (g : Setting) (seats : ℕ) → ValidSetting g → 0 < seats → PlaysAll g seats
plays_all g seats valid crew = let h : State = opening (length g.lines) seats in let ok = opening_sound g seats valid crew in
    let r = comes_to_end g h valid ok in record {
      steps = r.steps;
      whole = whole_piece g (played r.steps g h) valid (played_sound r.steps g h valid ok) (piece g.lines)
          (is_piece g.lines valid.lines) r.finished;
    }
