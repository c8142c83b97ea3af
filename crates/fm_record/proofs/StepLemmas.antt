-- The bytes of steps, with one step more behind them.
use Rattle.std.proofs.Common.{◌≡◌, ℕ, List, [], ◌∷◌, ◌++◌, sym, ◌∙◌, ap, append_assoc, append-nil}
use Rattle.fm_core.specs.declared.step.Step.{Step}
use Rattle.fm_record.specs.StepBytes.{AreSteps, HasFields, HaveFields, step_bytes, steps_bytes}

-- the bytes of one step more stand behind those of the others
pub bytes_more : (ss : List Step) (s : Step) → steps_bytes (ss ++ s ∷ []) ≡ steps_bytes ss ++ step_bytes s
bytes_more [] s = append-nil (step_bytes s)
bytes_more (t ∷ ss) s =
    ap (λ (bs : List ℕ). step_bytes t ++ bs) (bytes_more ss s) ∙ sym (append_assoc (step_bytes t) (steps_bytes ss) (step_bytes s))

-- the fields of all fit, and those of one more
pub fields_more : (ss : List Step) (s : Step) → HaveFields ss → HasFields s → HaveFields (ss ++ s ∷ [])
fields_more [] s fits one = (one, tt)
fields_more (t ∷ ss) s fits one = (fits.0, fields_more ss s fits.1 one)

-- bytes of steps, and one step more
pub steps_more : (bytes : List ℕ) (s : Step) → AreSteps bytes → HasFields s → AreSteps (bytes ++ step_bytes s)
steps_more bytes s are fits = record {
  steps = are.steps ++ s ∷ [];
  fits = fields_more are.steps s are.fits fits;
  same = ap (λ (bs : List ℕ). bs ++ step_bytes s) are.same ∙ sym (bytes_more are.steps s);
}
