-- The plan of an outline is that of the score that has it.
use Rattle.std.proofs.Common.{◌≡◌, Result, Ok, Err, ap, ap₂, ◌∙◌}
use Rattle.std.specs.Prelude.{IfOk}
use Rattle.fm_grammar.specs.Score.{Score}
use Rattle.fm_expansion.specs.Expansion.{expansion}
use Rattle.fm_expansion.specs.Numbering.{outline, score_plan}
use Rattle.fm_meaning.specs.Resolve.{seed_of}
use Rattle.fm_meaning.specs.Rules.{VersionRules, profile_of}
use Rattle.fm_outline.specs.declared.outline.Outline.{Outline}
use Rattle.fm_outline.specs.OfScore.{IsOutlineOf}
use Rattle.fm_plan.specs.Seen.{outline_plan}

-- what follows where there is a result
pub followed : {A E : Type 0} (r : Result A E) (P Q : A → Type 0) → ((a : A) → P a → Q a) → IfOk r P → IfOk r Q
followed (Ok a) P Q f p = f a p
followed (Err e) P Q f p = p

-- the plan of the outline is the plan of the score
pub same_plan : (o : Outline) (s : Score) → IsOutlineOf o s → outline_plan o ≡ score_plan s
unfolding profile_of
same_plan o s is =
    ap₂ (λ v n. expansion v.tables n o.rules.profile v.value) is.view is.seed
    ∙ ap (λ r. expansion (outline s).tables (seed_of s.seed) (VersionRules.profile r) (outline s).value) is.rules
