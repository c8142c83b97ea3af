-- What a statement may say of itself: rows.
use Rattle.std.proofs.Common.{◌≡◌, Bool, true, false, ◌∙◌, rules, Vec, Global}
use Rattle.fm_lex.specs.declared.spot.Spot.{Spot}
use Rattle.fm_expansion.specs.Emission.{forks}
use Rattle.fm_outline.specs.declared.step.Step.{Step, the_lemmas}
use Rattle.fm_outline.specs.declared.step.Instruction.TheViews as code
use Rattle.fm_outline.specs.declared.step.Instruction.TheVariants as leaf
use Rattle.fm_outline.specs.declared.lasting.Lasting.TheVariants as lasting
use Rattle.fm_outline.specs.View.{Look, step_view}
use Rattle.fm_outline.specs.Forking.{IsMarked}
use Rattle.fm_outline.specs.Needs.{nothing}
use Rattle.fm_outline.proofs.ForkLemmas.{says}

-- a rest that says so much of itself
abbrev rest : Spot → Bool → Step
rest at b = record { spot = at; what = leaf.Rest lasting.Beat; needs = record nothing { forks = b } }

-- a fork that says so much of itself
abbrev fork : Spot → Bool → Vec (Vec Step Global) Global → Step
fork at b bs = record { spot = at; what = code.Par bs; needs = record nothing { forks = b } }

rest_forks : (look : Look) (at : Spot) (b : Bool) → forks (step_view look (rest at b)).what ≡ false
rest_forks look at b = search (rules, the_lemmas)

fork_forks : (look : Look) (at : Spot) (b : Bool) (bs : Vec (Vec Step Global) Global) → forks (step_view look (fork at b bs)).what ≡ true
fork_forks look at b bs = search (rules, the_lemmas)

-- a rest does not fork, and a fork does
rest_says : (look : Look) (at : Spot) (b : Bool) → IsMarked look (rest at b) → b ≡ false
rest_says look at b it = says it ∙ rest_forks look at b

fork_says : (look : Look) (at : Spot) (b : Bool) (bs : Vec (Vec Step Global) Global) → IsMarked look (fork at b bs) → b ≡ true
fork_says look at b bs it = says it ∙ fork_forks look at b bs
