-- What is said of a text: the plan of what it means, or its fault.
use Rattle.std.specs.Prelude.{◌≡◌, List, ℕ, Some}
use Rattle.fm_lex.specs.Tokens.{tokens}
use Rattle.fm_grammar.specs.Score.{Score}
use Rattle.fm_grammar.specs.Reads.{Reads}
use Rattle.fm_grammar.specs.Within.{limits}
use Rattle.fm_meaning.specs.Faults.{score_faults, first_found}
use Rattle.fm_meaning.specs.Verdict.{HasFault, Means}
use Rattle.fm_rules.specs.Why.{fault_at}
use Rattle.fm_rules.specs.declared.fault.CheckFault.{CheckFault}
use Rattle.fm_rules.specs.declared.fault.CheckFault.TheVariants.{Refused, Memory}
use Rattle.fm_program.specs.Parts.{PlanParts}
use Rattle.fm_expansion.specs.Numbering.{score_plan}
use Rattle.fm_outline.specs.declared.outline.Outline.{Outline}
use Rattle.fm_check.specs.Made.{IsMadeOf}
use Rattle.fm_tell.specs.declared.run_fault.RunFault.{RunFault}
use Rattle.fm_tell.specs.declared.run_fault.RunFault.TheVariants as run

-- the plan is that of the score that the text means
pub record IsPlanned (text : List ℕ) (plan : PlanParts) : Type 0 where
  pub score : Score
  pub means : Means text score
  pub planned : plan ≡ score_plan score

-- the fault of the checker is the first one of a score, or want of memory
abbrev pub IsFirst : CheckFault → Score → Type 0
IsFirst (Refused why spot) score = first_found (score_faults score) ≡ Some (fault_at spot why)
IsFirst Memory score = Unit {0}

-- the fault of judging a text: its first fault, or want of memory
abbrev pub IsJudged : List ℕ → RunFault → Type 0
IsJudged text (run.Score spot number) = HasFault text spot.line spot.column number
IsJudged text run.Memory = Unit {0}
IsJudged text fault = ⊥

-- the outline is that of the score as which the text reads, which has no fault of names and numbers
pub record IsOutlined (text : List ℕ) (o : Outline) : Type 0 where
  pub score : Score
  pub reads : Reads limits (tokens text) score
  pub made : IsMadeOf o score
