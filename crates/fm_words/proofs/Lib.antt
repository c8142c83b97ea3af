pub mod Simple
pub mod Numbers
pub mod TableLemmas
pub mod WordLemmas
pub mod UseLemmas
pub mod WalkSteps
pub mod WalkViews
pub mod WalkParts
pub mod WalkRules
pub mod RowLemmas
pub mod DefaultLemmas
pub mod FormLemmas
pub mod CommandRules
pub mod RuleNumbers
pub mod SettingsRules
mod Rows
mod WorkRows
mod RuleRows
mod Numerals
