pub mod FromForms
pub mod ToForms
pub mod ToScores
pub mod Files
mod FileRows
