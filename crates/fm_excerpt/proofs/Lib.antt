mod Numerals
pub mod Below
pub mod FileLemmas
pub mod StateValues
pub mod ValueLemmas
pub mod CountLemmas
pub mod InsideLemmas
pub mod JoinLemmas
pub mod KeyLemmas
pub mod MeetLemmas
pub mod NoteLemmas
pub mod OutputLemmas
pub mod PartLemmas
pub mod PutLemmas
pub mod RangeLemmas
pub mod SlotLemmas
pub mod StateLemmas
pub mod WholeLemmas
pub mod WindowLemmas
mod Rows
