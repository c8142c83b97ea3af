pub mod Cycle
pub mod NoteEnd
