mod Numerals
mod Rows
pub mod Quantities
pub mod EndsLemmas
pub mod TrackLemmas
pub mod WrittenLemmas
pub mod TrackWritten
pub mod Joined
pub mod Messages
pub mod ChunkLemmas
pub mod FileLemmas
pub mod FileWritten
pub mod DecodedLemmas
pub mod Few
pub mod KeptLemmas
pub mod FormRead
pub mod FormTook
pub mod FileFormRead
pub mod FileFormTook
pub mod FaultFails
pub mod FaultEntry
pub mod FaultRead
pub mod FaultTrack
pub mod FileFaultTook
pub mod FileFaultRead
pub mod WrittenFileLemmas
