pub mod Records
pub mod Edits
pub mod Seen
