pub mod Table
pub mod Kinds
pub mod Meaning
pub mod Promises
pub mod Reasons
pub mod Endings
