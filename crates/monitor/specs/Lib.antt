pub mod Stage
pub mod Called
pub mod Promises
