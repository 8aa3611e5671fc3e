pub mod Instructions
pub mod Faults
pub mod Lent
pub mod Held
pub mod Meaning
pub mod Came
pub mod Promises
