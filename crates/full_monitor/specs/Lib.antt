pub mod Limits
pub mod Program
pub mod Outcomes
pub mod Called
pub mod Promises
