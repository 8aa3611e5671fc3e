mod Puts
mod Steps
pub mod GoodMade
mod Settled
pub mod InWords
pub mod Right
mod Told
