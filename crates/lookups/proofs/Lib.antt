mod Slots
mod Parts
pub mod Checking
pub mod Right
pub mod Edited
