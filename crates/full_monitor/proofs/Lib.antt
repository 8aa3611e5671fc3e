mod Doing
mod Whose
pub mod RightSystem
pub mod RightCell
pub mod Right
mod Bounded
pub mod Keeping
pub mod GoingOn
pub mod Telling
pub mod Staying
