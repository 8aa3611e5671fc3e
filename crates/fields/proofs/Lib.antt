pub mod Lists
pub mod Lawful
pub mod Pieces
pub mod Bodies
pub mod Rows
mod Fronts
pub mod Puts
