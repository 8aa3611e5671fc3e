pub mod Sha
pub mod Words
pub mod Window
pub mod Measures
