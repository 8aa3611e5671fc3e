mod Words
pub mod Checked
pub mod Written
