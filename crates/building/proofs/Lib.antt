mod Filled
pub mod Checked
pub mod Written
