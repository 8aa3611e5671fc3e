mod Staged
pub mod Told
