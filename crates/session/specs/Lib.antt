pub mod Flat
pub mod Holding
pub mod Opening
pub mod Staging
