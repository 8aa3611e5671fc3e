pub mod Bitwise
pub mod Elements
pub mod Lanes
pub mod Schedule
pub mod Message
pub mod Measured
