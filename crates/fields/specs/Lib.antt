pub mod Bytes
pub mod Codec
pub mod Shapes
pub mod Tables
pub mod Steps
pub mod Promises
