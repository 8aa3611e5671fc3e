mod Kept
mod Refilled
