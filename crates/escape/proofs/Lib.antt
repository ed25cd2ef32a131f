pub mod Kept
pub mod Backslashes
pub mod Steps
pub mod Passed
pub mod Writing
pub mod Characters
