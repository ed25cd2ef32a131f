pub mod Ranges
pub mod Parts
pub mod Trims
pub mod Blocks
