pub mod Range
pub mod Scan
pub mod Computing
