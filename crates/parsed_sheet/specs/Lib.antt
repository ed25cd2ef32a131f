pub mod Accepted
pub mod Meaning
pub mod Computing
