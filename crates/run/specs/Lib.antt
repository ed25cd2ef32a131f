pub mod Run
pub mod Phrases
pub mod Computing
