pub mod Kinds
pub mod Step
pub mod Faults
pub mod Phrases
pub mod Computing
