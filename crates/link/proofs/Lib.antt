pub mod LinkedRules
pub mod Counting
pub mod Outcomes
pub mod LinkLaws
pub mod Matching
pub mod LinkWords
pub mod Writing
