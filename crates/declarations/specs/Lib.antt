pub mod Declarations
pub mod Stages
pub mod Answers
pub mod Areas
pub mod Phrases
pub mod Computing
