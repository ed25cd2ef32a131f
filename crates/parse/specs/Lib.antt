pub mod Answers
pub mod Parse
pub mod Phrases
pub mod Computing
