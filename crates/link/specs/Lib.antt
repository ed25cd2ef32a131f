pub mod Areas
pub mod Link
pub mod Matches
pub mod Phrases
pub mod Computing
