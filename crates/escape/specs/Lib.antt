pub mod Escape
pub mod Phrases
pub mod Computing
