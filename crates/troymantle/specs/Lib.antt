pub mod Words
pub mod LinkWords
pub mod RunWords
pub mod Phrases
