pub mod Winner
pub mod Phrases
pub mod Top
pub mod Computing
