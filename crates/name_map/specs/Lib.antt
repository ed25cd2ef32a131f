pub mod Map
pub mod Home
pub mod Index
pub mod Phrases
pub mod Computing
