pub mod Names
pub mod Marks
pub mod Computing
