pub mod Calling
pub mod Whole
