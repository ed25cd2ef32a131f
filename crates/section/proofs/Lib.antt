pub mod Lines
pub mod Reading
pub mod NextLine
pub mod Readers
