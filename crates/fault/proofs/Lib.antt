pub mod Spans
pub mod Steps
pub mod Yielding
