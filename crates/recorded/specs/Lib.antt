pub mod Records
pub mod Cursor
pub mod Comparison
