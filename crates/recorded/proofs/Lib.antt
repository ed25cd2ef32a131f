pub mod Reading
pub mod Made
pub mod Comparing
pub mod Pieces
