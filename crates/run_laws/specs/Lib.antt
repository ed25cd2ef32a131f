pub mod Calls
pub mod Pieces
pub mod Always
