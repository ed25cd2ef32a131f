pub mod Chunks
pub mod Maps
pub mod Homes
pub mod Slots
pub mod Probing
