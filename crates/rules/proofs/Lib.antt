pub mod Recording
pub mod Listing
pub mod Targets
pub mod Heads
pub mod Patterns
