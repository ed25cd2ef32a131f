pub mod Limits
pub mod Fitting
pub mod Moving
pub mod Stepping
pub mod RunLayout
pub mod RunWords
