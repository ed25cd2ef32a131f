pub mod Options
pub mod Request
pub mod Section
pub mod Reader
pub mod Computing
