pub mod InputCheck
pub mod Computing
