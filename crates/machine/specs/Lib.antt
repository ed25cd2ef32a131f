pub mod File
pub mod Machine
pub mod Means
pub mod Demand
pub mod Words
pub mod Computing
