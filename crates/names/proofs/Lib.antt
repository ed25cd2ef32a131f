pub mod Forms
pub mod Finds
pub mod Marking
pub mod Distinct
