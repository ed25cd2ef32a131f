pub mod Calls
pub mod Covering
pub mod Stacks
pub mod Operated
pub mod Cases
pub mod OneCall
pub mod Started
pub mod Always
