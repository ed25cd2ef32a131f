pub mod Lines
pub mod CodePoints
pub mod ThereAndBack
pub mod Places
pub mod Computing
