pub mod Class
pub mod Walk
pub mod Whitespace
pub mod Utf8
pub mod Shortcuts
pub mod Unicode
pub mod Computing
