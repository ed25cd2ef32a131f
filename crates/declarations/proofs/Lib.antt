pub mod Words
pub mod Expecting
pub mod Declares
pub mod Lines
