pub mod Printing
pub mod Lengths
