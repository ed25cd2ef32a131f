pub mod Appending
pub mod Numbers
pub mod AreaFields
pub mod Lengths
