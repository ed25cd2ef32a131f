pub mod References
pub mod Shapes
pub mod Tuples
pub mod Locals
pub mod Lending
