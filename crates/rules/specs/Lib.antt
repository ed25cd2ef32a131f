pub mod Heading
pub mod Rules
pub mod Computing
