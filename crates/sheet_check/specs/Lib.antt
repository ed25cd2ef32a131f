pub mod SheetCheck
pub mod Phrases
pub mod Pattern
pub mod Computing
