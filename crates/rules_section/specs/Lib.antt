pub mod RulesSection
pub mod Answers
pub mod Areas
pub mod Phrases
pub mod Computing
