pub mod Patterns
pub mod Extending
pub mod RuleLines
