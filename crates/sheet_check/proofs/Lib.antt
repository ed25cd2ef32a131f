pub mod Judging
pub mod Sheets
pub mod Checked
pub mod Quick
pub mod Patterns
pub mod PatternWords
