pub mod Walking
pub mod Parameters
