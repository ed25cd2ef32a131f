pub mod Winning
pub mod Topping
pub mod Fitting
