pub mod Loop
pub mod Recipes
pub mod Lengths
pub mod Tails
pub mod Written
