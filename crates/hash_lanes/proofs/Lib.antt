pub mod Runs
pub mod Tails
pub mod Vectors
