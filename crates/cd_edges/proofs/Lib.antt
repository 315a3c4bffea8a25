pub mod Calls
mod Known
pub mod Moments
pub mod Overwritten
pub mod Passing
pub mod Runs
pub mod Shrinks
pub mod Since
pub mod Torn
pub mod Windows
