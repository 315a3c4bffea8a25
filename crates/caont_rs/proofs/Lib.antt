pub mod Packages
pub mod Openings
pub mod Opened
pub mod Exactly
