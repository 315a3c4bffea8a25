pub mod Beside
pub mod Ordered
