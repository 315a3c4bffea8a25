pub mod Order
pub mod Keeping
