pub mod Coded
pub mod Files
pub mod Kept
pub mod Order
pub mod PoolMap
