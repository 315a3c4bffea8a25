-- What pool_map says, for callers.
pub use Rattle.cloud_memory.specs.PoolMap.Accounts
pub use Rattle.cloud_memory.specs.PoolMap.MapSums
pub use Rattle.cloud_memory.specs.PoolMap.Slots
pub use Rattle.cloud_memory.specs.PoolMap.accounts
