-- What pool_map says, for callers.
pub use Rattle.file_index.specs.PoolMap.Accounts
pub use Rattle.file_index.specs.PoolMap.MapSums
pub use Rattle.file_index.specs.PoolMap.Slots
pub use Rattle.file_index.specs.PoolMap.accounts
