-- What pool_map says, for callers.
pub use Rattle.checkpoints.specs.PoolMap.Accounts
pub use Rattle.checkpoints.specs.PoolMap.Slots
