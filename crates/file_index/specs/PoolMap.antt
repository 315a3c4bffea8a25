-- What pool_map says, for callers.
pub use Rattle.pool_map.specs.Accounts
pub use Rattle.pool_map.specs.MapSums
pub use Rattle.pool_map.specs.Slots
pub use Rattle.pool_map.specs.declared.accounts
