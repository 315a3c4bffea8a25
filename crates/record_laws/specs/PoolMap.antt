-- What pool_map says, for callers.
pub use Rattle.record_checks.specs.PoolMap.Slots
