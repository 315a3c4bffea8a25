-- What pool_map says, for callers.
pub use Rattle.record_laws.specs.PoolMap.Slots
