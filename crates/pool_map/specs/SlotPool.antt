-- What slot_pool says, for callers.
pub use Rattle.slot_pool.specs.Pool
pub use Rattle.slot_pool.specs.declared.Content
