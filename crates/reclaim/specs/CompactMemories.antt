-- What compact_memories says, for callers.
pub use Rattle.compact_memories.specs.Kept
pub use Rattle.compact_memories.specs.Moved
pub use Rattle.compact_memories.specs.declared.alive
