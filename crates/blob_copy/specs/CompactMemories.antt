-- What compact_memories says, for callers.
pub use Rattle.fresh_checkpoints.specs.CompactMemories.Kept
pub use Rattle.fresh_checkpoints.specs.CompactMemories.Moved
