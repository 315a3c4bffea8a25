-- What compact_lists says, for callers.
pub use Rattle.compact_memories.specs.CompactLists.Live
