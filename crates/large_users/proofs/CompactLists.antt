-- What compact_lists has proved, for callers.
pub use Rattle.compact_memories.proofs.CompactLists.Spent
