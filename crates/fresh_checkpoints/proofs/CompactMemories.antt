-- What compact_memories has proved, for callers.
pub use Rattle.compact_memories.proofs.Copies
pub use Rattle.compact_memories.proofs.Keeping
pub use Rattle.compact_memories.proofs.Live
pub use Rattle.compact_memories.proofs.Lying
pub use Rattle.compact_memories.proofs.Moving
pub use Rattle.compact_memories.proofs.Numbers
pub use Rattle.compact_memories.proofs.Relaying
pub use Rattle.compact_memories.proofs.Summing
pub use Rattle.compact_memories.proofs.Sums
