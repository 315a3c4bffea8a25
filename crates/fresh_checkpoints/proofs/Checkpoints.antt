-- What checkpoints has proved, for callers.
pub use Rattle.compact_memories.proofs.Checkpoints.Apartness
pub use Rattle.compact_memories.proofs.Checkpoints.Given
pub use Rattle.compact_memories.proofs.Checkpoints.InPlace
pub use Rattle.compact_memories.proofs.Checkpoints.Picks
pub use Rattle.compact_memories.proofs.Checkpoints.Sought
pub use Rattle.compact_memories.proofs.Checkpoints.Summed
