-- What cloud_memory has proved, for callers.
pub use Rattle.compact_memories.proofs.CloudMemoryLaws.Fitting
