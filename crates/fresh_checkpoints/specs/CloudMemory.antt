-- What cloud_memory says, for callers.
pub use Rattle.compact_memories.specs.CloudMemory.Fitting
pub use Rattle.compact_memories.specs.CloudMemory.Greatest
pub use Rattle.compact_memories.specs.CloudMemory.Live
pub use Rattle.compact_memories.specs.CloudMemory.Memory
pub use Rattle.compact_memories.specs.CloudMemory.Rooms
pub use Rattle.compact_memories.specs.CloudMemory.cloud
