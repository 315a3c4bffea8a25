-- What cloud_memory says, for callers.
pub use Rattle.compact_memories.specs.CloudMemory.Rooms
pub use Rattle.compact_memories.specs.CloudMemory.cloud
