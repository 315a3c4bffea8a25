-- What cloud_memory says, for callers.
pub use Rattle.blob_copy.specs.CloudOpening.CloudMemory.Memory
pub use Rattle.blob_copy.specs.CloudOpening.CloudMemory.Rooms
