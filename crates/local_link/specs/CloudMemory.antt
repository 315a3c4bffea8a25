-- What cloud_memory says, for callers.
pub use Rattle.cloud_server.specs.CloudMemory.Memory
pub use Rattle.cloud_server.specs.CloudMemory.Rooms
