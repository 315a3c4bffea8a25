-- What cloud_memory says, for callers.
pub use Rattle.share_server.specs.CloudMemory.Memory
pub use Rattle.share_server.specs.CloudMemory.Rooms
