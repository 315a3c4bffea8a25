-- What cloud_memory says, for callers.
pub use Rattle.serve_command.specs.CloudMemory.Memory
pub use Rattle.serve_command.specs.CloudMemory.Rooms
