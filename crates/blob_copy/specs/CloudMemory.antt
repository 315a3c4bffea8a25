-- What cloud_memory says, for callers.
pub use Rattle.fresh_checkpoints.specs.CloudMemory.Live
pub use Rattle.fresh_checkpoints.specs.CloudMemory.Memory
pub use Rattle.fresh_checkpoints.specs.CloudMemory.Rooms
