-- What cloud_memory says, for callers.
pub use Rattle.checkpoints.specs.CloudMemory.Rooms
