-- What cloud_memory says, for callers.
pub use Rattle.checkpoints.specs.CloudMemory.Fitting
pub use Rattle.checkpoints.specs.CloudMemory.Greatest
pub use Rattle.checkpoints.specs.CloudMemory.Live
pub use Rattle.checkpoints.specs.CloudMemory.Memory
pub use Rattle.checkpoints.specs.CloudMemory.Moving
pub use Rattle.checkpoints.specs.CloudMemory.Rooms
pub use Rattle.checkpoints.specs.CloudMemory.Sharing
pub use Rattle.checkpoints.specs.CloudMemory.Steps
pub use Rattle.checkpoints.specs.CloudMemory.cloud
