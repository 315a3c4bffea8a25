-- What cloud_memory says, for callers.
pub use Rattle.cloud_memory.specs.Fitting
pub use Rattle.cloud_memory.specs.Greatest
pub use Rattle.cloud_memory.specs.Live
pub use Rattle.cloud_memory.specs.Memory
pub use Rattle.cloud_memory.specs.Moving
pub use Rattle.cloud_memory.specs.News
pub use Rattle.cloud_memory.specs.Rooms
pub use Rattle.cloud_memory.specs.Sharing
pub use Rattle.cloud_memory.specs.Steps
pub use Rattle.cloud_memory.specs.declared.cloud
pub use Rattle.cloud_memory.specs.declared.rooms
