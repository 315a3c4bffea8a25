-- What cloud_memory says, for callers.
pub use Rattle.cloud_memory.specs.Live
pub use Rattle.cloud_memory.specs.Memory
pub use Rattle.cloud_memory.specs.Sharing
pub use Rattle.cloud_memory.specs.declared.cloud
