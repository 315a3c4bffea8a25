-- What container_log says, for callers.
pub use Rattle.cloud_memory.specs.ContainerLog.Kept
pub use Rattle.cloud_memory.specs.ContainerLog.Laying
pub use Rattle.cloud_memory.specs.ContainerLog.Places
pub use Rattle.cloud_memory.specs.ContainerLog.States
