-- What container_log says, for callers.
pub use Rattle.checkpoints.specs.ContainerLog.Laying
pub use Rattle.checkpoints.specs.ContainerLog.Places
