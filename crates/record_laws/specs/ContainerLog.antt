-- What container_log says, for callers.
pub use Rattle.record_checks.specs.ContainerLog.Caches
pub use Rattle.record_checks.specs.ContainerLog.Laying
pub use Rattle.record_checks.specs.ContainerLog.Places
pub use Rattle.record_checks.specs.ContainerLog.States
