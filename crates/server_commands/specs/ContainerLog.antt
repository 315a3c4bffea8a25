-- What container_log says, for callers.
pub use Rattle.server_reads.specs.ContainerLog.Caches
pub use Rattle.server_reads.specs.ContainerLog.Laying
pub use Rattle.server_reads.specs.ContainerLog.States
