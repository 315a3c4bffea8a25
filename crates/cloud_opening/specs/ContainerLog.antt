-- What container_log says, for callers.
pub use Rattle.cloud_disk.specs.ContainerLog.Laying
