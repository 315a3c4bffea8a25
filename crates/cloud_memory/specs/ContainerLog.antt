-- What container_log says, for callers.
pub use Rattle.cloud_areas.specs.ContainerLog.Caches
pub use Rattle.cloud_areas.specs.ContainerLog.Kept
pub use Rattle.cloud_areas.specs.ContainerLog.Laying
pub use Rattle.cloud_areas.specs.ContainerLog.Places
pub use Rattle.cloud_areas.specs.ContainerLog.States
