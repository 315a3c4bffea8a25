-- What container_log has proved, for callers.
pub use Rattle.cloud_areas.proofs.ContainerLog.Laid
pub use Rattle.cloud_areas.proofs.ContainerLog.Least
pub use Rattle.cloud_areas.proofs.ContainerLog.Rooms
pub use Rattle.cloud_areas.proofs.ContainerLog.Staged
