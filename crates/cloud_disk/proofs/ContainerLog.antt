-- What container_log has proved, for callers.
pub use Rattle.cloud_areas.proofs.ContainerLog.Blobs
