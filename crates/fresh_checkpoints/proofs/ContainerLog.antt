-- What container_log has proved, for callers.
pub use Rattle.cloud_disk.proofs.ContainerLog.Blobs
