-- What container_log has proved, for callers.
pub use Rattle.cloud_memory.proofs.ContainerLog.Least
pub use Rattle.cloud_memory.proofs.ContainerLog.Staged
