-- What container_log has proved, for callers.
pub use Rattle.record_checks.proofs.ContainerLog.Laid
pub use Rattle.record_checks.proofs.ContainerLog.Least
pub use Rattle.record_checks.proofs.ContainerLog.Staged
