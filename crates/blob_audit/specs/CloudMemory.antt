-- What cloud_memory says, for callers.
pub use Rattle.audit_base.specs.CloudMemory.Memory
pub use Rattle.audit_base.specs.CloudMemory.cloud
