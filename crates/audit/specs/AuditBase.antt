-- What audit_base says, for callers.
pub use Rattle.blob_audit.specs.AuditBase.Judged
pub use Rattle.blob_audit.specs.AuditBase.Own
pub use Rattle.blob_audit.specs.AuditBase.Whole
pub use Rattle.blob_audit.specs.AuditBase.errors
