-- What audit_base says of a memory, for callers.
pub use Rattle.blob_audit.specs.AuditBase.Whole
