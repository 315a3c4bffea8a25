-- What file_index says, for callers.
pub use Rattle.audit_base.specs.FileIndex.Files
pub use Rattle.audit_base.specs.FileIndex.key
