-- What audit_base says, for callers.
pub use Rattle.audit_base.specs.Judged
pub use Rattle.audit_base.specs.Own
pub use Rattle.audit_base.specs.Served
pub use Rattle.audit_base.specs.Whole
pub use Rattle.audit_base.specs.declared.errors
