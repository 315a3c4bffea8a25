-- What certificate says, for callers.
pub use Rattle.audit_base.specs.Certificate.Lines
