-- What audit_base has proved, for callers.
pub use Rattle.audit_base.proofs.Wholeness
