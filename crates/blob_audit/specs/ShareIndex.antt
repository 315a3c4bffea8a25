-- What share_index says, for callers.
pub use Rattle.audit_base.specs.ShareIndex.Placed
