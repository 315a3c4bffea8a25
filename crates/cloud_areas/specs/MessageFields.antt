-- What message_fields says, for callers.
pub use Rattle.user_dedup.specs.MessageFields.Fingerprints
pub use Rattle.user_dedup.specs.MessageFields.Keys
pub use Rattle.user_dedup.specs.MessageFields.Shares
