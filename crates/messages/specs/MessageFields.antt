-- What message_fields says, for callers.
pub use Rattle.message_fields.specs.Fingerprints
pub use Rattle.message_fields.specs.Keys
pub use Rattle.message_fields.specs.Shares
