-- What message_fields says, for callers.
pub use Rattle.messages.specs.MessageFields.Fingerprints
pub use Rattle.messages.specs.MessageFields.Keys
pub use Rattle.messages.specs.MessageFields.Shares
