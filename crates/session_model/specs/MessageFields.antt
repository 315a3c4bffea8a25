-- What message_fields says, for callers.
pub use Rattle.rebuild.specs.MessageFields.Fingerprints
pub use Rattle.rebuild.specs.MessageFields.Keys
