-- What message_fields says, for callers.
pub use Rattle.message_fields.specs.Fingerprints
pub use Rattle.message_fields.specs.Flags
pub use Rattle.message_fields.specs.Keys
pub use Rattle.message_fields.specs.Parts
pub use Rattle.message_fields.specs.Readings
pub use Rattle.message_fields.specs.Shares
