-- What message_fields says, for callers.
pub use Rattle.journal_start.specs.MessageFields.Fingerprints
pub use Rattle.journal_start.specs.MessageFields.Flags
pub use Rattle.journal_start.specs.MessageFields.Keys
pub use Rattle.journal_start.specs.MessageFields.Parts
pub use Rattle.journal_start.specs.MessageFields.Readings
pub use Rattle.journal_start.specs.MessageFields.Shares
