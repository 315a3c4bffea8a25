-- What message_fields says, for callers.
pub use Rattle.server_reads.specs.MessageFields.Fingerprints
pub use Rattle.server_reads.specs.MessageFields.Keys
pub use Rattle.server_reads.specs.MessageFields.Shares
