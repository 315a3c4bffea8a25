-- What message_fields says, for callers.
pub use Rattle.cloud_memory.specs.MessageFields.Shares
