-- What message_fields says, for callers.
pub use Rattle.messages.specs.MessageFields.Shares
