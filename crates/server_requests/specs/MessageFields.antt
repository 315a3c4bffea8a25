-- What message_fields says, for callers.
pub use Rattle.server_commands.specs.MessageFields.Keys
pub use Rattle.server_commands.specs.MessageFields.Shares
