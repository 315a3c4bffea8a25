-- What messages says, for callers.
pub use Rattle.server_commands.specs.Messages.Answering
pub use Rattle.server_commands.specs.Messages.Parts
pub use Rattle.server_commands.specs.Messages.Replies
pub use Rattle.server_commands.specs.Messages.RequestReading
pub use Rattle.server_commands.specs.Messages.Requests
pub use Rattle.server_commands.specs.Messages.reply
pub use Rattle.server_commands.specs.Messages.request
