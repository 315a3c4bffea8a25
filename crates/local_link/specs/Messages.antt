-- What messages says, for callers.
pub use Rattle.share_server.specs.Messages.Replies
pub use Rattle.share_server.specs.Messages.Requests
pub use Rattle.share_server.specs.Messages.reply
pub use Rattle.share_server.specs.Messages.request
pub use Rattle.messages.specs.ReplyReading
