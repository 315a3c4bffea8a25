-- What messages says, for callers.
pub use Rattle.user_dedup.specs.Messages.Answering
pub use Rattle.user_dedup.specs.Messages.Parts
pub use Rattle.user_dedup.specs.Messages.Replies
pub use Rattle.user_dedup.specs.Messages.ReplyReading
pub use Rattle.user_dedup.specs.Messages.RequestReading
pub use Rattle.user_dedup.specs.Messages.Requests
pub use Rattle.user_dedup.specs.Messages.reply
pub use Rattle.user_dedup.specs.Messages.request
