-- What messages says, for callers.
pub use Rattle.messages.specs.Answering
pub use Rattle.messages.specs.Replies
pub use Rattle.messages.specs.Requests
pub use Rattle.messages.specs.declared.reply
pub use Rattle.messages.specs.declared.request
