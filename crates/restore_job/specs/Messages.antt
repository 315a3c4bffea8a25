-- What messages says, for callers.
pub use Rattle.user_dedup.specs.Messages.reply
pub use Rattle.user_dedup.specs.Messages.request
