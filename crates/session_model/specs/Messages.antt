-- What messages says, for callers.
pub use Rattle.rebuild.specs.Messages.reply
pub use Rattle.rebuild.specs.Messages.request
