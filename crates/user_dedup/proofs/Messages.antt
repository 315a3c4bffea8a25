-- What messages has proved, for callers.
pub use Rattle.messages.proofs.ByKind
pub use Rattle.messages.proofs.ReplyLaws
pub use Rattle.messages.proofs.RequestLaws
