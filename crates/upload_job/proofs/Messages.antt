-- What messages has proved, for callers.
pub use Rattle.user_dedup.proofs.Messages.ByKind
pub use Rattle.user_dedup.proofs.Messages.ReplyLaws
pub use Rattle.user_dedup.proofs.Messages.RequestLaws
