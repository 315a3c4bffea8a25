-- What messages has proved, for callers.
pub use Rattle.messages.proofs.RequestLaws
