-- What messages has proved, for callers.
pub use Rattle.server_requests.proofs.Messages.RequestLaws
