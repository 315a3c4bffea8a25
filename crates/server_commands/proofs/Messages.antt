-- What messages has proved, for callers.
pub use Rattle.server_reads.proofs.Messages.RequestLaws
