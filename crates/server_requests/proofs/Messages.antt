-- What messages has proved, for callers.
pub use Rattle.server_commands.proofs.Messages.RequestLaws
