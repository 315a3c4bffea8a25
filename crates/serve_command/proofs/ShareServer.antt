-- What share_server has proved, for callers.
pub use Rattle.share_server.proofs.NoCommands
