-- What share_server has proved, for callers.
pub use Rattle.local_link.proofs.ShareServer.NoCommands
