-- What serve_command has proved, for callers.
pub use Rattle.serve_command.proofs.Completing
pub use Rattle.serve_command.proofs.ShareServer
pub use Rattle.serve_command.proofs.Texts
