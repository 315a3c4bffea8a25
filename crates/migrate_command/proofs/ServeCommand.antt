-- What serve_command has proved, for callers.
pub use Rattle.command_cloud.proofs.ServeCommand.Completing
pub use Rattle.command_cloud.proofs.ServeCommand.ShareServer
pub use Rattle.command_cloud.proofs.ServeCommand.Texts
