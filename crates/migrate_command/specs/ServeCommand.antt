-- What serve_command says, for callers.
pub use Rattle.command_cloud.specs.ServeCommand.CloudAreas
pub use Rattle.command_cloud.specs.ServeCommand.Complete
pub use Rattle.command_cloud.specs.ServeCommand.Served
