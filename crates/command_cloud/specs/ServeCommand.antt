-- What serve_command says, for callers.
pub use Rattle.serve_command.specs.CloudAreas
pub use Rattle.serve_command.specs.Complete
pub use Rattle.serve_command.specs.Served
