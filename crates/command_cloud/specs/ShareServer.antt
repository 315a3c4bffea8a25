-- What share_server says, for callers.
pub use Rattle.serve_command.specs.ShareServer.Names
pub use Rattle.serve_command.specs.ShareServer.Serving
pub use Rattle.serve_command.specs.ShareServer.server
