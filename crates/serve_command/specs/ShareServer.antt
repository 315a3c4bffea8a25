-- What share_server says, for callers.
pub use Rattle.share_server.specs.Names
pub use Rattle.share_server.specs.Openings
pub use Rattle.share_server.specs.Serving
pub use Rattle.share_server.specs.declared.server
