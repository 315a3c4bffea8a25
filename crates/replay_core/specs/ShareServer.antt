-- What share_server says, for callers.
pub use Rattle.share_server.specs.declared.server
