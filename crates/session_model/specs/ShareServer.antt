-- What share_server says, for callers.
pub use Rattle.local_link.specs.ShareServer.Names
pub use Rattle.local_link.specs.ShareServer.Refusals
pub use Rattle.local_link.specs.ShareServer.Serving
pub use Rattle.local_link.specs.ShareServer.server
