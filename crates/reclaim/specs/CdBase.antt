-- What cd_base says, for callers.
pub use Rattle.share_server.specs.CdBase.ids
pub use Rattle.share_server.specs.CdBase.shape
