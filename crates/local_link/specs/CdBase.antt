-- What cd_base says, for callers.
pub use Rattle.cloud_server.specs.CdBase.Reading
