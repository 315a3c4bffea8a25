-- What cd_base says, for callers.
pub use Rattle.transcript.specs.CdBase.Limits
pub use Rattle.transcript.specs.CdBase.ids
pub use Rattle.transcript.specs.CdBase.shape
