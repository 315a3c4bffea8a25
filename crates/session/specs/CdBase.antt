-- What cd_base says, for callers.
pub use Rattle.journal_start.specs.CdBase.Limits
pub use Rattle.journal_start.specs.CdBase.ids
pub use Rattle.journal_start.specs.CdBase.shape
