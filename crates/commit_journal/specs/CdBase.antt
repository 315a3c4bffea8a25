-- What cd_base says, for callers.
pub use Rattle.journal_halves.specs.CdBase.Limits
pub use Rattle.journal_halves.specs.CdBase.Numbers
pub use Rattle.journal_halves.specs.CdBase.ids
pub use Rattle.journal_halves.specs.CdBase.place
pub use Rattle.journal_halves.specs.CdBase.rooms
pub use Rattle.journal_halves.specs.CdBase.shape
