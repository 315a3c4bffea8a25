-- What cd_base says, for callers.
pub use Rattle.journal_start.specs.CdBase.Lengths
pub use Rattle.journal_start.specs.CdBase.Limits
pub use Rattle.journal_start.specs.CdBase.Numbers
pub use Rattle.journal_start.specs.CdBase.Order
pub use Rattle.journal_start.specs.CdBase.Reading
pub use Rattle.journal_start.specs.CdBase.ids
pub use Rattle.journal_start.specs.CdBase.place
pub use Rattle.journal_start.specs.CdBase.rooms
pub use Rattle.journal_start.specs.CdBase.shape
