-- What cd_base says, for callers.
pub use Rattle.commit_journal.specs.CdBase.Limits
pub use Rattle.commit_journal.specs.CdBase.ids
pub use Rattle.commit_journal.specs.CdBase.place
pub use Rattle.commit_journal.specs.CdBase.rooms
pub use Rattle.commit_journal.specs.CdBase.shape
