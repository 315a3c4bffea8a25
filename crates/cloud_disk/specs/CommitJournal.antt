-- What commit_journal says, for callers.
pub use Rattle.commit_journal.specs.Leaving
pub use Rattle.commit_journal.specs.Openings
pub use Rattle.commit_journal.specs.Outcomes
pub use Rattle.commit_journal.specs.States
pub use Rattle.commit_journal.specs.Turning
pub use Rattle.commit_journal.specs.declared.errors
pub use Rattle.commit_journal.specs.declared.journal
