-- What journal_halves says, for callers.
pub use Rattle.commit_journal.specs.JournalHalves.Beginnings
pub use Rattle.commit_journal.specs.JournalHalves.Findings
pub use Rattle.commit_journal.specs.JournalHalves.Frames
pub use Rattle.commit_journal.specs.JournalHalves.Halves
pub use Rattle.commit_journal.specs.JournalHalves.Journals
pub use Rattle.commit_journal.specs.JournalHalves.Outcomes
pub use Rattle.commit_journal.specs.JournalHalves.Records
pub use Rattle.commit_journal.specs.JournalHalves.States
pub use Rattle.commit_journal.specs.JournalHalves.errors
pub use Rattle.commit_journal.specs.JournalHalves.found
