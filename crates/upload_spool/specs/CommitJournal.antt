-- What commit_journal says, for callers.
pub use Rattle.commit_journal.specs.declared.journal
