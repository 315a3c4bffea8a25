-- What commit_journal has proved, for callers.
pub use Rattle.fresh_checkpoints.proofs.CommitJournal.Opening
