-- What commit_journal has proved, for callers.
pub use Rattle.commit_journal.proofs.Kept
pub use Rattle.commit_journal.proofs.Opening
