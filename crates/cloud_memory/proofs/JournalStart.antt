-- What journal_start has proved, for callers.
pub use Rattle.cloud_areas.proofs.JournalStart.Whole
