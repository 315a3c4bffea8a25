-- What journal_halves says, for callers.
pub use Rattle.cloud_store.specs.JournalHalves.Journals
