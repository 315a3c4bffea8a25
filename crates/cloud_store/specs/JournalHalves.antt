-- What journal_halves says, for callers.
pub use Rattle.checkpoints.specs.JournalHalves.Journals
