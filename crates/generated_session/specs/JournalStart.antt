-- What journal_start says, for callers.
pub use Rattle.replay_core.specs.JournalStart.Ranges
