-- What journal_halves says, for callers.
pub use Rattle.fresh_checkpoints.specs.JournalHalves.Halves
