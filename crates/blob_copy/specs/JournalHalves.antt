-- What journal_halves says, for callers.
pub use Rattle.fresh_checkpoints.specs.JournalHalves.Beginnings
pub use Rattle.fresh_checkpoints.specs.JournalHalves.Findings
pub use Rattle.fresh_checkpoints.specs.JournalHalves.Halves
