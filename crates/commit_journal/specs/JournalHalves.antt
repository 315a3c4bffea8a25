-- What journal_halves says, for callers.
pub use Rattle.journal_halves.specs.Beginnings
pub use Rattle.journal_halves.specs.Findings
pub use Rattle.journal_halves.specs.Frames
pub use Rattle.journal_halves.specs.Halves
pub use Rattle.journal_halves.specs.Journals
pub use Rattle.journal_halves.specs.Outcomes
pub use Rattle.journal_halves.specs.Records
pub use Rattle.journal_halves.specs.States
pub use Rattle.journal_halves.specs.declared.errors
pub use Rattle.journal_halves.specs.declared.found
