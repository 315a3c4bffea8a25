-- What journal_halves says, for callers.
pub use Rattle.cloud_disk.specs.JournalHalves.Beginnings
pub use Rattle.cloud_disk.specs.JournalHalves.Findings
pub use Rattle.cloud_disk.specs.JournalHalves.Halves
pub use Rattle.cloud_disk.specs.JournalHalves.Journals
pub use Rattle.cloud_disk.specs.JournalHalves.Outcomes
pub use Rattle.cloud_disk.specs.JournalHalves.States
pub use Rattle.cloud_disk.specs.JournalHalves.errors
pub use Rattle.cloud_disk.specs.JournalHalves.found
