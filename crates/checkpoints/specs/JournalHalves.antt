-- What journal_halves says, for callers.
pub use Rattle.cloud_disk.specs.JournalHalves.Halves
pub use Rattle.cloud_disk.specs.JournalHalves.Journals
