-- What journal_halves says, for callers.
pub use Rattle.cloud_disk.specs.JournalHalves.Beginnings
pub use Rattle.cloud_disk.specs.JournalHalves.Findings
pub use Rattle.cloud_disk.specs.JournalHalves.Frames
pub use Rattle.cloud_disk.specs.JournalHalves.Halves
pub use Rattle.cloud_disk.specs.JournalHalves.Records
