-- What journal_halves has proved, for callers.
pub use Rattle.cloud_disk.proofs.JournalHalves.Chain
pub use Rattle.cloud_disk.proofs.JournalHalves.Headed
pub use Rattle.cloud_disk.proofs.JournalHalves.Unique
