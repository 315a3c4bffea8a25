-- What cloud_memory says, for callers.
pub use Rattle.record_laws.specs.RecordChecks.CloudMemory.Memory
pub use Rattle.record_laws.specs.RecordChecks.CloudMemory.Rooms
