-- What server_reads says, for callers.
pub use Rattle.server_reads.specs.Allowed
pub use Rattle.server_reads.specs.CloudMemory
pub use Rattle.server_reads.specs.Found
pub use Rattle.server_reads.specs.Owned
